use Rattle.near_bound.proofs.MarginLemmas.{least_at, no_least}
use Rattle.near_bound.proofs.margin.least_margin.Goals as goal

pub returns-in-Some-clause-least : goal.returns-in-Some-clause-least
returns-in-Some-clause-least c = λ options is.
    least_at c.args.left.now c.args.fixture options c.args.front c.args.back c.in-Some.score
    c.margin_at.result c.requires c.in-Some.ensures c.margin_at.ensures.value is

pub returns-in-None-clause-least : goal.returns-in-None-clause-least
returns-in-None-clause-least c = λ options is.
    no_least c.args.left.now c.args.fixture options c.args.front c.args.back c.in-None.ensures is
