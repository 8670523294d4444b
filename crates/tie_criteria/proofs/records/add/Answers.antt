use Rattle.std.proofs.Common.{true, false}
use Rattle.tie_criteria.proofs.RecordLemmas.{added}
use Rattle.tie_criteria.proofs.records.add.Goals as goal

pub returns : goal.returns
returns c =
    added c.args.found.now c.args.fixture c.args.score c.plus-home.result c.plus-away.result
    c.requires.different c.requires.home c.requires.away (c.plus-home.ensures false)
    (c.plus-away.ensures true)
