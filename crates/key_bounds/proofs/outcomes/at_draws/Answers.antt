use Rattle.league_core.specs.search.Options.{is_draw}
use Rattle.key_bounds.proofs.PartLemmas.{none_pass}
use Rattle.key_bounds.proofs.outcomes.at_draws.Goals as goal

pub returns-in-None : goal.returns-in-None
returns-in-None c = none_pass c.args.cell.now is_draw c.in-None.ensures.goals

pub returns-in-Some : goal.returns-in-Some
returns-in-Some c = c.of_draw.ensures c.args.cell.now c.in-Some.ensures.goals
