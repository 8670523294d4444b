use Rattle.league_core.specs.search.Options.{is_away_win}
use Rattle.key_bounds.proofs.PartLemmas.{none_pass}
use Rattle.key_bounds.proofs.outcomes.at_away_wins.Goals as goal

pub returns-in-None : goal.returns-in-None
returns-in-None c = none_pass c.args.cell.now is_away_win c.in-None.ensures.goals

pub returns-in-Some : goal.returns-in-Some
returns-in-Some c = c.of_away_win.ensures c.args.cell.now c.in-Some.ensures.goals
