use Rattle.league_core.specs.search.SureOrder.{sure_by_points}
use Rattle.tie_bound.specs.inside.Boxes.{options_in_box}
use Rattle.tie_bound.proofs.AnswerLemmas.{AreAnswersBelow}
use Rattle.tie_bound.proofs.answers.by_least.Given as goal

-- the answers passed are those by points
abbrev pub invariant-loop-rival : goal.invariant-loop-rival
invariant-loop-rival l =
    AreAnswersBelow (λ rival. sure_by_points l.zone_box.sheet l.zone_box.season
    (options_in_box l.zone_box) rival l.club) l.rival l.answers
