-- The session of a cup has a text, whatever its input is.
use Rattle.std.proofs.Common.{Bool}
use Rattle.cup_decided.proofs.CupAnswerLemmas.{cup_has_answer}
use Rattle.cup_turns.proofs.CupAnsweredLemmas.{cup-answered}
use Rattle.run_ends.proofs.RunTextLemmas.{IsAnswered}
use Rattle.futmax_main.specs.CupModes.{IsGroupsAnswer, groups_kind}

-- each ask has an answer
pub groups-answered : (proofs : Bool) → IsAnswered (groups_kind proofs)
groups-answered proofs =
    cup-answered (IsGroupsAnswer proofs)
    (λ played is. cup_has_answer proofs played.cup played.seasons played.epoch is.cup is.of_groups
    is.results)
