use Rattle.std.proofs.Common.{◌≡◌, ◌≤◌, ◌∷◌, ◌++◌, ℕ, List, Option, length}
use Rattle.league_core.specs.declared.season.Score.{Score}
use Rattle.league_core.specs.declared.question.Claim.{Claim}
use Rattle.cup_grammar.specs.CupDues.{CupDue, cup_scores_due}
use Rattle.cup_check.specs.inside.CupGoes.{cup_ending_from}
use Rattle.cup_check.specs.inside.JointCalls.{HasScoresOver, group_scores_due}
use Rattle.cup_check.proofs.report.CupReport.group_finish.Given as goal

abbrev pub invariant-loop-fixture : goal.invariant-loop-fixture
invariant-loop-fixture l =
    (l.at ≤ length l.self.tokens)
    × HasScoresOver l.group.season l.finish
    × ((claim : Claim) (club : ℕ) (ended left : List (Option Score)) (dues : List CupDue)
    (unsettled : ℕ) → length ended ≡ l.group.start.fixture
    → cup_ending_from l.self l.from
    (cup_scores_due claim club ended (l.group.season.scores ++ left) ∷ dues) unsettled
    ≡ cup_ending_from l.self l.at
    (group_scores_due claim club ended l.fixture l.finish.scores left ∷ dues) unsettled)
