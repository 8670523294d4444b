-- The reach of a club decides its verdict for every line: each statement is the contract of a
-- function of src/laws.rt that does nothing.
use Rattle.std.specs.Prelude.{◌<◌, ◌≤◌, ℕ, IsTrue, length}
use Rattle.league_core.specs.declared.sheet.Sheet.{Sheet}
use Rattle.league_core.specs.declared.question.Claim.TheVariants.{Inside, Outside}
use Rattle.league_core.specs.game.Sheets.{IsWithinLimits}
use Rattle.league_core.specs.game.Results.{Results, are_results}
use Rattle.league_core.specs.game.Verdicts.{IsClinched, IsLost}
use Rattle.reference_programs.specs.declared.reach.Reach.{Reach}
use Rattle.reference_programs.specs.inside.Reaches.{IsReachOf}
use Rattle.reference_programs.specs.inside.Outcomes.{Shows}

-- a club whose worst place is inside the line has clinched it
abbrev pub ClinchedByTheWorst : Type 0
ClinchedByTheWorst =
    (sheet : Sheet) (season : Results) (club line : ℕ) (reach : Reach)
    → IsReachOf sheet season club reach → reach.worst ≤ line → IsClinched sheet season club line

-- a club whose best place is outside the line has lost it
abbrev pub LostByTheBest : Type 0
LostByTheBest =
    (sheet : Sheet) (season : Results) (club line : ℕ) (reach : Reach)
    → IsReachOf sheet season club reach → line < reach.best → IsLost sheet season club line

-- a best place inside the line comes with a finish that shows it
abbrev pub BestShowsInside : Type 0
BestShowsInside =
    (sheet : Sheet) (season : Results) (club line : ℕ) (reach : Reach)
    → IsWithinLimits sheet → IsTrue (are_results season) → club < length sheet.clubs
    → IsReachOf sheet season club reach → reach.best ≤ line
    → Shows sheet season club line Inside reach.best_finish

-- a worst place outside the line comes with a finish that shows it
abbrev pub WorstShowsOutside : Type 0
WorstShowsOutside =
    (sheet : Sheet) (season : Results) (club line : ℕ) (reach : Reach)
    → IsWithinLimits sheet → IsTrue (are_results season) → club < length sheet.clubs
    → IsReachOf sheet season club reach → line < reach.worst
    → Shows sheet season club line Outside reach.worst_finish
