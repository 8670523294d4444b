use Rattle.std.proofs.Common.{◌≡◌, ◌≤◌, List, take}
use Rattle.league_core.specs.declared.season.Score.{Score}
use Rattle.score_box.specs.inside.Boxes.{AreCellsOf, open_outcomes_in}
use Rattle.score_box.proofs.ends.several_outcomes.Given as goal

-- how many of the fixtures so far count
abbrev pub invariant-loop-cell : goal.invariant-loop-cell
invariant-loop-cell l =
    (l.count ≤ l.cell-index)
    × ((options : List (List Score)) → AreCellsOf l.cells options
    → l.count ≡ open_outcomes_in (take l.cell-index options))
