use Rattle.std.proofs.Common.{◌≤◌, ◌-◌, length}
use Rattle.score_box.specs.inside.OpenSides.{NoneBetween}
use Rattle.score_box.proofs.open_matches.among.next_within.Given as goal

-- no match up to the place is of the group
abbrev pub invariant-loop-place : goal.invariant-loop-place
invariant-loop-place l = record {
  from : l.fn.from ≤ l.place;
  within : l.place ≤ length l.sides;
  before : NoneBetween l.sides l.group l.fn.from l.place;
}

abbrev pub decreases-loop-place : goal.decreases-loop-place
decreases-loop-place l = length l.sides - l.place
