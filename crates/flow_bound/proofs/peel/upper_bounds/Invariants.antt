use Rattle.std.proofs.Common.{◌≡◌, ℕ, ◌+◌, ◌*◌, pos, ◌+ℤ◌, Bool, take}
use Rattle.flow_bound.specs.inside.Parts.{IsClubTable, side_of, sum_of_side}
use Rattle.flow_bound.specs.inside.Fixtures.{sum_at}
use Rattle.flow_bound.specs.inside.Network.{has_away_in, has_home_in}
use Rattle.flow_bound.proofs.peel.upper_bounds.Given as goal

-- the matches so far have been added at both ends
abbrev pub invariant-loop-i : goal.invariant-loop-i
invariant-loop-i l = record {
  sums : (side : ℕ → Bool) → sum_of_side l.reach side ≡ sum_of_side l.alone side
      +ℤ pos (sum_at (has_home_in (side_of l.rest) side) l.cut l.zone_box (take l.i l.held))
      +ℤ pos (sum_at (has_away_in (side_of l.rest) side) l.cut l.zone_box (take l.i l.held));
  sized : IsClubTable (1200 + 2 * l.i) l.reach;
}
