use Rattle.std.proofs.Common.{◌≡◌, ℕ, ◌+◌, pos, ◌+ℤ◌, Bool, take}
use Rattle.flow_bound.specs.inside.Parts.{IsClubTable, side_of, sum_of_pairs, sum_of_side}
use Rattle.flow_bound.specs.inside.Network.{has_home_in}
use Rattle.flow_bound.proofs.network.weights_of.Given as goal

-- the pairs so far have been added to their home clubs
abbrev pub invariant-loop-pair : goal.invariant-loop-pair
invariant-loop-pair l = record {
  sums : (side : ℕ → Bool) → sum_of_side l.weights side ≡ sum_of_side l.alone side
      +ℤ pos (sum_of_pairs (has_home_in (side_of l.rest) side) (take l.pair-index l.pairs));
  sized : IsClubTable (1200 + l.pair-index) l.weights;
}
