use Rattle.std.proofs.Common.{◌≡◌, ℕ, Bool, take}
use Rattle.flow_bound.specs.inside.Fixtures.{pairs_in}
use Rattle.flow_bound.specs.inside.Parts.{ArePairs, IsPartOf, has_both, side_of, sum_of_pairs}
use Rattle.flow_bound.proofs.tally.pairs_of.Given as goal

-- the pairs of the matches so far
abbrev pub invariant-loop-i : goal.invariant-loop-i
invariant-loop-i l = record {
  sums : (side : ℕ → Bool) → IsPartOf side (side_of l.set)
      → sum_of_pairs (has_both side) l.pairs.items
      ≡ sum_of_pairs (has_both side) (take l.i (pairs_in l.cut l.zone_box));
  pairs : ArePairs l.i l.pairs.items;
}
