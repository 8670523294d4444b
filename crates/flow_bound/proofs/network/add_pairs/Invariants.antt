use Rattle.std.proofs.Common.{◌≡◌, ℕ, ◌+◌, ◌≤◌, Bool, length, take}
use Rattle.flow_net.specs.inside.Cut.{capacity_of}
use Rattle.flow_bound.specs.inside.Parts.{side_of, sum_of_pairs}
use Rattle.flow_bound.specs.inside.Network.{parts_pair_in, through}
use Rattle.flow_bound.proofs.network.add_pairs.Given as goal

-- the pairs so far have their arcs
abbrev pub invariant-loop-pair : goal.invariant-loop-pair
invariant-loop-pair l = record {
  cut : (side : ℕ → Bool) → capacity_of side l.net.arcs ≡ capacity_of side l.fn.net.arcs
      + sum_of_pairs (parts_pair_in (side_of l.set) (through l.places side)) (take l.pair-index
      l.pairs);
  count : length l.net.arcs ≤ length l.fn.net.arcs + l.pair-index;
  nodes : l.net.nodes ≡ l.fn.net.nodes;
  room : l.net.room ≡ l.fn.net.room;
}
