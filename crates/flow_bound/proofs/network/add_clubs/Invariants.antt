use Rattle.std.proofs.Common.{◌≡◌, ℕ, ◌+◌, ◌*◌, ◌≤◌, pos, ◌+ℤ◌, Bool, cond, length}
use Rattle.flow_net.specs.inside.Cut.{IsCut, capacity_of}
use Rattle.flow_bound.specs.inside.Network.{through}
use Rattle.flow_bound.specs.inside.Parts.{entry, in_both, side_of, sum_below}
use Rattle.flow_bound.proofs.network.add_clubs.Given as goal

-- the clubs so far have their arcs
abbrev pub invariant-loop-club : goal.invariant-loop-club
invariant-loop-club l = record {
  cut : (side : ℕ → Bool) → IsCut l.source (l.source + 1) side → pos (capacity_of side l.net.arcs)
      +ℤ sum_below l.club
      (λ x. cond (in_both (side_of l.set) (through l.places side) x) (entry l.weights x) (pos 0)) ≡
      pos l.total;
  within : l.total ≤ l.club * 2147600000;
  count : length l.net.arcs ≤ l.club;
  nodes : l.net.nodes ≡ l.fn.net.nodes;
  room : l.net.room ≡ l.fn.net.room;
}
