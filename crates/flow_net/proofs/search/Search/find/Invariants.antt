use Rattle.std.proofs.Common.{◌≡◌, ◌≤◌, ◌<◌, ◌-◌, ℕ, false, length}
use Rattle.flow_net.specs.declared.arcs.Direction.{Direction}
use Rattle.flow_net.specs.inside.Cut.{marked}
use Rattle.flow_net.specs.inside.Search.{IsScanned, IsSearch, IsSized, reached_at}
use Rattle.flow_net.proofs.search.Search.find.Given as goal

-- all places before this one have been scanned, and the sink was not reached
abbrev pub invariant-loop-place : goal.invariant-loop-place
invariant-loop-place l = record {
  sized : IsSized l.graph.nodes l.self;
  search : IsSearch l.graph.arcs.items l.flow l.self.reached.items l.self.queue.items;
  source : (reached_at l.self.queue.items 0).node ≡ l.source;
  within : l.place ≤ length l.self.queue.items;
  scanned : (way : Direction) (place : ℕ) → place < l.place
      → IsScanned l.graph.arcs.items l.flow way l.self.reached.items
      (reached_at l.self.queue.items place).node 0;
  missed : marked l.self.reached.items l.sink ≡ false;
}

-- the queue grows no longer than there are nodes
abbrev pub decreases-loop-place : goal.decreases-loop-place
decreases-loop-place l = l.graph.nodes - l.place
