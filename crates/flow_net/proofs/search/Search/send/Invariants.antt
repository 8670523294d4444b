use Rattle.std.proofs.Common.{◌≡◌, ◌≤◌, ◌<◌, ◌-◌, ℕ, length, get_or}
use Rattle.flow_net.specs.inside.Flow.{IsWithinArcs}
use Rattle.flow_net.specs.inside.Moves.{IsMoved}
use Rattle.flow_net.specs.inside.Search.{reached_at}
use Rattle.flow_net.proofs.search.Search.send.Given as goal

-- the amount has been moved from the node at this place, and no step up to it has been touched
abbrev pub invariant-loop-place : goal.invariant-loop-place
invariant-loop-place l =
    let queue = l.self.queue.items in
    record {
      in_range : l.place < length queue;
      within : IsWithinArcs l.graph.arcs.items l.flow;
      moved : IsMoved l.graph.arcs.items l.fn.flow l.flow (reached_at queue l.place).node
          (reached_at queue (length queue - 1)).node l.amount;
      untouched : (place : ℕ) → 0 < place → place ≤ l.place
          → get_or l.flow (reached_at queue place).arc 0 ≡ get_or l.fn.flow
          (reached_at queue place).arc 0;
      room : l.amount ≤ (reached_at queue l.place).room;
      some : 0 < l.amount;
    }

abbrev pub decreases-loop-place : goal.decreases-loop-place
decreases-loop-place l = l.place
