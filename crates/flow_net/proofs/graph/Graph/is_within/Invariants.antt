use Rattle.std.proofs.Common.{ℕ, ◌<◌, ◌≤◌, get_or}
use Rattle.flow_net.specs.inside.Flow.{arc_at}
use Rattle.flow_net.proofs.graph.Graph.is_within.Given as goal

abbrev pub invariant-loop-place : goal.invariant-loop-place
invariant-loop-place l = (place : ℕ) → place < l.place
    → get_or l.flow place 0 ≤ (arc_at l.self.arcs.items place).capacity
