use Rattle.std.proofs.Common.{◌≡◌, ◌≢◌, ℕ, ◌<◌}
use Rattle.flow_net.specs.inside.Flow.{carried, enters, leaves}
use Rattle.flow_net.proofs.graph.Graph.is_whole.Given as goal

abbrev pub invariant-loop-node : goal.invariant-loop-node
invariant-loop-node l = (node : ℕ) → node < l.node → node ≢ l.source → node ≢ l.sink
    → carried (leaves node) l.self.arcs.items l.flow ≡ carried
    (enters node) l.self.arcs.items l.flow
