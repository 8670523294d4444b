use Rattle.std.proofs.Common.{◌≡◌, ◌+◌, ◌++◌, length, replicate}
use Rattle.depth_search.specs.declared.kind.CaseNode.TheVariants as node
use Rattle.league_core.specs.inside.Pending.{pending_of}
use Rattle.depth_search.proofs.search.leave_open.Given as goal

-- with an open leaf for each zone that is still due, the nodes are as wanted
abbrev pub invariant-loop-nodes : goal.invariant-loop-nodes
invariant-loop-nodes g l =
    l.nodes.items ++ replicate (length (pending_of l.path.items)) node.Open
    ≡ l.fn.nodes.items ++ replicate (1 + length (pending_of l.fn.path.items)) node.Open

abbrev pub decreases-loop-nodes : goal.decreases-loop-nodes
decreases-loop-nodes g l = length (pending_of l.path.items)
