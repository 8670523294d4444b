use Rattle.std.proofs.Common.{◌≡◌, ◌++◌, take}
use Rattle.cup_rows.specs.inside.GroupTreeLines.{group_tree_lines}
use Rattle.cup_rows.proofs.tree_lines.push_refutation.Given as goal

-- the lines of the nodes so far stand under the head
abbrev pub invariant-loop-node : goal.invariant-loop-node
invariant-loop-node l =
    l.lines.items
    ≡ l.fn.lines.items
    ++ group_tree_lines l.fn.start l.fn.kind l.fn.club (take l.node-index l.nodes)
