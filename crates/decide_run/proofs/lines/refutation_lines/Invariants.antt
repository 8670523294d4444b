use Rattle.std.proofs.Common.{◌≡◌, map}
use Rattle.wide_lines.specs.WideTreeLines.{plain_wide_line, with_wide_tree_head}
use Rattle.decide_run.specs.inside.WideTasks.{new_wide_node}
use Rattle.decide_run.proofs.lines.refutation_lines.Given as goal

-- the lines of the nodes so far stand under the head
abbrev pub invariant-loop-node : goal.invariant-loop-node
invariant-loop-node l =
    l.lines.items ≡ with_wide_tree_head l.fn.claim (map plain_wide_line (map new_wide_node
    l.yielded))
