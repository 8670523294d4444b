use Rattle.std.proofs.Common.{◌≡◌, map, take}
use Rattle.league_core.specs.search.Trees.{preorder}
use Rattle.cert_text.specs.TreeLines.{marked_line, with_window_head}
use Rattle.answer_rows.proofs.proof_lines.window_lines.Given as goal

-- the lines of the nodes so far stand under the head
abbrev pub invariant-loop-node : goal.invariant-loop-node
invariant-loop-node l =
    l.lines.items
    ≡ with_window_head l.fn.question (map marked_line (take l.node-index (preorder l.tree)))
