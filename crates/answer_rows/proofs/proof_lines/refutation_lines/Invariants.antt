use Rattle.std.proofs.Common.{◌≡◌, map, take}
use Rattle.league_core.specs.search.Trees.{preorder}
use Rattle.cert_text.specs.TreeLines.{plain_line, with_tree_head}
use Rattle.answer_rows.proofs.proof_lines.refutation_lines.Given as goal

-- the lines of the nodes so far stand under the head
abbrev pub invariant-loop-node : goal.invariant-loop-node
invariant-loop-node l =
    l.lines.items ≡ with_tree_head l.fn.claim (map plain_line (take l.node-index (preorder l.tree)))
