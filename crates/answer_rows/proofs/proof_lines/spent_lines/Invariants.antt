use Rattle.std.proofs.Common.{◌≡◌, map, take}
use Rattle.cert_text.specs.TreeLines.{marked_line, with_spent_head}
use Rattle.answer_rows.proofs.proof_lines.spent_lines.Given as goal

-- the lines of the nodes so far stand under the head
abbrev pub invariant-loop-node : goal.invariant-loop-node
invariant-loop-node l =
    l.lines.items ≡ with_spent_head l.fn.claim (map marked_line (take l.node-index l.nodes))
