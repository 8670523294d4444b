-- Which node the own line of a node stands for.
use Rattle.std.proofs.Common.{◌≡◌, ℕ, true, false, List, Option, Some, None, ap, ◌∙◌}
use Rattle.std.specs.Prelude.{IfSome, if◌then◌else◌}
use Rattle.league_core.specs.declared.tree.TreeNode.{TreeNode}
use Rattle.league_core.specs.declared.tree.TreeNode.TheVariants.{Split, Open, Lent, Refuted}
use Rattle.cert_text.specs.declared.proof_line.ProofLine.{ProofLine}
use Rattle.cert_text.specs.Forms.{line_in}
use Rattle.cert_text.specs.inside.PlainForms.{IsLineOfNode}
use Rattle.wide_lines.specs.WideTexts.{near_line_in, plain_or, wide_line_in}
use Rattle.line_tokens.specs.Tokens.{begins_proof, token_of, token_of_line, token_of_row}
use Rattle.line_tokens.specs.declared.tree_line.TreeKind.TheVariants.{Spent}
use Rattle.line_tokens.specs.inside.NodeCalls.{node_of_token}

-- a text that is read as the line of a node stands for it in a spent tree
spent_node_read : (text : List ℕ) (node : TreeNode) → begins_proof text ≡ true
    → IsLineOfNode text node → node_of_token Spent (token_of text) ≡ Some node
spent_node_read text node begins told =
    ap (λ b. node_of_token Spent
    (if b then token_of_line (wide_line_in text) else token_of_row text)) begins
    ∙ by node told
  where
    node_of_line : Option ProofLine → Option TreeNode
    node_of_line found =
        node_of_token Spent (token_of_line (plain_or found (near_line_in text)))

    by : (node : TreeNode) → IsLineOfNode text node → node_of_line (line_in text) ≡ Some node
    by (Split test true) told = ap node_of_line told
    by (Split test false) told = ap node_of_line told
    by Open told = ap node_of_line told
    by (Lent _) told = elim told [ ]
    by (Refuted reason true) told = ap node_of_line told
    by (Refuted reason false) told = ap node_of_line told

-- and so does what is found in it
pub spent_node_found : (text : List ℕ) (found : Option TreeNode) → begins_proof text ≡ true
    → IfSome found (IsLineOfNode text)
    → IfSome found (λ node. node_of_token Spent (token_of text) ≡ Some node)
spent_node_found text None begins told = tt
spent_node_found text (Some node) begins told = spent_node_read text node begins told
