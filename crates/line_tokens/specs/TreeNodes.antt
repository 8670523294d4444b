-- Which node of a tree a line stands for, by what the tree stands for.
use Rattle.std.specs.Prelude.{ℕ, Bool, true, false, Option, Some, None, option_map}
use Rattle.league_core.specs.declared.tree.TreeNode.{TreeNode}
use Rattle.league_core.specs.declared.tree.TreeNode.TheVariants as node
use Rattle.cert_text.specs.declared.proof_line.ProofLine.{ProofLine}
use Rattle.cert_text.specs.declared.proof_line.ProofLine.TheVariants as line
use Rattle.wide_lines.specs.declared.wide_reason.WideReason.TheVariants as reason
use Rattle.wide_lines.specs.declared.wide_node.WideNode.{WideNode}
use Rattle.wide_lines.specs.declared.wide_node.WideNode.TheVariants as wide
use Rattle.wide_lines.specs.WideTrees.{wide_node}
use Rattle.line_tokens.specs.declared.token.Token.{Token}
use Rattle.line_tokens.specs.declared.token.Token.TheVariants.{Blank, Row, Proof, Near, Unknown}
use Rattle.line_tokens.specs.declared.tree_line.TreeKind.{TreeKind}
use Rattle.line_tokens.specs.declared.tree_line.TreeKind.TheVariants.{Refutation, Spent}

-- the node that a line of a tree stands for, if trees of this kind have such a line
abbrev pub node_in : TreeKind → ProofLine → Option TreeNode
node_in Refutation (line.Split test) = Some (node.Split test false)
node_in Refutation (line.Leaf reason) = Some (node.Refuted reason false)
node_in Refutation _ = None
node_in Spent (line.Split test) = Some (node.Split test false)
node_in Spent (line.NewSplit test) = Some (node.Split test true)
node_in Spent (line.Leaf reason) = Some (node.Refuted reason false)
node_in Spent (line.NewLeaf reason) = Some (node.Refuted reason true)
node_in Spent line.OpenLeaf = Some node.Open
node_in Spent _ = None

-- the node that a near leaf stands for: in a refutation none is marked new
abbrev pub near_node_in : TreeKind → ℕ → Bool → Option WideNode
near_node_in Refutation rival true = None
near_node_in Refutation rival false = Some (wide.Refuted (reason.Near rival) false)
near_node_in Spent rival fresh = Some (wide.Refuted (reason.Near rival) fresh)

-- the node of a wide tree that a line stands for, if trees of this kind have such a line
abbrev pub wide_node_in : TreeKind → Token → Option WideNode
wide_node_in kind Blank = None
wide_node_in kind (Row fields) = None
wide_node_in kind (Proof line) = option_map wide_node (node_in kind line)
wide_node_in kind (Near rival fresh) = near_node_in kind rival fresh
wide_node_in kind Unknown = None
