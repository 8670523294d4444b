-- Which node a line of a text stands for.
use Rattle.std.specs.Prelude.{Option, None}
use Rattle.league_core.specs.declared.tree.TreeNode.{TreeNode}
use Rattle.line_tokens.specs.declared.token.Token.{Token}
use Rattle.line_tokens.specs.declared.token.Token.TheVariants.{Blank, Row, Proof, Near, Unknown}
use Rattle.line_tokens.specs.declared.tree_line.TreeKind.{TreeKind}
use Rattle.line_tokens.specs.TreeNodes.{node_in}

-- the node that a line stands for, if it is a proof line that stands for one
abbrev pub node_of_token : TreeKind → Token → Option TreeNode
node_of_token kind Blank = None
node_of_token kind (Row fields) = None
node_of_token kind (Proof line) = node_in kind line
node_of_token kind (Near rival fresh) = None
node_of_token kind Unknown = None
