-- What holds of each node of a tree that the search has made.
use Rattle.league_core.specs.declared.sheet.Sheet.{Sheet}
use Rattle.league_core.specs.declared.question.Question.{Question}
use Rattle.league_core.specs.declared.zone.Literal.{Literal}
use Rattle.league_core.specs.declared.tree.TreeNode.{TreeNode}
use Rattle.league_core.specs.game.Results.{Results}
use Rattle.league_core.specs.search.Splits.{IsProperNode, IsReasonTrue, IsUnitIfNew}
use Rattle.std.specs.Prelude.{List}

-- what holds of a node in its zone: a split is proper, a refuted leaf's reason holds, and a new
-- node is a unit of work
pub record IsGoodNode (sheet : Sheet) (season : Results) (question : Question)
    (zone : List Literal) (node : TreeNode) : Type 0 where
  pub proper : IsProperNode sheet season question zone node
  pub refuted : IsReasonTrue sheet season question zone node
  pub unit : IsUnitIfNew sheet season question zone node
