-- Saved trees that are nearly done: each open leaf that the season leaves of one has a reason that
-- holds there, and no more leaves are open than the budget has units.
use Rattle.std.specs.Prelude.{◌≤◌, ℕ, ◌+◌, IsTrue, List, [], Option, Some, None}
use Rattle.league_core.specs.declared.sheet.Sheet.{Sheet}
use Rattle.league_core.specs.declared.question.Question.{Question}
use Rattle.league_core.specs.declared.zone.Literal.{Literal}
use Rattle.league_core.specs.declared.zone.Reason.{Reason}
use Rattle.league_core.specs.declared.tree.TreeNode.{TreeNode}
use Rattle.league_core.specs.declared.tree.TreeNode.TheVariants.{Split, Open, Lent, Refuted}
use Rattle.league_core.specs.game.Results.{Results}
use Rattle.league_core.specs.search.Reasons.{has_reason}
use Rattle.league_core.specs.search.Trees.{Tree, open_leaf, NodesMeet}
use Rattle.tree_arena.specs.OpenCounts.{open_count}
use Rattle.tree_reuse.specs.Retargets.{retargeted}

-- of an open leaf, that some reason holds in its zone; of any other node, nothing
abbrev pub HasReasonIfOpen : Sheet → Results → Question → List Literal → TreeNode → Type 0
HasReasonIfOpen sheet season question zone Open =
    (reason : Reason) × IsTrue (has_reason sheet season question zone reason)
HasReasonIfOpen sheet season question zone (Split test fresh) = Unit {0}
HasReasonIfOpen sheet season question zone (Lent number) = Unit {0}
HasReasonIfOpen sheet season question zone (Refuted reason fresh) = Unit {0}

-- each open leaf has a reason, and there are no more of them than units are left
pub record IsNearlyRefuted (sheet : Sheet) (season : Results) (question : Question) (units : ℕ)
    (tree : Tree) : Type 0 where
  pub reasons : NodesMeet (HasReasonIfOpen sheet season question) [] tree
  pub few : units + open_count tree ≤ sheet.budget

-- the saved tree of a question; if it has none, it is one open leaf
abbrev pub saved_tree : Option Tree → Tree
saved_tree None = open_leaf
saved_tree (Some tree) = tree

-- what the season leaves of the saved tree is nearly refuted, and no unit of the budget was used
abbrev pub IsNearlyDone : Sheet → Results → Question → Option Tree → Type 0
IsNearlyDone sheet season question saved =
    IsNearlyRefuted sheet season question 0
    (retargeted sheet season question (saved_tree saved))
