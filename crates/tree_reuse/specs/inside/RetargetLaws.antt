-- What holds of a tree that was carried over to another season, by the definition alone: each
-- statement is the contract of a function of src/laws.rt that does nothing. That its leaves cover
-- the season is a law of every tree (`LeavesCover` of reason_laws).
use Rattle.std.specs.Prelude.{◌≡◌, ◌≤◌, ℕ, false, IsTrue, List, []}
use Rattle.league_core.specs.declared.sheet.Sheet.{Sheet}
use Rattle.league_core.specs.declared.question.Question.{Question}
use Rattle.league_core.specs.declared.zone.Literal.{Literal}
use Rattle.league_core.specs.declared.tree.TreeNode.{TreeNode}
use Rattle.league_core.specs.game.Results.{Results}
use Rattle.league_core.specs.search.Options.{has_finish}
use Rattle.league_core.specs.search.Trees.{Tree, NodesMeet, node_count, new_count, is_new}
use Rattle.league_core.specs.inside.Lending.{lent_count, lent_zones, times_lent}
use Rattle.league_core.specs.search.Splits.{IsProperNode, IsReasonTrue}
use Rattle.tree_arena.specs.inside.Calls.{AreTestsOf}
use Rattle.tree_reuse.specs.Retargets.{retargeted, most_kept}

-- nothing is lent afterwards, under no number
abbrev pub RetargetedTreesLendNothing : Type 0
RetargetedTreesLendNothing =
    (sheet : Sheet) (season : Results) (question : Question) (tree : Tree) (number : ℕ)
    → (lent_count (retargeted sheet season question tree) ≡ 0)
    × (times_lent number (retargeted sheet season question tree) ≡ 0)
    × (lent_zones number [] (retargeted sheet season question tree) ≡ [])

-- no node is new afterwards
abbrev pub RetargetedTreesHaveNothingNew : Type 0
RetargetedTreesHaveNothingNew =
    (sheet : Sheet) (season : Results) (question : Question) (tree : Tree)
    → new_count (retargeted sheet season question tree) ≡ 0

-- there are no more nodes than before, and no more than the limit
abbrev pub RetargetedTreesAreNoGreater : Type 0
RetargetedTreesAreNoGreater =
    (sheet : Sheet) (season : Results) (question : Question) (tree : Tree)
    → (node_count (retargeted sheet season question tree) ≤ node_count tree)
    × (node_count (retargeted sheet season question tree) ≤ most_kept)

-- a node as it is after the change: a split is proper, a refuted leaf's reason holds, the node's
-- zone has a finish, and it is not new
pub record IsKeptNode (sheet : Sheet) (season : Results) (question : Question)
    (zone : List Literal) (node : TreeNode) : Type 0 where
  pub proper : IsProperNode sheet season question zone node
  pub reason : IsReasonTrue sheet season question zone node
  pub some : IsTrue (has_finish sheet season zone)
  pub not_new : is_new node ≡ false

-- if the splits were proper in the season before, each node is good in the new one
abbrev pub RetargetedTreesAreGood : Type 0
RetargetedTreesAreGood =
    (sheet : Sheet) (before season : Results) (question : Question) (tree : Tree)
    → NodesMeet (IsProperNode sheet before question) [] tree
    → NodesMeet (IsKeptNode sheet season question) [] (retargeted sheet season question tree)

-- if the splits are proper in some season, the tests are of the sheet's fixtures and clubs
abbrev pub ProperTreesAreOfTheSheet : Type 0
ProperTreesAreOfTheSheet =
    (sheet : Sheet) (season : Results) (question : Question) (tree : Tree)
    → NodesMeet (IsProperNode sheet season question) [] tree → AreTestsOf sheet tree
