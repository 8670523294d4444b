-- Wide trees on which a budget was spent fairly: each node but the open leaves is one unit of work.
use Rattle.std.specs.Prelude.{◌≡◌, ℕ, false, IsTrue, List, []}
use Rattle.league_core.specs.declared.sheet.Sheet.{Sheet}
use Rattle.league_core.specs.declared.question.Question.{Question}
use Rattle.league_core.specs.declared.zone.Literal.{Literal}
use Rattle.league_core.specs.declared.zone.Test.{Test}
use Rattle.league_core.specs.game.Results.{Results}
use Rattle.league_core.specs.search.Splits.{IsFairSplit}
use Rattle.near_laws.specs.Near.{has_near_reason}
use Rattle.wide_lines.specs.declared.wide_node.WideNode.{WideNode}
use Rattle.wide_lines.specs.declared.wide_node.WideNode.TheVariants.{Split, Open, Refuted}
use Rattle.wide_lines.specs.WideReasons.{has_wide_reason}
use Rattle.wide_lines.specs.WideTrees.{WideTree, WideNodesMeet}
use Rattle.wide_lines.specs.WideTreeLines.{IsWideSpentTree}

-- a split that is one unit of work where near reasons are looked for: one that is so without them,
-- in a zone in which the near reason holds by no rival
pub record IsWideFairSplit (sheet : Sheet) (season : Results) (question : Question)
    (zone : List Literal) (test : Test) : Type 0 where
  pub fair : IsFairSplit sheet season question zone test
  pub no_near : (rival : ℕ) → has_near_reason sheet season question zone rival ≡ false

-- an open leaf, or a unit of work, marked new: a split that is fair, or a refuted leaf whose reason
-- holds
abbrev pub IsUnitOrOpen : Sheet → Results → Question → List Literal → WideNode → Type 0
IsUnitOrOpen sheet season question zone (Split test fresh) =
    IsTrue fresh × IsWideFairSplit sheet season question zone test
IsUnitOrOpen sheet season question zone Open = Unit {0}
IsUnitOrOpen sheet season question zone (Refuted reason fresh) =
    IsTrue fresh × IsTrue (has_wide_reason sheet season question zone reason)

-- a tree on which the budget was spent fairly in the present epoch: exactly so many nodes are new,
-- all others are open leaves, at least one, and each new node was one unit of work
pub record IsWideSpentFairly (sheet : Sheet) (season : Results) (question : Question) (budget : ℕ)
    (tree : WideTree) : Type 0 where
  pub tree_spent : IsWideSpentTree sheet season question budget tree
  pub units : WideNodesMeet (IsUnitOrOpen sheet season question) [] tree
