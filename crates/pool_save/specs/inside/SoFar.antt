-- What holds of a saved text as far as it is read: its trees are those of the first questions, and
-- whatever trees come for the parts of the next one's, with them its nodes are those of a tree.
use Rattle.std.specs.Prelude.{◌≡◌, ◌<◌, ℕ, List, [], ◌∷◌, ◌++◌, length, Option, Some, None}
use Rattle.std.specs.List.{slice_get}
use Rattle.league_core.specs.declared.sheet.Sheet.{Sheet}
use Rattle.league_core.specs.declared.question.Question.{Question}
use Rattle.league_core.specs.declared.zone.Literal.{Literal}
use Rattle.league_core.specs.declared.tree.TreeNode.{TreeNode}
use Rattle.league_core.specs.game.Limits.{set_width}
use Rattle.league_core.specs.game.Sums.{has_club}
use Rattle.league_core.specs.search.Zones.{is_marked}
use Rattle.league_core.specs.search.Trees.{Tree, NodesMeet, preorder}
use Rattle.league_core.specs.search.TreeLists.{preorders}
use Rattle.pool_save.specs.declared.taken.Taken.{Taken}
use Rattle.pool_save.specs.declared.taken.Taken.TheVariants.{On, Whole, Bad}
use Rattle.pool_save.specs.SavedTexts.{IsSavedNode, IsSavedTree, AreFirstTreesOf}
use Rattle.pool_save.specs.SavedReadings.{SaveState, SaveStep, goes_on, whole, bad}

-- what a call made of a line, by what it returned and what it left
abbrev pub save_step_of : SaveState → Taken → SaveStep
save_step_of state On = goes_on state
save_step_of state Whole = whole state.trees
save_step_of state Bad = bad

-- the rivals are those that the zone marks, among the clubs that a set can have
abbrev pub Marks : List ℕ → List Literal → Type 0
Marks rivals zone = (club : ℕ) → club < set_width → has_club rivals club ≡ is_marked zone club

-- the tree may be saved in each zone that marks these rivals
abbrev pub IsSavedBy : Sheet → Question → List ℕ → Tree → Type 0
IsSavedBy sheet question rivals tree =
    (zone : List Literal) → Marks rivals zone → NodesMeet (IsSavedNode sheet question) zone tree

-- a tree for each part that must come yet
abbrev pub Fits : Sheet → Question → List (List ℕ) → List Tree → Type 0
Fits sheet question [] [] = Unit {0}
Fits sheet question [] (tree ∷ trees) = ⊥
Fits sheet question (rivals ∷ due) [] = ⊥
Fits sheet question (rivals ∷ due) (tree ∷ trees) =
    IsSavedBy sheet question rivals tree × Fits sheet question due trees

-- whatever trees come for the parts, with them the nodes are those of a saved tree
abbrev pub IsDrafted : Sheet → Question → List TreeNode → List (List ℕ) → Type 0
IsDrafted sheet question nodes due =
    (trees : List Tree) → Fits sheet question due trees
    → (tree : Tree) × (preorder tree ≡ nodes ++ preorders trees) × IsSavedTree sheet question tree

-- what is read of the tree of a question, if there is such a question
abbrev pub IsItemSoFar : Sheet → Option Question → List TreeNode → List (List ℕ) → Type 0
IsItemSoFar sheet question nodes [] = nodes ≡ []
IsItemSoFar sheet None nodes (rivals ∷ due) = ⊥
IsItemSoFar sheet (Some question) nodes (rivals ∷ due) =
    IsDrafted sheet question nodes (rivals ∷ due)

-- a saved text as far as it is read
pub record IsSaveState (sheet : Sheet) (asked : List Question) (state : SaveState) : Type 0 where
  pub first : AreFirstTreesOf (IsSavedTree sheet) asked state.trees
  pub item : IsItemSoFar sheet (slice_get asked (length state.trees)) state.nodes state.due
