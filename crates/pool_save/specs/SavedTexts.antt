-- Saved texts: trees of the questions about a sheet as lines. An item is the row of its question
-- and its tree's nodes as proof lines; the items stand in the order of the questions, and the line
-- `saved_end` comes after them. The form is this project's own.
use Rattle.std.specs.Prelude.{◌≡◌, ℕ, Bool, true, false, IsTrue, IfSome, List, [], ◌∷◌, ◌++◌}
use Rattle.std.specs.Prelude.{map, Option, Some, None, codes, decimal}
use Rattle.league_core.specs.declared.sheet.Sheet.{Sheet}
use Rattle.league_core.specs.declared.question.Question.{Question}
use Rattle.league_core.specs.declared.zone.Literal.{Literal}
use Rattle.league_core.specs.declared.tree.TreeNode.{TreeNode}
use Rattle.league_core.specs.declared.tree.TreeNode.TheVariants.{Split, Open, Lent, Refuted}
use Rattle.league_core.specs.search.Trees.{Tree, NodesMeet}
use Rattle.tree_reuse.specs.Asked.{IsAskedNode, IsAskedTree}
use Rattle.cert_text.specs.Lines.{claim_word}
use Rattle.cert_text.specs.Ranges.{is_test_in_range}
use Rattle.cert_text.specs.TreeLines.{marked_lines}
use Rattle.line_tokens.specs.declared.token.Token.{Token}
use Rattle.line_tokens.specs.declared.token.Token.TheVariants.{Row, Proof}
use Rattle.line_tokens.specs.Tokens.{counted_lines}
use Rattle.line_tokens.specs.LineRanges.{name_of_club, is_reason_for}

-- ---- trees

-- the numbers of the node are such as a report's lines have them for the question: of a split, the
-- ranges that a form has by itself; no saved tree has a lent leaf
abbrev pub is_node_for : Sheet → Question → TreeNode → Bool
is_node_for sheet question (Split test fresh) = is_test_in_range test
is_node_for sheet question Open = true
is_node_for sheet question (Lent number) = false
is_node_for sheet question (Refuted reason fresh) = is_reason_for sheet question reason

-- a node of a saved tree: one of a tree that the question may go on from, as a report's lines
-- have it
abbrev pub IsSavedNode : Sheet → Question → List Literal → TreeNode → Type 0
IsSavedNode sheet question zone node =
    IsAskedNode sheet question zone node × IsTrue (is_node_for sheet question node)

-- each node of the tree is one
abbrev pub IsSavedTree : Sheet → Question → Tree → Type 0
IsSavedTree sheet question tree = NodesMeet (IsSavedNode sheet question) [] tree

-- a tree or none for each question, each of which is such for its question
abbrev pub AreTreesOf : (Question → Tree → Type 0) → List Question → List (Option Tree) → Type 0
AreTreesOf IsFor [] [] = Unit {0}
AreTreesOf IsFor [] (tree ∷ trees) = ⊥
AreTreesOf IsFor (question ∷ asked) [] = ⊥
AreTreesOf IsFor (question ∷ asked) (tree ∷ trees) =
    IfSome tree (IsFor question) × AreTreesOf IsFor asked trees

-- the same for each of the first questions, so far as there are trees
abbrev pub AreFirstTreesOf : (Question → Tree → Type 0) → List Question → List (Option Tree)
    → Type 0
AreFirstTreesOf IsFor asked [] = Unit {0}
AreFirstTreesOf IsFor [] (tree ∷ trees) = ⊥
AreFirstTreesOf IsFor (question ∷ asked) (tree ∷ trees) =
    IfSome tree (IsFor question) × AreFirstTreesOf IsFor asked trees

-- trees as a saved text has them
abbrev pub AreSavedTrees : Sheet → List Question → List (Option Tree) → Type 0
AreSavedTrees sheet asked trees = AreTreesOf (IsSavedTree sheet) asked trees

-- trees that the questions may go on from
abbrev pub AreAskedTrees : Sheet → List Question → List (Option Tree) → Type 0
AreAskedTrees sheet asked trees = AreTreesOf (IsAskedTree sheet) asked trees

-- ---- lines

-- `saved,K,CLUB,CLAIM`
abbrev pub saved_fields : Sheet → Question → List (List ℕ)
saved_fields sheet question =
    codes "saved" ∷ decimal question.line ∷ name_of_club sheet question.club
    ∷ claim_word question.claim ∷ []

-- `saved_end`
abbrev pub end_fields : List (List ℕ)
end_fields = codes "saved_end" ∷ []

-- the lines of a question's item; without a tree there is none
abbrev pub saved_item_of : Sheet → Question → Option Tree → List Token
saved_item_of sheet question None = []
saved_item_of sheet question (Some tree) =
    Row (saved_fields sheet question) ∷ map Proof (marked_lines tree)

-- the items in the order of the questions
abbrev pub saved_items_of : Sheet → List Question → List (Option Tree) → List Token
saved_items_of sheet [] trees = []
saved_items_of sheet (question ∷ asked) [] = []
saved_items_of sheet (question ∷ asked) (tree ∷ trees) =
    saved_item_of sheet question tree ++ saved_items_of sheet asked trees

-- the lines of a saved text
abbrev pub lines_of_saved : Sheet → List Question → List (Option Tree) → List Token
lines_of_saved sheet asked trees = saved_items_of sheet asked trees ++ Row end_fields ∷ []
