-- Trees of zones as proof lines: from the root on, the half where a test is true first. A list of
-- lines is a refutation of a question, or a tree on which its budget was spent, if it is the list
-- of such a tree.
use Rattle.std.specs.Prelude.{◌≡◌, ℕ, Bool, true, false, not, ◌&&◌, IsTrue, List, [], ◌∷◌, map}
use Rattle.league_core.specs.declared.sheet.Sheet.{Sheet}
use Rattle.league_core.specs.declared.question.Claim.{Claim}
use Rattle.league_core.specs.declared.question.Question.{Question}
use Rattle.league_core.specs.declared.zone.Test.{Test}
use Rattle.league_core.specs.declared.tree.TreeNode.{TreeNode}
use Rattle.league_core.specs.declared.tree.TreeNode.TheVariants.{Split, Open, Lent, Refuted}
use Rattle.league_core.specs.game.Results.{Results}
use Rattle.league_core.specs.search.Zones.{is_test_of, is_of_rival}
use Rattle.league_core.specs.search.Trees.{Tree, open_leaf, lent_leaf, refuted_leaf, branch}
use Rattle.league_core.specs.search.Trees.{preorder, NodesMeet, is_refuted, is_spent}
use Rattle.league_core.specs.search.Splits.{AreReasonsTrue, IsUnitIfNew}
use Rattle.cert_text.specs.declared.proof_line.ProofLine.{ProofLine}
use Rattle.cert_text.specs.declared.proof_line.ProofLine.TheVariants as line
use Rattle.cert_text.specs.Ranges.{is_test_in_range}

-- the line of a node in a refutation, if it does not matter which nodes are new. A lent leaf is
-- written as what it is without its worker, an open one
abbrev pub plain_line : TreeNode → ProofLine
plain_line (Split test fresh) = line.Split test
plain_line Open = line.OpenLeaf
plain_line (Lent number) = line.OpenLeaf
plain_line (Refuted reason fresh) = line.Leaf reason

-- the line of a node in a tree on which the budget was spent: a new node has a form of its own
abbrev pub marked_line : TreeNode → ProofLine
marked_line (Split test true) = line.NewSplit test
marked_line (Split test false) = line.Split test
marked_line Open = line.OpenLeaf
marked_line (Lent number) = line.OpenLeaf
marked_line (Refuted reason true) = line.NewLeaf reason
marked_line (Refuted reason false) = line.Leaf reason

-- the lines of a tree, without marks
abbrev pub plain_lines : Tree → List ProofLine
plain_lines tree = map plain_line (preorder tree)

-- the lines of a tree, the new nodes marked
abbrev pub marked_lines : Tree → List ProofLine
marked_lines tree = map marked_line (preorder tree)

-- the test of a split as a line has it, for a question: of a fixture of the sheet, or of a club of
-- it other than the question's, and with a bound on goals that a score can miss
abbrev pub is_test_for : Sheet → Question → Test → Bool
is_test_for sheet question test =
    is_test_in_range test && is_test_of sheet test && not (is_of_rival question.club test)

-- each split of the tree has such a test
abbrev pub are_tests_for : Sheet → Question → Tree → Bool
are_tests_for sheet question open_leaf = true
are_tests_for sheet question (lent_leaf number) = true
are_tests_for sheet question (refuted_leaf reason fresh) = true
are_tests_for sheet question (branch test fresh yes_half no_half) =
    is_test_for sheet question test
    && are_tests_for sheet question yes_half && are_tests_for sheet question no_half

-- a tree that refutes the question: its tests are such as lines have, and each leaf is refuted, by
-- a reason that holds in its zone
pub record IsRefutationTree (sheet : Sheet) (season : Results) (question : Question)
    (tree : Tree) : Type 0 where
  pub tests : IsTrue (are_tests_for sheet question tree)
  pub refuted : IsTrue (is_refuted tree)
  pub reasons : AreReasonsTrue sheet season question [] tree

-- a tree on which the budget was spent: its tests are such as lines have, exactly so many nodes are
-- new, a leaf is open, and each refuted leaf has a reason that holds in its zone
pub record IsSpentTree (sheet : Sheet) (season : Results) (question : Question) (budget : ℕ)
    (tree : Tree) : Type 0 where
  pub tests : IsTrue (are_tests_for sheet question tree)
  pub spent : IsTrue (is_spent budget tree)
  pub reasons : AreReasonsTrue sheet season question [] tree

-- one on which it was spent fairly: each new node was one unit of work
pub record IsFairSpentTree (sheet : Sheet) (season : Results) (question : Question) (budget : ℕ)
    (tree : Tree) : Type 0 where
  pub tree_spent : IsSpentTree sheet season question budget tree
  pub units : NodesMeet (IsUnitIfNew sheet season question) [] tree

-- the lines are a refutation of the question
abbrev pub ShowsRefuted : Sheet → Results → Question → List ProofLine → Type 0
ShowsRefuted sheet season question lines =
    (tree : Tree) × IsRefutationTree sheet season question tree × (lines ≡ plain_lines tree)

-- the lines are a tree on which the budget for the question was spent
abbrev pub ShowsSpent : Sheet → Results → Question → ℕ → List ProofLine → Type 0
ShowsSpent sheet season question budget lines =
    (tree : Tree) × IsSpentTree sheet season question budget tree × (lines ≡ marked_lines tree)

-- the lines are a tree on which it was spent fairly
abbrev pub ShowsFairlySpent : Sheet → Results → Question → ℕ → List ProofLine → Type 0
ShowsFairlySpent sheet season question budget lines =
    (tree : Tree) × IsFairSpentTree sheet season question budget tree × (lines ≡ marked_lines tree)

-- a refutation under its head, which names the claim
abbrev pub with_tree_head : Claim → List ProofLine → List ProofLine
with_tree_head claim lines = line.Tree claim ∷ lines

-- a tree on which the budget was spent, under its head: the question has the full window
abbrev pub with_spent_head : Claim → List ProofLine → List ProofLine
with_spent_head claim lines = line.Spent claim ∷ lines

-- the same for a question with its own window, which the head names
abbrev pub with_window_head : Question → List ProofLine → List ProofLine
with_window_head question lines =
    line.SpentWindow question.claim question.low question.high ∷ lines
