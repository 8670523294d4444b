-- Wide trees as lines, in the order and the forms of trees without near leaves. A list of lines is
-- a refutation of a question, or a tree on which its budget was spent, if it is the list of such a
-- tree.
use Rattle.std.specs.Prelude.{◌≡◌, ℕ, Bool, true, false, ◌&&◌, IsTrue, List, [], ◌∷◌, map}
use Rattle.league_core.specs.declared.sheet.Sheet.{Sheet}
use Rattle.league_core.specs.declared.question.Claim.{Claim}
use Rattle.league_core.specs.declared.question.Question.{Question}
use Rattle.league_core.specs.game.Results.{Results}
use Rattle.cert_text.specs.declared.proof_line.ProofLine.TheVariants as line
use Rattle.cert_text.specs.TreeLines.{is_test_for}
use Rattle.wide_lines.specs.declared.wide_reason.WideReason.{WideReason}
use Rattle.wide_lines.specs.declared.wide_reason.WideReason.TheVariants as reason
use Rattle.wide_lines.specs.declared.wide_node.WideNode.{WideNode}
use Rattle.wide_lines.specs.declared.wide_node.WideNode.TheVariants.{Split, Open, Refuted}
use Rattle.wide_lines.specs.declared.wide_line.WideLine.{WideLine}
use Rattle.wide_lines.specs.declared.wide_line.WideLine.TheVariants.{Plain, Near, NewNear}
use Rattle.wide_lines.specs.WideTrees.{WideTree, open_leaf, refuted_leaf, branch, wide_preorder}
use Rattle.wide_lines.specs.WideTrees.{is_wide_refuted, is_wide_spent, AreWideReasonsTrue}

-- the line of a refuted leaf
abbrev pub leaf_line : WideReason → WideLine
leaf_line (reason.Plain why) = Plain (line.Leaf why)
leaf_line (reason.Near rival) = Near rival

-- that of one that is marked new
abbrev pub new_leaf_line : WideReason → WideLine
new_leaf_line (reason.Plain why) = Plain (line.NewLeaf why)
new_leaf_line (reason.Near rival) = NewNear rival

-- the line of a node in a refutation, if it does not matter which nodes are new
abbrev pub plain_wide_line : WideNode → WideLine
plain_wide_line (Split test fresh) = Plain (line.Split test)
plain_wide_line Open = Plain line.OpenLeaf
plain_wide_line (Refuted why fresh) = leaf_line why

-- the line of a node in a tree on which the budget was spent: a new node has a form of its own
abbrev pub marked_wide_line : WideNode → WideLine
marked_wide_line (Split test true) = Plain (line.NewSplit test)
marked_wide_line (Split test false) = Plain (line.Split test)
marked_wide_line Open = Plain line.OpenLeaf
marked_wide_line (Refuted why true) = new_leaf_line why
marked_wide_line (Refuted why false) = leaf_line why

-- the lines of a tree, without marks
abbrev pub plain_wide_lines : WideTree → List WideLine
plain_wide_lines tree = map plain_wide_line (wide_preorder tree)

-- the lines of a tree, the new nodes marked
abbrev pub marked_wide_lines : WideTree → List WideLine
marked_wide_lines tree = map marked_wide_line (wide_preorder tree)

-- each split of the tree has a test such as lines have, for the question
abbrev pub are_wide_tests_for : Sheet → Question → WideTree → Bool
are_wide_tests_for sheet question open_leaf = true
are_wide_tests_for sheet question (refuted_leaf why fresh) = true
are_wide_tests_for sheet question (branch test fresh yes_half no_half) =
    is_test_for sheet question test
    && are_wide_tests_for sheet question yes_half && are_wide_tests_for sheet question no_half

-- a tree that refutes the question: its tests are such as lines have, and each leaf is refuted, by
-- a reason that holds in its zone
pub record IsWideRefutation (sheet : Sheet) (season : Results) (question : Question)
    (tree : WideTree) : Type 0 where
  pub tests : IsTrue (are_wide_tests_for sheet question tree)
  pub refuted : IsTrue (is_wide_refuted tree)
  pub reasons : AreWideReasonsTrue sheet season question [] tree

-- a tree on which the budget was spent: its tests are such as lines have, exactly so many nodes are
-- new, a leaf is open, and each refuted leaf has a reason that holds in its zone
pub record IsWideSpentTree (sheet : Sheet) (season : Results) (question : Question) (budget : ℕ)
    (tree : WideTree) : Type 0 where
  pub tests : IsTrue (are_wide_tests_for sheet question tree)
  pub spent : IsTrue (is_wide_spent budget tree)
  pub reasons : AreWideReasonsTrue sheet season question [] tree

-- the lines are a refutation of the question
abbrev pub ShowsWideRefuted : Sheet → Results → Question → List WideLine → Type 0
ShowsWideRefuted sheet season question lines =
    (tree : WideTree) × IsWideRefutation sheet season question tree × (lines ≡ plain_wide_lines
    tree)

-- the lines are a tree on which the budget for the question was spent
abbrev pub ShowsWideSpent : Sheet → Results → Question → ℕ → List WideLine → Type 0
ShowsWideSpent sheet season question budget lines =
    (tree : WideTree) × IsWideSpentTree sheet season question budget tree
    × (lines ≡ marked_wide_lines tree)

-- a refutation under its head, which names the claim
abbrev pub with_wide_tree_head : Claim → List WideLine → List WideLine
with_wide_tree_head claim lines = Plain (line.Tree claim) ∷ lines

-- a tree on which the budget was spent, under its head: the question has the full window
abbrev pub with_wide_spent_head : Claim → List WideLine → List WideLine
with_wide_spent_head claim lines = Plain (line.Spent claim) ∷ lines
