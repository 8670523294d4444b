-- The tests of a tree are of the sheet's fixtures and clubs split by split if they are so node by
-- node, and the other way round; and a zone of the sheet with one such test more is one again.
use Rattle.std.proofs.Common.{[], ◌++◌}
use Rattle.std.proofs.lemmas.List.Elements.{All-nil, All-cons, All-head, All-tail, All-append}
use Rattle.league_core.specs.declared.sheet.Sheet.{Sheet}
use Rattle.league_core.specs.declared.tree.TreeNode.TheVariants.{Split, Open, Lent, Refuted}
use Rattle.league_core.specs.search.Trees.{Tree, open_leaf, lent_leaf, refuted_leaf, branch}
use Rattle.league_core.specs.search.Trees.{preorder}
use Rattle.tree_arena.specs.inside.Calls.{IsNodeOf, AreTestsOf}
use Rattle.score_box.proofs.PathLemmas.{zone_with}
use Rattle.reference_programs.specs.inside.Boxed.{HasTestsOf}
use Rattle.league_core.proofs.plain.Parts.{All-first, All-last}

-- split by split, so node by node
pub tests_of_nodes : (sheet : Sheet) (tree : Tree) → HasTestsOf sheet tree → AreTestsOf sheet tree
tests_of_nodes sheet open_leaf has =
    All-cons (IsNodeOf sheet) Open [] tt (All-nil (IsNodeOf sheet))
tests_of_nodes sheet (lent_leaf number) has =
    All-cons (IsNodeOf sheet) (Lent number) [] tt (All-nil (IsNodeOf sheet))
tests_of_nodes sheet (refuted_leaf reason fresh) has =
    All-cons (IsNodeOf sheet) (Refuted reason fresh) [] tt (All-nil (IsNodeOf sheet))
tests_of_nodes sheet (branch test fresh yes_half no_half) has =
    All-cons (IsNodeOf sheet) (Split test fresh) (preorder yes_half ++ preorder no_half) has.0
    (All-append (IsNodeOf sheet) (preorder yes_half) (preorder no_half)
    (tests_of_nodes sheet yes_half has.1) (tests_of_nodes sheet no_half has.2))

-- node by node, so split by split
pub tests_of_splits : (sheet : Sheet) (tree : Tree) → AreTestsOf sheet tree → HasTestsOf sheet tree
tests_of_splits sheet open_leaf are = tt
tests_of_splits sheet (lent_leaf number) are = tt
tests_of_splits sheet (refuted_leaf reason fresh) are = tt
tests_of_splits sheet (branch test fresh yes_half no_half) are =
    let behind = All-tail (IsNodeOf sheet) (Split test fresh)
    (preorder yes_half ++ preorder no_half) are in (
      All-head (IsNodeOf sheet) (Split test fresh) (preorder yes_half ++ preorder no_half) are,
      tests_of_splits sheet yes_half
          (All-first (IsNodeOf sheet) (preorder yes_half) (preorder no_half) behind),
      tests_of_splits sheet no_half
          (All-last (IsNodeOf sheet) (preorder yes_half) (preorder no_half) behind),
    )

pub ruleset longer = (zone_with)
