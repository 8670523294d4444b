-- A tree that is carried over to another season: what is counted of it, and that its nodes are good
-- there.
use Rattle.std.proofs.Common.{◌++◌, ◌≡◌, ℕ, ◌+◌, ◌<◌, ◌≤◌, Bool, true, false, ◌&&◌, ◌||◌, ◌==◌, not}
use Rattle.std.proofs.Common.{nat_le}
use Rattle.std.proofs.Common.{nat_lt, List, [], length, cond, refl, sym, ap, ◌∙◌, arith}
use Rattle.std.proofs.lemmas.Bool.{and_parts, and_from, leb-true, le-leb}
use Rattle.std.specs.Prelude.{is_some, IsTrue}
use Rattle.std.proofs.lemmas.List.Elements.{All-nil, All-cons, All-append}
use Rattle.league_core.specs.declared.sheet.Sheet.{Sheet}
use Rattle.league_core.specs.declared.question.Question.{Question}
use Rattle.league_core.specs.declared.zone.Test.{Test}
use Rattle.league_core.specs.declared.zone.Test.TheVariants.{Home, Draw, HomeMost, AwayMost, Rival}
use Rattle.league_core.specs.declared.zone.Literal.{Literal}
use Rattle.league_core.specs.declared.tree.TreeNode.{TreeNode}
use Rattle.league_core.specs.declared.tree.TreeNode.TheVariants.{Split, Open, Lent, Refuted}
use Rattle.league_core.specs.game.Results.{Results}
use Rattle.league_core.specs.search.Zones.{with_test, is_of_rival, is_of_score, marked_before}
use Rattle.league_core.specs.search.Zones.{marked_after, is_marked, is_test_of}
use Rattle.league_core.specs.search.Options.{has_finish}
use Rattle.league_core.specs.search.Reasons.{has_reason}
use Rattle.league_core.specs.search.Trees.{Tree, open_leaf, lent_leaf, refuted_leaf, branch}
use Rattle.league_core.specs.search.Trees.{NodesMeet, preorder, node_count, new_count}
use Rattle.league_core.specs.inside.Lending.{lent_count, times_lent}
use Rattle.league_core.specs.search.Splits.{IsProperNode, is_proper, have_both_finish}
use Rattle.league_core.proofs.HalfLemmas.{half_has_finish, root_has_finish, no_rival, after_in_half}
use Rattle.league_core.specs.search.TreeLists.{tree_of, tree_of-preorder}
use Rattle.league_core.proofs.TreeLemmas.{length-preorder}
use Rattle.league_core.proofs.TreeListLemmas.{preorder_injective}
use Rattle.league_core.proofs.LendingLemmas.{times_lent-le}
use Rattle.league_core.proofs.HalfLemmas.{before_in_half}
use Rattle.tree_arena.proofs.LeafLemmas.{node_count-some}
use Rattle.tree_reuse.specs.declared.halves.Halves.{Halves}
use Rattle.tree_reuse.specs.declared.halves.Halves.TheVariants.{Both, YesAlone, NoAlone}
use Rattle.tree_arena.specs.inside.Calls.{IsNodeOf, AreTestsOf}
use Rattle.tree_reuse.specs.Retargets.{halves_by, halves_in, leaf_kept, retargeted_from}
use Rattle.tree_reuse.specs.Retargets.{most_kept, within_limit, retargeted}
use Rattle.tree_reuse.specs.inside.RetargetLaws.{IsKeptNode}
use Rattle.tree_reuse.specs.Asked.{may_ask, IsAskedNode, IsAskedTree}

-- what holds of the tree in each case of the halves that stay holds of the one that is chosen
in_each : (P : Tree → Type 0) (halves : Halves) (both yes_half no_half : Tree)
    → (halves ≡ Both → P both) → (halves ≡ YesAlone → P yes_half) → (halves ≡ NoAlone → P no_half)
    → P (elim halves [ Both ↦ both | YesAlone ↦ yes_half | NoAlone ↦ no_half ])
in_each P Both both yes_half no_half at_both at_yes at_no = at_both refl
in_each P YesAlone both yes_half no_half at_both at_yes at_no = at_yes refl
in_each P NoAlone both yes_half no_half at_both at_yes at_no = at_no refl

-- nothing is lent in what is carried over
lent_count-retargeted_from : (sheet : Sheet) (season : Results) (question : Question)
    (zone : List Literal) (tree : Tree)
    → lent_count (retargeted_from sheet season question zone tree) ≡ 0
lent_count-retargeted_from sheet season question zone open_leaf = refl
lent_count-retargeted_from sheet season question zone (lent_leaf number) = refl
lent_count-retargeted_from sheet season question zone (refuted_leaf reason fresh) =
    at_leaf (has_reason sheet season question zone reason)
  where
    at_leaf : (b : Bool) → lent_count (leaf_kept b reason) ≡ 0
    at_leaf true = refl
    at_leaf false = refl
lent_count-retargeted_from sheet season question zone (branch test fresh yes_half no_half) =
    let first = retargeted_from sheet season question (with_test zone test true) yes_half in
    let second = retargeted_from sheet season question (with_test zone test false) no_half in
    let no_first = lent_count-retargeted_from sheet season question (with_test zone test true)
    yes_half in
    let no_second = lent_count-retargeted_from sheet season question (with_test zone test false)
    no_half in
    in_each (λ tree. lent_count tree ≡ 0) (halves_in sheet season zone test)
    (branch test false first second) (retargeted_from sheet season question zone yes_half)
    (retargeted_from sheet season question zone no_half)
    (λ _. omega (arith, no_first, no_second))
    (λ _. lent_count-retargeted_from sheet season question zone yes_half)
    (λ _. lent_count-retargeted_from sheet season question zone no_half)

-- no node of it is new
new_count-retargeted_from : (sheet : Sheet) (season : Results) (question : Question)
    (zone : List Literal) (tree : Tree)
    → new_count (retargeted_from sheet season question zone tree) ≡ 0
new_count-retargeted_from sheet season question zone open_leaf = refl
new_count-retargeted_from sheet season question zone (lent_leaf number) = refl
new_count-retargeted_from sheet season question zone (refuted_leaf reason fresh) =
    at_leaf (has_reason sheet season question zone reason)
  where
    at_leaf : (b : Bool) → new_count (leaf_kept b reason) ≡ 0
    at_leaf true = refl
    at_leaf false = refl
new_count-retargeted_from sheet season question zone (branch test fresh yes_half no_half) =
    let first = retargeted_from sheet season question (with_test zone test true) yes_half in
    let second = retargeted_from sheet season question (with_test zone test false) no_half in
    let no_first = new_count-retargeted_from sheet season question (with_test zone test true)
    yes_half in
    let no_second = new_count-retargeted_from sheet season question (with_test zone test false)
    no_half in
    in_each (λ tree. new_count tree ≡ 0) (halves_in sheet season zone test)
    (branch test false first second) (retargeted_from sheet season question zone yes_half)
    (retargeted_from sheet season question zone no_half)
    (λ _. omega (arith, no_first, no_second))
    (λ _. new_count-retargeted_from sheet season question zone yes_half)
    (λ _. new_count-retargeted_from sheet season question zone no_half)

-- it has no more nodes than before
pub node_count-retargeted_from : (sheet : Sheet) (season : Results) (question : Question)
    (zone : List Literal) (tree : Tree)
    → node_count (retargeted_from sheet season question zone tree) ≤ node_count tree
node_count-retargeted_from sheet season question zone open_leaf = omega arith
node_count-retargeted_from sheet season question zone (lent_leaf number) = omega arith
node_count-retargeted_from sheet season question zone (refuted_leaf reason fresh) =
    at_leaf (has_reason sheet season question zone reason)
  where
    at_leaf : (b : Bool) → node_count (leaf_kept b reason) ≤ 1
    at_leaf true = omega arith
    at_leaf false = omega arith
node_count-retargeted_from sheet season question zone (branch test fresh yes_half no_half) =
    let first = retargeted_from sheet season question (with_test zone test true) yes_half in
    let second = retargeted_from sheet season question (with_test zone test false) no_half in
    let few_first = node_count-retargeted_from sheet season question (with_test zone test true)
    yes_half in
    let few_second = node_count-retargeted_from sheet season question (with_test zone test false)
    no_half in
    let few_yes = node_count-retargeted_from sheet season question zone yes_half in
    let few_no = node_count-retargeted_from sheet season question zone no_half in
    in_each (λ tree. node_count tree ≤ 1 + node_count yes_half + node_count no_half)
    (halves_in sheet season zone test)
    (branch test false first second) (retargeted_from sheet season question zone yes_half)
    (retargeted_from sheet season question zone no_half)
    (λ _. omega (arith, few_first, few_second)) (λ _. omega (arith, few_yes))
    (λ _. omega (arith, few_no))

-- two zones mark the same rivals on the same sides
record SameMarks (was zone : List Literal) : Type 0 where
  front : (club : ℕ) → marked_before was club ≡ marked_before zone club
  back : (club : ℕ) → marked_after was club ≡ marked_after zone club

-- with one literal more on both they still do
marks-with : (was zone : List Literal) (test : Test) (holds : Bool) → SameMarks was zone
    → SameMarks (with_test was test holds) (with_test zone test holds)
marks-with was zone test holds same = record {
  front = λ club. before_in_half was test holds club
      ∙ ap (λ b. b || (is_of_rival club test && holds)) (same.front club)
      ∙ sym (before_in_half zone test holds club);
  back = λ club. after_in_half was test holds club
      ∙ ap (λ b. b || (is_of_rival club test && not holds)) (same.back club)
      ∙ sym (after_in_half zone test holds club);
}

-- without a test of a score on one side they still do
marks-score : (was zone : List Literal) (test : Test) (holds : Bool) → is_of_score test ≡ true
    → SameMarks was zone → SameMarks (with_test was test holds) zone
marks-score was zone test holds of_score same = record {
  front = λ club. before_in_half was test holds club
      ∙ ap (λ b. marked_before was club || (b && holds)) (no_rival test club of_score)
      ∙ or_nothing (marked_before was club)
      ∙ same.front club;
  back = λ club. after_in_half was test holds club
      ∙ ap (λ b. marked_after was club || (b && not holds))
      (no_rival test club of_score)
      ∙ or_nothing (marked_after was club)
      ∙ same.back club;
}
  where
    or_nothing : (b : Bool) → (b || false) ≡ b
    or_nothing true = refl
    or_nothing false = refl

-- both halves stay by their finishes alone if both have one
both_by : (a b : Bool) → halves_by a b ≡ Both → (a && b) ≡ true
both_by true true is = refl
both_by true false is = cc
both_by false true is = cc
both_by false false is = cc

-- a split of which one half stays tests a score
one_half_of_score : (sheet : Sheet) (season : Results) (zone : List Literal) (test : Test)
    (halves : Halves) → halves_in sheet season zone test ≡ halves
    → (halves ≡ YesAlone → is_of_score test ≡ true) × (halves ≡ NoAlone → is_of_score test ≡ true)
one_half_of_score sheet season zone (Home fixture) halves is = (λ _. refl, λ _. refl)
one_half_of_score sheet season zone (Draw fixture) halves is = (λ _. refl, λ _. refl)
one_half_of_score sheet season zone (HomeMost fixture most) halves is = (λ _. refl, λ _. refl)
one_half_of_score sheet season zone (AwayMost fixture most) halves is = (λ _. refl, λ _. refl)
one_half_of_score sheet season zone (Rival club) halves is = (λ yes. cc, λ no. cc)

-- a split of which both halves stay is proper in the new season, if its test may be asked
proper_kept : (sheet : Sheet) (season : Results) (question : Question)
    (was zone : List Literal) (test : Test) → SameMarks was zone
    → halves_in sheet season zone test ≡ Both
    → may_ask sheet question was test ≡ true
    → is_proper sheet season question zone test ≡ true
proper_kept sheet season question was zone (Home fixture) same both asked =
    and_from (nat_lt fixture (length sheet.fixtures))
    (have_both_finish sheet season zone (Home fixture)) asked
    (both_by (has_finish sheet season (with_test zone (Home fixture) true))
    (has_finish sheet season (with_test zone (Home fixture) false)) both)
proper_kept sheet season question was zone (Draw fixture) same both asked =
    and_from (nat_lt fixture (length sheet.fixtures))
    (have_both_finish sheet season zone (Draw fixture)) asked
    (both_by (has_finish sheet season (with_test zone (Draw fixture) true))
    (has_finish sheet season (with_test zone (Draw fixture) false)) both)
proper_kept sheet season question was zone (HomeMost fixture most) same both asked =
    and_from (nat_lt fixture (length sheet.fixtures))
    (have_both_finish sheet season zone (HomeMost fixture most)) asked
    (both_by (has_finish sheet season (with_test zone (HomeMost fixture most) true))
    (has_finish sheet season (with_test zone (HomeMost fixture most) false)) both)
proper_kept sheet season question was zone (AwayMost fixture most) same both asked =
    and_from (nat_lt fixture (length sheet.fixtures))
    (have_both_finish sheet season zone (AwayMost fixture most)) asked
    (both_by (has_finish sheet season (with_test zone (AwayMost fixture most) true))
    (has_finish sheet season (with_test zone (AwayMost fixture most) false)) both)
proper_kept sheet season question was zone (Rival club) same both asked =
    ap (λ b. nat_lt club (length sheet.clubs) && not (club == question.club) && not b)
    (ap (λ b. b || marked_after zone club) (sym (same.front club))
    ∙ ap (λ b. marked_before was club || b) (sym (same.back club)))
    ∙ asked

-- a node of what is carried over is good, if its zone has a finish
kept_nodes : (sheet : Sheet) (season : Results) (question : Question)
    (was zone : List Literal) (tree : Tree) → SameMarks was zone
    → has_finish sheet season zone ≡ true
    → NodesMeet (IsAskedNode sheet question) was tree
    → NodesMeet (IsKeptNode sheet season question) zone
    (retargeted_from sheet season question zone tree)
kept_nodes sheet season question was zone open_leaf same some asked =
    record { proper = tt; reason = tt; some = some; not_new = refl }
kept_nodes sheet season question was zone (lent_leaf number) same some asked =
    record { proper = tt; reason = tt; some = some; not_new = refl }
kept_nodes sheet season question was zone (refuted_leaf reason fresh) same some asked =
    at_leaf (has_reason sheet season question zone reason) refl
  where
    at_leaf : (b : Bool) → has_reason sheet season question zone reason ≡ b
        → NodesMeet (IsKeptNode sheet season question) zone (leaf_kept b reason)
    at_leaf true holds = record { proper = tt; reason = holds; some = some; not_new = refl }
    at_leaf false fails = record { proper = tt; reason = tt; some = some; not_new = refl }
kept_nodes sheet season question was zone (branch test fresh yes_half no_half) same some
    asked =
    let first = retargeted_from sheet season question (with_test zone test true) yes_half in
    let second = retargeted_from sheet season question (with_test zone test false) no_half in
    let of_score = one_half_of_score sheet season zone test (halves_in sheet season zone test)
    refl in
    in_each (NodesMeet (IsKeptNode sheet season question) zone) (halves_in sheet season zone test)
    (branch test false first second) (retargeted_from sheet season question zone yes_half)
    (retargeted_from sheet season question zone no_half)
    (λ both.
    let still = proper_kept sheet season question was zone test same both asked.0 in (
      record { proper = still; reason = tt; some = some; not_new = refl },
      kept_nodes sheet season question (with_test was test true) (with_test zone test true)
          yes_half (marks-with was zone test true same)
          (half_has_finish sheet season question zone test true some still) asked.1,
      kept_nodes sheet season question (with_test was test false)
          (with_test zone test false) no_half (marks-with was zone test false same)
          (half_has_finish sheet season question zone test false some still) asked.2,
    ))
    (λ yes. kept_nodes sheet season question (with_test was test true) zone yes_half
    (marks-score was zone test true (of_score.0 yes) same) some asked.1)
    (λ no. kept_nodes sheet season question (with_test was test false) zone no_half
    (marks-score was zone test false (of_score.1 no) same) some asked.2)

-- a tree within the limit stays, and one open leaf stands for another
limit_cases : (P : Tree → Type 0) (tree : Tree) → (node_count tree ≤ most_kept → P tree)
    → P open_leaf → P (within_limit tree)
limit_cases P tree within at_leaf = by_test (nat_le (node_count tree) most_kept) refl
  where
    by_test : (b : Bool) → nat_le (node_count tree) most_kept ≡ b → P (cond b tree open_leaf)
    by_test true is = within (leb-true (node_count tree) most_kept is)
    by_test false is = at_leaf

-- what is carried over lends nothing
pub lent_count-retargeted : (sheet : Sheet) (season : Results) (question : Question) (tree : Tree)
    → lent_count (retargeted sheet season question tree) ≡ 0
unfolding retargeted
lent_count-retargeted sheet season question tree =
    limit_cases (λ tree. lent_count tree ≡ 0) (retargeted_from sheet season question [] tree)
    (λ _. lent_count-retargeted_from sheet season question [] tree) refl

-- so it lends nothing under a number
pub times_lent-retargeted : (sheet : Sheet) (season : Results) (question : Question) (tree : Tree)
    (number : ℕ) → times_lent number (retargeted sheet season question tree) ≡ 0
times_lent-retargeted sheet season question tree number =
    let most = times_lent-le number (retargeted sheet season question tree) in
    omega (arith, most, lent_count-retargeted sheet season question tree)

-- none of its nodes is new
pub new_count-retargeted : (sheet : Sheet) (season : Results) (question : Question) (tree : Tree)
    → new_count (retargeted sheet season question tree) ≡ 0
unfolding retargeted
new_count-retargeted sheet season question tree =
    limit_cases (λ tree. new_count tree ≡ 0) (retargeted_from sheet season question [] tree)
    (λ _. new_count-retargeted_from sheet season question [] tree) refl

-- it has no more nodes than before, and no more than the limit
pub node_count-retargeted : (sheet : Sheet) (season : Results) (question : Question) (tree : Tree)
    → (node_count (retargeted sheet season question tree) ≤ node_count tree)
    × (node_count (retargeted sheet season question tree) ≤ most_kept)
unfolding retargeted
node_count-retargeted sheet season question tree =
    limit_cases (λ new. (node_count new ≤ node_count tree) × (node_count new ≤ most_kept))
    (retargeted_from sheet season question [] tree)
    (λ within. (node_count-retargeted_from sheet season question [] tree, within))
    (node_count-some tree, omega arith)

-- each node of it is good
pub asked_good : (sheet : Sheet) (season : Results) (question : Question) (tree : Tree)
    → IsAskedTree sheet question tree
    → NodesMeet (IsKeptNode sheet season question) [] (retargeted sheet season question tree)
unfolding retargeted
asked_good sheet season question tree asked =
    let root = root_has_finish sheet season in
    limit_cases (NodesMeet (IsKeptNode sheet season question) [])
    (retargeted_from sheet season question [] tree)
    (λ _. kept_nodes sheet season question [] [] tree
    (record { front = λ _. refl; back = λ _. refl }) root asked)
    (record { proper = tt; reason = tt; some = root; not_new = refl })

-- a proper split may be asked
proper_may_ask : (sheet : Sheet) (season : Results) (question : Question) (zone : List Literal)
    (test : Test) → is_proper sheet season question zone test ≡ true
    → may_ask sheet question zone test ≡ true
proper_may_ask sheet season question zone (Home fixture) proper =
    (and_parts (nat_lt fixture (length sheet.fixtures))
    (have_both_finish sheet season zone (Home fixture)) proper).0
proper_may_ask sheet season question zone (Draw fixture) proper =
    (and_parts (nat_lt fixture (length sheet.fixtures))
    (have_both_finish sheet season zone (Draw fixture)) proper).0
proper_may_ask sheet season question zone (HomeMost fixture most) proper =
    (and_parts (nat_lt fixture (length sheet.fixtures))
    (have_both_finish sheet season zone (HomeMost fixture most)) proper).0
proper_may_ask sheet season question zone (AwayMost fixture most) proper =
    (and_parts (nat_lt fixture (length sheet.fixtures))
    (have_both_finish sheet season zone (AwayMost fixture most)) proper).0
proper_may_ask sheet season question zone (Rival club) proper = proper

pub proper_asked : (sheet : Sheet) (season : Results) (question : Question)
    (zone : List Literal) (tree : Tree)
    → NodesMeet (IsProperNode sheet season question) zone tree
    → NodesMeet (IsAskedNode sheet question) zone tree
proper_asked sheet season question zone open_leaf proper = tt
proper_asked sheet season question zone (lent_leaf number) proper = tt
proper_asked sheet season question zone (refuted_leaf reason fresh) proper = tt
proper_asked sheet season question zone (branch test fresh yes_half no_half) proper = (
  proper_may_ask sheet season question zone test proper.0,
  proper_asked sheet season question (with_test zone test true) yes_half proper.1,
  proper_asked sheet season question (with_test zone test false) no_half proper.2,
)

-- so a tree of splits that were proper in the season before
pub kept_good : (sheet : Sheet) (before season : Results) (question : Question) (tree : Tree)
    → NodesMeet (IsProperNode sheet before question) [] tree
    → NodesMeet (IsKeptNode sheet season question) [] (retargeted sheet season question tree)
kept_good sheet before season question tree proper =
    asked_good sheet season question tree (proper_asked sheet before question [] tree proper)

-- a test that may be asked is of what the sheet has
asked_is_of : (sheet : Sheet) (question : Question) (zone : List Literal) (test : Test)
    → may_ask sheet question zone test ≡ true → is_test_of sheet test ≡ true
asked_is_of sheet question zone (Home fixture) asked = asked
asked_is_of sheet question zone (Draw fixture) asked = asked
asked_is_of sheet question zone (HomeMost fixture most) asked = asked
asked_is_of sheet question zone (AwayMost fixture most) asked = asked
asked_is_of sheet question zone (Rival club) asked =
    (and_parts (nat_lt club (length sheet.clubs)) (not (club == question.club))
    (and_parts (nat_lt club (length sheet.clubs) && not (club == question.club))
    (not (is_marked zone club)) asked).0).0

-- so the tests of a tree that may be asked are the sheet's
pub asked_tests : (sheet : Sheet) (question : Question) (zone : List Literal) (tree : Tree)
    → NodesMeet (IsAskedNode sheet question) zone tree → AreTestsOf sheet tree
asked_tests sheet question zone open_leaf asked =
    All-cons (IsNodeOf sheet) Open [] tt (All-nil (IsNodeOf sheet))
asked_tests sheet question zone (lent_leaf number) asked =
    All-cons (IsNodeOf sheet) (Lent number) [] tt (All-nil (IsNodeOf sheet))
asked_tests sheet question zone (refuted_leaf reason fresh) asked =
    All-cons (IsNodeOf sheet) (Refuted reason fresh) [] tt (All-nil (IsNodeOf sheet))
asked_tests sheet question zone (branch test fresh yes_half no_half) asked =
    All-cons (IsNodeOf sheet) (Split test fresh) (preorder yes_half ++ preorder no_half)
    (asked_is_of sheet question zone test asked.0)
    (All-append (IsNodeOf sheet) (preorder yes_half) (preorder no_half)
    (asked_tests sheet question (with_test zone test true) yes_half asked.1)
    (asked_tests sheet question (with_test zone test false) no_half asked.2))

pub proper_tests : (sheet : Sheet) (season : Results) (question : Question) (zone : List Literal)
    (tree : Tree) → NodesMeet (IsProperNode sheet season question) zone tree → AreTestsOf sheet tree
proper_tests sheet season question zone tree proper =
    asked_tests sheet question zone tree (proper_asked sheet season question zone tree proper)

-- a tree of one open leaf stays as it is
pub open_leaf_stays : (sheet : Sheet) (season : Results) (question : Question) (tree : Tree)
    → tree ≡ open_leaf → retargeted sheet season question tree ≡ tree
unfolding retargeted
open_leaf_stays sheet season question tree is =
    ap (λ t. within_limit (retargeted_from sheet season question [] t)) is
    ∙ limit_cases (λ kept. kept ≡ open_leaf) open_leaf (λ few. refl) refl
    ∙ sym is

-- a list of more nodes than the limit is that of a tree that becomes one open leaf
pub retargeted-many : (sheet : Sheet) (season : Results) (question : Question) (tree : Tree)
    (found : List TreeNode) → found ≡ preorder (retargeted_from sheet season question [] tree)
    → most_kept < length found → open_leaf ≡ retargeted sheet season question tree
unfolding retargeted
retargeted-many sheet season question tree found is many =
    let new = retargeted_from sheet season question [] tree in
    let count : length found ≡ node_count new = ap length is ∙ length-preorder new in
    limit_cases (λ kept. open_leaf ≡ kept) new (λ few. absurd (omega arith)) refl

-- any other is that of the tree that is left
pub retargeted-few : (sheet : Sheet) (season : Results) (question : Question) (tree kept : Tree)
    (found : List TreeNode) → found ≡ preorder (retargeted_from sheet season question [] tree)
    → length found ≤ most_kept → preorder kept ≡ found
    → kept ≡ retargeted sheet season question tree
unfolding retargeted
retargeted-few sheet season question tree kept found is few same =
    let new = retargeted_from sheet season question [] tree in
    let count : length found ≡ node_count new = ap length is ∙ length-preorder new in
    preorder_injective kept new (same ∙ is)
    ∙ ap (λ b. cond b new open_leaf)
    (sym (le-leb (node_count new) most_kept (omega arith)))

-- it is that of a tree
pub retargeted-read : (sheet : Sheet) (season : Results) (question : Question) (tree : Tree)
    (found : List TreeNode) → found ≡ preorder (retargeted_from sheet season question [] tree)
    → IsTrue (is_some (tree_of found))
retargeted-read sheet season question tree found is =
    ap is_some (ap tree_of is ∙ tree_of-preorder (retargeted_from sheet season question [] tree))
