-- A tree that is read node by node: what a node more leaves due, and that nothing due is a tree.
use Rattle.std.proofs.Common.{◌≡◌, ℕ, Bool, true, false, not, ◌&&◌, ◌||◌, ◌==◌, List, []}
use Rattle.std.proofs.Common.{◌∷◌, ◌++◌, refl, sym, ap, ◌∙◌, None, ◌<◌, arith}
use Rattle.std.proofs.lemmas.Bool.{and_parts, ltb-true, lt-ltb, false≢true}
use Rattle.std.specs.List.{range_with_len}
use Rattle.std.proofs.lemmas.List.{append_assoc, append-nil}
use Rattle.league_core.specs.declared.sheet.Sheet.{Sheet}
use Rattle.league_core.specs.declared.question.Question.{Question}
use Rattle.league_core.specs.declared.zone.Test.{Test}
use Rattle.league_core.specs.declared.zone.Test.TheVariants.{Home, Draw, HomeMost, AwayMost, Rival}
use Rattle.league_core.specs.declared.zone.Literal.{Literal}
use Rattle.league_core.specs.declared.zone.Reason.{Reason}
use Rattle.league_core.specs.declared.tree.TreeNode.{TreeNode}
use Rattle.league_core.specs.declared.tree.TreeNode.TheVariants.{Split, Open, Refuted}
use Rattle.league_core.specs.game.Sums.{has_club}
use Rattle.league_core.specs.search.Zones.{is_marked, is_of_rival, marked_before, marked_after}
use Rattle.league_core.specs.search.Zones.{with_test}
use Rattle.league_core.specs.search.Zones.{is_test_of}
use Rattle.league_core.specs.search.Trees.{Tree, open_leaf, refuted_leaf, branch, preorder}
use Rattle.league_core.specs.search.TreeLists.{preorders, tree_of}
use Rattle.league_core.specs.game.Limits.{set_width, most_clubs}
use Rattle.league_core.proofs.ClubSetLemmas.{has_club-filter, has_club-range}
use Rattle.league_core.proofs.HalfLemmas.{before_in_half, after_in_half}
use Rattle.league_core.proofs.TreeListLemmas.{preorder_injective, unread_exact}
use Rattle.cert_text.specs.Ranges.{is_test_in_range}
use Rattle.cert_text.specs.TreeLines.{is_test_for}
use Rattle.line_tokens.specs.LineRanges.{is_reason_for}
use Rattle.pool_save.specs.SavedTexts.{IsSavedNode, IsSavedTree}
use Rattle.pool_save.specs.SavedReadings.{may_split, with_rival}
use Rattle.pool_save.specs.inside.SoFar.{Marks, IsSavedBy, IsDrafted}

-- ---- marks

-- a half marks what the zone marks, and the rival of its test
marked_half : (zone : List Literal) (test : Test) (holds : Bool) (rival : ℕ)
    → is_marked (with_test zone test holds) rival ≡ (is_marked zone rival || is_of_rival rival test)
marked_half zone test holds rival =
    ap (λ b. b || marked_after (with_test zone test holds) rival)
    (before_in_half zone test holds rival)
    ∙ ap (λ b. (marked_before zone rival || (is_of_rival rival test && holds)) || b)
    (after_in_half zone test holds rival)
    ∙ together (marked_before zone rival) (marked_after zone rival) (is_of_rival rival test) holds
  where
    together : (a b c h : Bool) → ((a || (c && h)) || (b || (c && not h))) ≡ ((a || b) || c)
    together true b c h = refl
    together false true true true = refl
    together false true true false = refl
    together false true false h = refl
    together false false true true = refl
    together false false true false = refl
    together false false false h = refl

-- so do the rivals with that of the test
pub marks_half : (rivals : List ℕ) (test : Test) (zone : List Literal) → Marks rivals zone
    → (holds : Bool) → Marks (with_rival rivals test) (with_test zone test holds)
unfolding with_rival
marks_half rivals test zone marks holds = λ club below.
    has_club-filter (λ it. has_club rivals it || is_of_rival it test) (range_with_len 0 set_width)
    club
    ∙ ap (λ b. b && (has_club rivals club || is_of_rival club test))
    (has_club-range set_width club ∙ lt-ltb club set_width below)
    ∙ ap (λ b. b || is_of_rival club test) (marks club below)
    ∙ sym (marked_half zone test holds club)

-- the rival of such a test is a club that a set can have
pub rival_small : (sheet : Sheet) (question : Question) (rivals : List ℕ) (club : ℕ)
    → may_split sheet question rivals (Rival club) ≡ true → club < 32
rival_small sheet question rivals club may =
    let for_it = (and_parts (is_test_for sheet question (Rival club))
    (not (has_club rivals club)) may).0 in
    let both = (and_parts (is_test_in_range (Rival club) && is_test_of sheet (Rival club))
    (not (is_of_rival question.club (Rival club))) for_it).0 in
    let below = ltb-true club most_clubs
    (and_parts (is_test_in_range (Rival club)) (is_test_of sheet (Rival club)) both).0 in
    omega (arith, below)

-- a test of a score that may come is in range, and of a fixture of the sheet
score_in_zone : (range of_sheet own : Bool) → ((range && of_sheet && not own) && not false) ≡ true
    → (of_sheet ≡ true) × (range ≡ true)
score_in_zone true true own may = (refl, refl)
score_in_zone true false own may = absurd (false≢true may)
score_in_zone false of_sheet own may = absurd (false≢true may)

-- a test of a rival that may come is in range, of a club of the sheet other than the question's,
-- and of none that the zone marks
rival_in_zone : (range of_sheet own other marked : Bool) → own ≡ other
    → (range && of_sheet && not own && not marked) ≡ true
    → ((of_sheet && not other && not marked) ≡ true) × (range ≡ true)
rival_in_zone true of_sheet own other marked same may =
    (ap (λ b. of_sheet && not b && not marked) (sym same) ∙ may, refl)
rival_in_zone false of_sheet own other marked same may = absurd (false≢true may)

-- a split that may come where the rivals were asked is one of a saved tree there
split_in_zone : (sheet : Sheet) (question : Question) (rivals : List ℕ) (zone : List Literal)
    (test : Test) (fresh : Bool) → Marks rivals zone → may_split sheet question rivals test ≡ true
    → IsSavedNode sheet question zone (Split test fresh)
split_in_zone sheet question rivals zone (Home fixture) fresh marks may =
    score_in_zone (is_test_in_range (Home fixture)) (is_test_of sheet (Home fixture)) false may
split_in_zone sheet question rivals zone (Draw fixture) fresh marks may =
    score_in_zone (is_test_in_range (Draw fixture)) (is_test_of sheet (Draw fixture)) false may
split_in_zone sheet question rivals zone (HomeMost fixture most) fresh marks may =
    score_in_zone (is_test_in_range (HomeMost fixture most))
    (is_test_of sheet (HomeMost fixture most)) false may
split_in_zone sheet question rivals zone (AwayMost fixture most) fresh marks may =
    score_in_zone (is_test_in_range (AwayMost fixture most))
    (is_test_of sheet (AwayMost fixture most)) false may
split_in_zone sheet question rivals zone (Rival club) fresh marks may =
    rival_in_zone (is_test_in_range (Rival club)) (is_test_of sheet (Rival club))
    (is_of_rival question.club (Rival club)) (club == question.club) (is_marked zone club) refl
    (ap (λ b. is_test_for sheet question (Rival club) && not b)
    (sym (marks club (rival_small sheet question rivals club may))) ∙ may)

-- and the other way
score_may_come : (range of_sheet : Bool) → of_sheet ≡ true → range ≡ true
    → ((range && of_sheet && true) && true) ≡ true
score_may_come true true is in_range = refl
score_may_come true false is in_range = absurd (false≢true is)
score_may_come false of_sheet is in_range = absurd (false≢true in_range)

rival_may_come : (range of_sheet own other marked : Bool) → own ≡ other
    → (of_sheet && not other && not marked) ≡ true → range ≡ true
    → (range && of_sheet && not own && not marked) ≡ true
rival_may_come true of_sheet own other marked same may in_range =
    ap (λ b. of_sheet && not b && not marked) same ∙ may
rival_may_come false of_sheet own other marked same may in_range = absurd (false≢true in_range)

pub split_may_come : (sheet : Sheet) (question : Question) (rivals : List ℕ)
    (zone : List Literal) (test : Test) (fresh : Bool) → Marks rivals zone
    → IsSavedNode sheet question zone (Split test fresh)
    → may_split sheet question rivals test ≡ true
split_may_come sheet question rivals zone (Home fixture) fresh marks saved =
    score_may_come (is_test_in_range (Home fixture)) (is_test_of sheet (Home fixture)) saved.0
    saved.1
split_may_come sheet question rivals zone (Draw fixture) fresh marks saved =
    score_may_come (is_test_in_range (Draw fixture)) (is_test_of sheet (Draw fixture)) saved.0
    saved.1
split_may_come sheet question rivals zone (HomeMost fixture most) fresh marks saved =
    score_may_come (is_test_in_range (HomeMost fixture most))
    (is_test_of sheet (HomeMost fixture most)) saved.0 saved.1
split_may_come sheet question rivals zone (AwayMost fixture most) fresh marks saved =
    score_may_come (is_test_in_range (AwayMost fixture most))
    (is_test_of sheet (AwayMost fixture most)) saved.0 saved.1
split_may_come sheet question rivals zone (Rival club) fresh marks saved =
    let below = ltb-true club most_clubs saved.1 in
    ap (λ b. is_test_for sheet question (Rival club) && not b) (marks club (omega (arith, below)))
    ∙ rival_may_come (is_test_in_range (Rival club)) (is_test_of sheet (Rival club))
    (is_of_rival question.club (Rival club)) (club == question.club) (is_marked zone club) refl
    saved.0 saved.1

-- ---- a node more

-- at first one part is due, the whole tree, and nothing is marked
pub draft_begun : (sheet : Sheet) (question : Question) (set : List ℕ) → set ≡ []
    → IsDrafted sheet question [] (set ∷ [])
draft_begun sheet question set none [] fits = absurd fits
draft_begun sheet question set none (tree ∷ []) fits = (
  tree,
  sym (append-nil (preorder tree)),
  fits.0 [] (λ club below. ap (λ clubs. has_club clubs club) none),
)
draft_begun sheet question set none (tree ∷ other ∷ trees) fits = absurd fits.1

-- a tree comes for the part that is next
part_taken : (sheet : Sheet) (question : Question) (nodes : List TreeNode) (set : List ℕ)
    (due : List (List ℕ)) (part : Tree) → IsDrafted sheet question nodes (set ∷ due)
    → IsSavedBy sheet question set part → IsDrafted sheet question (nodes ++ preorder part) due
part_taken sheet question nodes set due part drafted asked = λ trees fits.
    let whole = drafted (part ∷ trees) (asked, fits) in
    (whole.0, whole.1 ∙ sym (append_assoc nodes (preorder part) (preorders trees)), whole.2)

pub open_taken : (sheet : Sheet) (question : Question) (nodes : List TreeNode) (set : List ℕ)
    (due : List (List ℕ)) → IsDrafted sheet question nodes (set ∷ due)
    → IsDrafted sheet question (nodes ++ Open ∷ []) due
open_taken sheet question nodes set due drafted =
    part_taken sheet question nodes set due open_leaf drafted (λ zone marks. (tt, refl))

pub refuted_taken : (sheet : Sheet) (question : Question) (nodes : List TreeNode) (set : List ℕ)
    (due : List (List ℕ)) (reason : Reason) (fresh : Bool)
    → IsDrafted sheet question nodes (set ∷ due) → is_reason_for sheet question reason ≡ true
    → IsDrafted sheet question (nodes ++ Refuted reason fresh ∷ []) due
refuted_taken sheet question nodes set due reason fresh drafted may =
    part_taken sheet question nodes set due (refuted_leaf reason fresh) drafted
    (λ zone marks. (tt, may))

-- a split: two parts are due in its place
pub split_drafted : (sheet : Sheet) (question : Question) (nodes : List TreeNode)
    (set : List ℕ) (due : List (List ℕ)) (test : Test) (fresh : Bool)
    → IsDrafted sheet question nodes (set ∷ due) → may_split sheet question set test ≡ true
    → IsDrafted sheet question (nodes ++ Split test fresh ∷ [])
    (with_rival set test ∷ with_rival set test ∷ due)
split_drafted sheet question nodes set due test fresh drafted may [] fits = absurd fits
split_drafted sheet question nodes set due test fresh drafted may (yes_half ∷ []) fits =
    absurd fits.1
split_drafted sheet question nodes set due test fresh drafted may (yes_half ∷ no_half ∷ trees) fits
    =
    let part = branch test fresh yes_half no_half in
    let whole = drafted (part ∷ trees) (asked, fits.1.1) in (
      whole.0,
      whole.1 ∙ ap (λ rest. nodes ++ Split test fresh ∷ rest)
          (append_assoc (preorder yes_half) (preorder no_half) (preorders trees))
          ∙ sym (append_assoc nodes (Split test fresh ∷ [])
          (preorder yes_half ++ (preorder no_half ++ preorders trees))),
      whole.2,
    )
  where
    asked : IsSavedBy sheet question set (branch test fresh yes_half no_half)
    asked zone marks = (
      split_in_zone sheet question set zone test fresh marks may,
      fits.0 (with_test zone test true) (marks_half set test zone marks true),
      fits.1.0 (with_test zone test false) (marks_half set test zone marks false),
    )

-- nothing is due: the tree that is made of the nodes may be asked
pub draft_whole : (sheet : Sheet) (question : Question) (nodes : List TreeNode) (tree : Tree)
    → IsDrafted sheet question nodes [] → preorder tree ≡ nodes → IsSavedTree sheet question tree
draft_whole sheet question nodes tree drafted made =
    let whole = drafted [] tt in
    rw (preorder_injective tree whole.0 (made ∙ sym (append-nil nodes) ∙ sym whole.1)) whole.2

-- and there is such a tree
pub draft_is_read : (sheet : Sheet) (question : Question) (nodes : List TreeNode)
    → IsDrafted sheet question nodes [] → tree_of nodes ≡ None → ⊥
draft_is_read sheet question nodes drafted none =
    let whole = drafted [] tt in
    (unread_exact nodes).0 none whole.0 (whole.1 ∙ append-nil nodes)
