-- Lists of clubs: which clubs a list has, how many pass a test, and where in the lots a club
-- stands.
use Rattle.std.proofs.Common.{◌≡◌, ℕ, suc, ◌+◌, ◌<◌, Bool, true, false, not, ◌||◌, ◌&&◌, ◌==◌, cond}
use Rattle.std.proofs.Common.{List, [], ◌∷◌, length, get_or, refl, ◌∙◌, arith, eqb, sym, ap, inl}
use Rattle.std.proofs.Common.{inr, subst, ◌++◌}
use Rattle.std.specs.Prelude.{IsTrue, ◌↔◌}
use Rattle.std.specs.List.{list_all, list_any, range_with_len}
use Rattle.std.proofs.lemmas.Bool.{and_parts, and_from, eqb-true, eq-eqb, false≢true, or_cases}
use Rattle.std.proofs.lemmas.Bool.{or_left, or_right}
use Rattle.std.proofs.Math.Bool.{not-not}
use Rattle.std.proofs.lemmas.Bool.Decides.{same_from_decides}
use Rattle.std.proofs.lemmas.List.Folds.{list_any_at, list_any-append}
use Rattle.std.proofs.lemmas.List.FromFn.{length-range_with_len, get_or-range_with_len}
use Rattle.league_core.specs.game.Sums.{has_club}
use Rattle.league_core.specs.game.Ranking.{lot_of}
use Rattle.league_core.specs.search.Reasons.{has_member}

-- the clubs below a number are those numbers
pub range_has : (count club : ℕ) → club < count → has_club (range_with_len 0 count) club ≡ true
range_has count club h =
    list_any_at (λ member. member == club) (range_with_len 0 count) club 0
    (omega (arith, length-range_with_len 0 count))
    (eq-eqb (get_or (range_with_len 0 count) club 0) club
    (get_or-range_with_len 0 count club 0 h ∙ omega arith))

-- a list after another has what either has
pub has_club-append : (clubs more : List ℕ) (club : ℕ)
    → has_club (clubs ++ more) club ≡ (has_club clubs club || has_club more club)
has_club-append clubs more club = list_any-append (λ member. member == club) clubs more

-- a list with a club is not empty
pub has_club-some : (clubs : List ℕ) (club : ℕ) → has_club clubs club ≡ true
    → 0 < length clubs
has_club-some [] club has = absurd (false≢true has)
has_club-some (first ∷ clubs) club has = omega arith

-- a list has the club that its lots place within it
pub lot_of-within : (lots : List ℕ) (club : ℕ) → has_club lots club ≡ true
    → lot_of lots club < length lots
lot_of-within [] club h = absurd (false≢true h)
lot_of-within (drawn ∷ lots) club h =
    elim (drawn == club) as (λ b. (b || has_club lots club) ≡ true
    → cond (not b) (1 + lot_of lots club) 0 < suc (length lots)) [
      | true ↦ λ e. omega arith
      | false ↦ λ e. omega (arith, lot_of-within lots club e)
    ] h

-- a list of numbers has one whichever side the test has it on
pub any_from_has : (lots : List ℕ) (club : ℕ) → has_club lots club ≡ true
    → list_any (eqb club) lots ≡ true
any_from_has [] club has = absurd (false≢true has)
any_from_has (drawn ∷ lots) club has =
    elim (or_cases (drawn == club) (has_club lots club) has) as (λ _.
    (eqb club drawn || list_any (eqb club) lots) ≡ true) [
      | inl here ↦ or_left (eqb club drawn) (list_any (eqb club) lots)
          (eq-eqb club drawn (sym (eqb-true drawn club here)))
      | inr later ↦ or_right (eqb club drawn) (list_any (eqb club) lots)
          (any_from_has lots club later)
    ]

-- what all of a list's clubs pass, each of them passes
pub each_member : (test : ℕ → Bool) (clubs : List ℕ) → list_all test clubs ≡ true → (club : ℕ)
    → has_club clubs club ≡ true → test club ≡ true
each_member test [] all club has = absurd (false≢true has)
each_member test (first ∷ clubs) all club has =
    let parts = and_parts (test first) (list_all test clubs) all in
    elim (first == club) as (λ b. (first == club) ≡ b → (b || has_club clubs club) ≡ true
    → test club ≡ true) [
      | true ↦ λ same has. subst (λ (x : ℕ). test x ≡ true) (eqb-true first club same) parts.0
      | false ↦ λ other has. each_member test clubs parts.1 club has
    ] refl has

-- and what each of them passes, all of them pass
pub all_members : (test : ℕ → Bool) (clubs : List ℕ)
    → ((club : ℕ) → has_club clubs club ≡ true → test club ≡ true) → list_all test clubs ≡ true
all_members test [] each = refl
all_members test (first ∷ clubs) each =
    and_from (test first) (list_all test clubs)
    (each first (ap (λ b. b || has_club clubs first) (eq-eqb first first refl)))
    (all_members test clubs
    (λ club has. each club (or_right (first == club) (has_club clubs club) has)))

-- a list that has no club is empty
pub no_member : (clubs : List ℕ) → ((club : ℕ) → has_club clubs club ≡ false) → clubs ≡ []
no_member [] none = refl
no_member (first ∷ clubs) none =
    absurd (false≢true (sym (none first)
    ∙ ap (λ b. b || has_club clubs first) (eq-eqb first first refl)))

-- a list has a club, or it is empty
pub has_member-not_empty : (clubs : List ℕ) (is_empty : Bool) → (IsTrue is_empty ↔ (clubs ≡ []))
    → not is_empty ≡ has_member clubs
has_member-not_empty [] is_empty says = ap not (says.1 refl)
has_member-not_empty (club ∷ clubs) true says = absurd (let e = says.0 refl in cc)
has_member-not_empty (club ∷ clubs) false says = refl

-- the rest of a list after those that pass a test is empty exactly when all pass it
pub list_all-rest_empty : (test : ℕ → Bool) (clubs rest : List ℕ) (is_empty : Bool)
    → ((club : ℕ) → has_club rest club ≡ (has_club clubs club && not (test club)))
    → (IsTrue is_empty ↔ (rest ≡ [])) → is_empty ≡ list_all test clubs
list_all-rest_empty test clubs rest is_empty has says =
    same_from_decides {P = rest ≡ []} is_empty (list_all test clubs) says (
      λ all. no_member rest (λ club. has club ∙ neither club (has_club clubs club) all refl),
      λ empty. all_members test clubs (λ club here.
          sym (not-not (test club))
          ∙ ap not (sym (ap (λ b. b && not (test club)) here) ∙ sym (has club)
          ∙ ap (λ xs. has_club xs club) empty)),
    )
  where
    neither : (club : ℕ) (b : Bool) → list_all test clubs ≡ true → has_club clubs club ≡ b
        → (b && not (test club)) ≡ false
    neither club false all here = refl
    neither club true all here = ap not (each_member test clubs all club here)
