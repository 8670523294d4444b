-- Lots in which the clubs of one group are drawn before all others, or after them.
use Rattle.std.proofs.Common.{◌≡◌, ◌⊎◌, ◌<◌, inl, inr, ℕ, ◌-◌, Bool, true, false, not}
use Rattle.std.proofs.Common.{◌&&◌, ◌||◌, ◌==◌, cond, List, [], ◌∷◌, ◌++◌, length, map, filter}
use Rattle.std.proofs.Common.{refl, sym, ap, ◌∙◌, arith, append-nil}
use Rattle.std.specs.List.{list_all, range_with_len}
use Rattle.std.proofs.lemmas.Bool.{true≢false, and_from, or_left, or_right, eq-eqb}
use Rattle.std.proofs.lemmas.Bool.{cases_Bool}
use Rattle.std.proofs.lemmas.List.{length-append}
use Rattle.std.proofs.lemmas.List.Filters.{length-filter_both}
use Rattle.std.proofs.lemmas.List.Elements.{filter-append}
use Rattle.league_core.specs.game.Sums.{has_club}
use Rattle.league_core.specs.game.Ranking.{are_lots, lot_of}
use Rattle.league_core.proofs.plain.Runs.{all_in_range}
use Rattle.league_core.proofs.ClubLemmas.{has_club-append}
use Rattle.league_core.proofs.ClubSetLemmas.{has_club-filter}
use Rattle.league_core.proofs.OthersLemmas.{lot_of-absent, lot_of-present}
use Rattle.cup_sheet.specs.JointFinishes.{ClubBlock, is_in_block, number_in_cup, lots_within}

-- those that pass a test first, then those that do not
abbrev pub passing_first : (ℕ → Bool) → List ℕ → List ℕ
passing_first p xs = filter p xs ++ filter (λ x. not (p x)) xs

-- ---- what a filter keeps of it

-- one element of a filter within a filter
kept_step : (q p : ℕ → Bool) (x : ℕ) (kept all : List ℕ) → (q x ≡ true → p x ≡ true)
    → filter q kept ≡ filter q all
    → filter q (cond (p x) (x ∷ kept) kept) ≡ cond (q x) (x ∷ filter q all) (filter q all)
kept_step q p x kept all implies same =
    elim (p x) as (λ b. p x ≡ b
    → filter q (cond b (x ∷ kept) kept) ≡ cond (q x) (x ∷ filter q all) (filter q all)) [
      | true ↦ λ is. ap (λ it. cond (q x) (x ∷ it) it) same
      | false ↦ λ is. elim (q x) as (λ b. q x ≡ b
          → filter q kept ≡ cond b (x ∷ filter q all) (filter q all)) [
            | true ↦ λ passes. absurd (true≢false (sym (implies passes) ∙ is))
            | false ↦ λ fails. same
          ] refl
    ] refl

-- what passes the one test passes the other, so that nothing is lost
kept_all : (q p : ℕ → Bool) → ((x : ℕ) → q x ≡ true → p x ≡ true) → (xs : List ℕ)
    → filter q (filter p xs) ≡ filter q xs
kept_all q p implies [] = refl
kept_all q p implies (x ∷ xs) =
    kept_step q p x (filter p xs) xs (implies x) (kept_all q p implies xs)

-- one element that is lost
lost_step : (q p : ℕ → Bool) (x : ℕ) (kept : List ℕ) → (q x ≡ true → p x ≡ false)
    → filter q kept ≡ [] → filter q (cond (p x) (x ∷ kept) kept) ≡ []
lost_step q p x kept implies none =
    elim (p x) as (λ b. p x ≡ b → filter q (cond b (x ∷ kept) kept) ≡ []) [
      | true ↦ λ is. elim (q x) as
          (λ b. q x ≡ b → cond b (x ∷ filter q kept) (filter q kept) ≡ []) [
            | true ↦ λ passes. absurd (true≢false (sym is ∙ implies passes))
            | false ↦ λ fails. none
          ] refl
      | false ↦ λ is. none
    ] refl

-- what passes the one test does not pass the other, so that all is lost
kept_none : (q p : ℕ → Bool) → ((x : ℕ) → q x ≡ true → p x ≡ false) → (xs : List ℕ)
    → filter q (filter p xs) ≡ []
kept_none q p implies [] = refl
kept_none q p implies (x ∷ xs) =
    lost_step q p x (filter p xs) (implies x) (kept_none q p implies xs)

-- what is on one side of the test stays in its order
pub side_stays : (q p : ℕ → Bool) (xs : List ℕ)
    → ((x : ℕ) → q x ≡ true → p x ≡ true) ⊎ ((x : ℕ) → q x ≡ true → p x ≡ false)
    → filter q (passing_first p xs) ≡ filter q xs
side_stays q p xs (inl front) =
    filter-append q (filter p xs) (filter (λ x. not (p x)) xs)
    ∙ (λ i. kept_all q p front xs i
    ++ kept_none q (λ x. not (p x)) (λ x passes. ap not (front x passes)) xs i)
    ∙ append-nil (filter q xs)
side_stays q p xs (inr back) =
    filter-append q (filter p xs) (filter (λ x. not (p x)) xs)
    ∙ (λ i. kept_none q p back xs i
    ++ kept_all q (λ x. not (p x)) (λ x passes. ap not (back x passes)) xs i)

-- ---- they are lots

-- a number on either side is there
side_has : (p : ℕ → Bool) (xs : List ℕ) (x : ℕ) → has_club xs x ≡ true
    → has_club (passing_first p xs) x ≡ true
side_has p xs x has =
    let out : ℕ → Bool = λ it. not (p it) in
    has_club-append (filter p xs) (filter out xs) x
    ∙ elim (cases_Bool (p x)) as
    (λ _. (has_club (filter p xs) x || has_club (filter out xs) x) ≡ true) [
      | inl passes ↦ or_left (has_club (filter p xs) x) (has_club (filter out xs) x)
          (has_club-filter p xs x ∙ and_from (has_club xs x) (p x) has passes)
      | inr fails ↦ or_right (has_club (filter p xs) x) (has_club (filter out xs) x)
          (has_club-filter out xs x ∙ and_from (has_club xs x) (out x) has (ap not fails))
    ]

-- a list of as many as there are clubs that has each of them is lots, whatever is drawn first
pub sides_are_lots : (p : ℕ → Bool) (clubs : ℕ) (xs : List ℕ) → length xs ≡ clubs
    → ((club : ℕ) → club < clubs → has_club xs club ≡ true)
    → are_lots clubs (passing_first p xs) ≡ true
sides_are_lots p clubs xs many each =
    let out : ℕ → Bool = λ x. not (p x) in
    let lots = passing_first p xs in
    let count : length lots ≡ clubs = omega (
      arith,
      many,
      length-append (filter p xs) (filter out xs),
      length-filter_both p out (λ x. refl) xs,
    ) in
    and_from (length lots == clubs) (list_all (has_club lots) (range_with_len 0 clubs))
    (eq-eqb (length lots) clubs count)
    (all_in_range (has_club lots) 0 clubs
    (λ club low high. side_has p xs club (each club (omega (arith, high)))))

-- who passes is drawn before who does not
pub sides_in_turn : (p : ℕ → Bool) (xs : List ℕ) (club other : ℕ) → has_club xs club ≡ true
    → p club ≡ true → p other ≡ false
    → lot_of (passing_first p xs) club < lot_of (passing_first p xs) other
sides_in_turn p xs club other has passes fails =
    let front = filter p xs in
    let back = filter (λ x. not (p x)) xs in
    let there : has_club front club ≡ true = has_club-filter p xs club
    ∙ and_from (has_club xs club) (p club) has passes in
    let absent : has_club front other ≡ false = has_club-filter p xs other
    ∙ ap (λ b. has_club xs other && b) fails ∙ never (has_club xs other) in
    omega (arith, lot_of-present front back club there, lot_of-absent front back other absent)
  where
    never : (b : Bool) → (b && false) ≡ false
    never true = refl
    never false = refl

-- ---- lots within a group

-- the numbers in a group are those in the cup less its first
own_again : (block : ClubBlock) (clubs : List ℕ)
    → map (λ club. club - block.first) (map (number_in_cup block) clubs) ≡ clubs
own_again block [] = refl
own_again block (club ∷ clubs) =
    let same : number_in_cup block club - block.first ≡ club = omega arith in
    (λ i. same i ∷ own_again block clubs i)

-- lots of which a group keeps its own are these within it
pub own_within : (block : ClubBlock) (lots own : List ℕ)
    → filter (is_in_block block) lots ≡ map (number_in_cup block) own
    → lots_within block lots ≡ own
own_within block lots own kept =
    ap (λ clubs. map (λ club. club - block.first) clubs) kept ∙ own_again block own
