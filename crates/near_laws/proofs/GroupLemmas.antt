-- Groups of clubs: lists that name each club once, the groups that may form, and the lead of one
-- club over another in a group that is made of them and others.
use Rattle.std.proofs.Common.{◌≡◌, ℕ, zero, suc, ◌+◌, ℤ, pos, ◌+ℤ◌, Bool, true, false, ◌&&◌, ◌||◌}
use Rattle.std.proofs.Common.{◌==◌, cond, List, [], ◌∷◌, ◌++◌, map, filter, Option, refl, sym, ap}
use Rattle.std.proofs.Common.{◌∙◌, subst, inl, inr, arith}
use Rattle.std.specs.List.{list_all, list_any, range_with_len}
use Rattle.std.proofs.Math.Bool.{or-true}
use Rattle.std.proofs.lemmas.Int.{ints}
use Rattle.std.proofs.lemmas.Bool.{false≢true, true≢false, and_parts, or_cases, eq-eqb}
use Rattle.std.proofs.lemmas.Bool.Decides.{nat_tests}
use Rattle.std.proofs.lemmas.List.Folds.{list_all-append}
use Rattle.league_core.specs.declared.sheet.Fixture.{Fixture}
use Rattle.league_core.specs.declared.season.Score.{Score}
use Rattle.league_core.specs.game.Sums.{has_club, worth_among}
use Rattle.league_core.proofs.ClubLemmas.{has_club-append}
use Rattle.league_core.proofs.ClubSetLemmas.{has_club-filter, has_club-range_from}
use Rattle.league_core.proofs.plain.Numbers.{eqb-swap}
use Rattle.near_laws.specs.Leads.{Lead, added_parts, added_leads, total_lead, worth_against}
use Rattle.near_laws.specs.Leads.{margins}
use Rattle.near_laws.specs.SureLeads.{record_worths, even_record}
use Rattle.near_laws.specs.Groups.{groups_with}
use Rattle.near_laws.proofs.LeadLemmas.{sums_of, Bounds, added_bounds}
use Rattle.near_laws.proofs.MarginLemmas.{margins_with_one_more}

-- no club is named twice
abbrev pub AreOnce : List ℕ → Type 0
AreOnce [] = Unit {0}
AreOnce (club ∷ clubs) = (has_club clubs club ≡ false) × AreOnce clubs

pub once-filter : (keep : ℕ → Bool) (clubs : List ℕ) → AreOnce clubs → AreOnce (filter keep clubs)
once-filter keep [] once = tt
once-filter keep (club ∷ clubs) once = chosen (keep club) (once-filter keep clubs once.1)
  where
    chosen : (b : Bool) → AreOnce (filter keep clubs)
        → AreOnce (cond b (club ∷ filter keep clubs) (filter keep clubs))
    chosen true rest =
        (has_club-filter keep clubs club ∙ ap (λ b. b && keep club) once.0, rest)
    chosen false rest = rest

pub once-range : (from count : ℕ) → AreOnce (range_with_len from count)
once-range from zero = tt
once-range from (suc count) = (later, once-range (from + 1) count)
  where
    later : has_club (range_with_len (from + 1) count) from ≡ false
    later = grind (arith, nat_tests, has_club-range_from (from + 1) count from)

-- some club of the list that passes a test, if one does
pub any_member : (test : ℕ → Bool) (clubs : List ℕ)
    → ((club : ℕ) → has_club clubs club ≡ true → test club ≡ true → ⊥)
    → list_any test clubs ≡ true → ⊥
any_member test [] none some = false≢true some
any_member test (club ∷ clubs) none some =
    elim (or_cases (test club) (list_any test clubs) some) as (λ _. ⊥) [
      | inl here ↦ none club (ap (λ b. b || has_club clubs club) (eq-eqb club club refl)) here
      | inr later ↦ any_member test clubs
          (λ other has. none other
          (ap (λ b. (club == other) || b) has ∙ or-true (club == other))) later
    ]

list_all-joined : (test : List ℕ → Bool) (club : ℕ) (groups : List (List ℕ))
    → list_all test (map (λ group. club ∷ group) groups)
    ≡ list_all (λ group. test (club ∷ group)) groups
list_all-joined test club [] = refl
list_all-joined test club (group ∷ groups) =
    ap (λ b. test (club ∷ group) && b) (list_all-joined test club groups)

-- the groups of one club more: with it and without, or with it alone
each_group_of_more : (test : List ℕ → Bool) (club : ℕ) (groups : List (List ℕ)) (kept : List ℕ)
    (is_held on : Bool) → (is_held ≡ true → on ≡ true)
    → (list_all test groups ≡ true → test kept ≡ true)
    → (list_all (λ group. test (club ∷ group)) groups ≡ true → test (club ∷ kept) ≡ true)
    → list_all test (cond is_held (map (λ group. club ∷ group) groups)
    (groups ++ map (λ group. club ∷ group) groups)) ≡ true
    → test (cond on (club ∷ kept) kept) ≡ true
each_group_of_more test club groups kept true true holds stays joins all =
    joins (sym (list_all-joined test club groups) ∙ all)
each_group_of_more test club groups kept true false holds stays joins all =
    absurd (false≢true (holds refl))
each_group_of_more test club groups kept false on holds stays joins all =
    by_test on
    (and_parts (list_all test groups) (list_all test (map (λ group. club ∷ group) groups))
    (sym (list_all-append test groups (map (λ group. club ∷ group) groups)) ∙ all))
  where
    by_test : (b : Bool) → (list_all test groups ≡ true)
        × (list_all test (map (λ group. club ∷ group) groups) ≡ true)
        → test (cond b (club ∷ kept) kept) ≡ true
    by_test true parts = joins (sym (list_all-joined test club groups) ∙ parts.1)
    by_test false parts = stays parts.0

-- the clubs that pass a test are one of the groups, if each club that is in all of them passes
pub each_group : (test : List ℕ → Bool) (is_held on : ℕ → Bool) (clubs : List ℕ)
    → ((club : ℕ) → is_held club ≡ true → on club ≡ true)
    → list_all test (groups_with is_held clubs) ≡ true → test (filter on clubs) ≡ true
each_group test is_held on [] held all = (and_parts (test []) true all).0
each_group test is_held on (club ∷ clubs) held all =
    each_group_of_more test club (groups_with is_held clubs) (filter on clubs) (is_held club)
    (on club) (held club) (each_group test is_held on clubs held)
    (each_group (λ group. test (club ∷ group)) is_held on clubs held) all

-- ---- the record of one club less another's in a group

abbrev pub record_in : List ℕ → ℕ → ℕ → List Fixture → List (Option Score) → List ℤ
record_in group front back matches scores =
    sums_of (margins (worth_among group) record_worths front back) matches scores

abbrev pub record_against : ℕ → ℕ → ℕ → List Fixture → List (Option Score) → List ℤ
record_against rival front back matches scores =
    sums_of (margins (worth_against rival) record_worths front back) matches scores

-- what a club brings to the record if it is in the group
abbrev pub share : (ℕ → Bool) → ℕ → ℕ → List Fixture → List (Option Score) → ℕ → List ℤ
share keep front back matches scores rival =
    cond (keep rival) (record_against rival front back matches scores) even_record

even_adds_nothing : (a b c : ℤ) → added_parts even_record (a ∷ b ∷ c ∷ []) ≡ a ∷ b ∷ c ∷ []
even_adds_nothing a b c = λ i. zero a i ∷ zero b i ∷ zero c i ∷ []
  where
    zero : (n : ℤ) → pos 0 +ℤ n ≡ n
    zero n = omega (arith, ints)

-- the two clubs, and those of the others that are kept
abbrev pub group_of : (ℕ → Bool) → List ℕ → ℕ → ℕ → List ℕ
group_of keep others front back = filter keep others ++ front ∷ back ∷ []

-- leads over clubs that may be in the group or not bound the record in it
pub total_bounds : (first : Lead) (lead : ℕ → Lead) (keep : ℕ → Bool) (others : List ℕ)
    (front back : ℕ) (matches : List Fixture) (scores : List (Option Score))
    → AreOnce others → has_club others front ≡ false → has_club others back ≡ false
    → Bounds first (record_in (front ∷ back ∷ []) front back matches scores)
    → ((rival : ℕ) → has_club others rival ≡ true
    → Bounds (lead rival) (share keep front back matches scores rival))
    → Bounds (total_lead first lead others)
    (record_in (group_of keep others front back) front back matches scores)
total_bounds first lead keep [] front back matches scores once no_front no_back pair each = pair
total_bounds first lead keep (rival ∷ others) front back matches scores once no_front no_back pair
    each =
    subst (Bounds (added_leads (lead rival) (total_lead first lead others)))
    (joined (keep rival))
    (added_bounds (lead rival) (total_lead first lead others)
    (share keep front back matches scores rival)
    (record_in (group_of keep others front back) front back matches scores)
    (each rival (ap (λ b. b || has_club others rival) (eq-eqb rival rival refl)))
    (total_bounds first lead keep others front back matches scores once.1
    (or_second (rival == front) (has_club others front) no_front)
    (or_second (rival == back) (has_club others back) no_back) pair
    (λ other has. each other
    (ap (λ b. (rival == other) || b) has ∙ or-true (rival == other)))))
  where
    or_first : (a b : Bool) → (a || b) ≡ false → a ≡ false
    or_first true b none = absurd (true≢false none)
    or_first false b none = refl

    or_second : (a b : Bool) → (a || b) ≡ false → b ≡ false
    or_second true b none = absurd (true≢false none)
    or_second false b none = none

    has_front : has_club (group_of keep others front back) front ≡ true
    has_front =
        has_club-append (filter keep others) (front ∷ back ∷ []) front
        ∙ ap (λ b. has_club (filter keep others) front || (b || has_club (back ∷ []) front))
        (eq-eqb front front refl)
        ∙ or-true (has_club (filter keep others) front)

    has_back : has_club (group_of keep others front back) back ≡ true
    has_back =
        has_club-append (filter keep others) (front ∷ back ∷ []) back
        ∙ ap (λ b. has_club (filter keep others) back || ((front == back) || (b || false)))
        (eq-eqb back back refl)
        ∙ ap (λ b. has_club (filter keep others) back || b) (or-true (front == back))
        ∙ or-true (has_club (filter keep others) back)

    swapped : (a b : ℕ) → (b == a) ≡ false → (a == b) ≡ false
    swapped a b apart = eqb-swap a b ∙ apart

    has_not : has_club (group_of keep others front back) rival ≡ false
    has_not =
        has_club-append (filter keep others) (front ∷ back ∷ []) rival
        ∙ ap (λ b. b || ((front == rival) || ((back == rival) || false)))
        (has_club-filter keep others rival ∙ ap (λ b. b && keep rival) once.0)
        ∙ ap (λ b. b || ((back == rival) || false))
        (swapped front rival (or_first (rival == front) (has_club others front) no_front))
        ∙ ap (λ b. b || false)
        (swapped back rival (or_first (rival == back) (has_club others back) no_back))

    joined : (b : Bool)
        → added_parts (cond b (record_against rival front back matches scores) even_record)
        (record_in (group_of keep others front back) front back matches scores)
        ≡ record_in (cond b (rival ∷ filter keep others) (filter keep others) ++ front ∷ back ∷ [])
        front back matches scores
    joined true = sym (margins_with_one_more (group_of keep others front back) rival record_worths
        front back matches scores
        has_front has_back has_not)
    joined false = even_adds_nothing _ _ _
