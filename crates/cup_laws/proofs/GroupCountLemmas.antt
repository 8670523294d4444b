-- How many elements of a list pass a test: as many at least as there are places in a rising list at
-- which one passes.
use Rattle.std.proofs.Common.{◌≡◌, ◌<◌, ◌≤◌, ℕ, zero, suc, ◌+◌, Bool, true, false, not, ◌&&◌, cond}
use Rattle.std.proofs.Common.{List, [], ◌∷◌, length, drop, filter, count_by, Some, None, refl}
use Rattle.std.proofs.Common.{ap, ◌∙◌, arith, map, slice_index_or, subst}
use Rattle.std.specs.Prelude.{slice_get, All, unwrap_or}
use Rattle.std.proofs.lemmas.List.{length-map}
use Rattle.std.proofs.lemmas.List.Elements.{All-cons, All-nil}
use Rattle.std.proofs.lemmas.List.Sums.{count_by-le-length}
use Rattle.league_core.proofs.plain.Counts.{count_by-cons, count_by-parts, count_by-filter}
use Rattle.cup_sheet.specs.CupAnswers.{AreRising}

-- what is dropped before an element
drop_there : {X : Type 0} (xs : List X) (k : ℕ) (x : X) → slice_get xs k ≡ Some x
    → drop k xs ≡ x ∷ drop (suc k) xs
drop_there [] k x there = absurd (let c : None ≡ Some x = there in cc)
drop_there (first ∷ xs) zero x there =
    ap (λ it. it ∷ xs) (ap (λ found. unwrap_or found first) there)
drop_there (first ∷ xs) (suc k) x there = drop_there xs k x there

-- dropping more leaves no more that pass
drop_counts : {X : Type 0} (p : X → Bool) (xs : List X) (few many : ℕ) → few ≤ many
    → count_by p (drop many xs) ≤ count_by p (drop few xs)
drop_counts p [] zero zero less = omega arith
drop_counts p [] zero (suc many) less = omega arith
drop_counts p [] (suc few) zero less = omega arith
drop_counts p [] (suc few) (suc many) less = omega arith
drop_counts p (x ∷ xs) zero zero less = omega arith
drop_counts p (x ∷ xs) (suc few) zero less = absurd (omega (arith, less))
drop_counts p (x ∷ xs) zero (suc many) less =
    let rest = drop_counts p xs 0 many (omega arith) in
    omega (arith, rest, count_by-cons p x xs)
drop_counts p (x ∷ xs) (suc few) (suc many) less =
    drop_counts p xs few many (omega (arith, less))

-- there is an element that passes at the place
abbrev pub PassesAt : {X : Type 0} → (X → Bool) → List X → ℕ → Type 0
PassesAt {X} p xs place = (x : X) × (slice_get xs place ≡ Some x) × (p x ≡ true)

rising_from_counts : {X : Type 0} (p : X → Bool) (xs : List X) (least : ℕ) (places : List ℕ)
    → AreRising least places → All (PassesAt p xs) places
    → length places ≤ count_by p (drop least xs)
rising_from_counts p xs least [] rising all = omega arith
rising_from_counts p xs least (place ∷ places) rising all =
    let here = all 0 place (omega arith) in
    let rest = rising_from_counts p xs (place + 1) places rising.1
    (λ k d below. all (suc k) d (omega (arith, below))) in
    let next : place + 1 ≡ suc place = omega arith in
    let from_here : count_by p (drop place xs) ≡ suc (count_by p (drop (suc place) xs)) =
    ap (count_by p) (drop_there xs place here.0 here.1)
    ∙ count_by-cons p here.0 (drop (suc place) xs)
    ∙ one (p here.0) (count_by p (drop (suc place) xs)) here.2 in
    omega (
      arith,
      rest,
      from_here,
      drop_counts p xs least place rising.0,
      ap (λ n. count_by p (drop n xs)) next,
    )
  where
    one : (b : Bool) (n : ℕ) → b ≡ true → cond {A = ℕ} b 1 0 + n ≡ suc n
    one b n passes = ap (λ it. cond {A = ℕ} it 1 0 + n) passes ∙ omega arith

-- as many pass as there are such places
pub rising_counts : {X : Type 0} (p : X → Bool) (xs : List X) (places : List ℕ)
    → AreRising 0 places → All (PassesAt p xs) places → length places ≤ count_by p xs
rising_counts p xs places rising all = rising_from_counts p xs 0 places rising all

-- an element that passes counts
pub passes_counts : {X : Type 0} (p : X → Bool) (xs : List X) (k : ℕ) (x : X)
    → slice_get xs k ≡ Some x → p x ≡ true → 1 ≤ count_by p xs
passes_counts {X} p xs k x there passes =
    rising_counts p xs (k ∷ []) (omega arith, tt) (λ i d below. one i d below)
  where
    one : (i d : ℕ) → i < 1 → PassesAt p xs (slice_index_or (k ∷ []) i d)
    one zero d below = (x, there, passes)
    one (suc i) d below = absurd (omega (arith, below))

-- those that one test leaves and that pass another, those that do not pass it, and those that the
-- first takes away are not more than all
pub parts_counted : {X : Type 0} (taken p : X → Bool) (xs : List X)
    → count_by p (filter (λ x. not (taken x)) xs)
    + count_by (λ x. not (taken x) && not (p x)) xs + count_by taken xs ≤ length xs
parts_counted {X} taken p xs =
    let kept : X → Bool = λ x. not (taken x) in
    omega (
      arith,
      count_by-filter kept p xs,
      count_by-parts kept (λ x. not (taken x) && p x) (λ x. not (taken x) && not (p x)) p
          (λ x. refl) (λ x. refl) xs,
      count_by-parts (λ x. true) taken kept taken (λ x. refl) (λ x. refl) xs,
      count_by-le-length (λ x. true) xs,
    )

-- what rises from a number on rises from each lesser one
rising_weaker : (few many : ℕ) (places : List ℕ) → few ≤ many → AreRising many places
    → AreRising few places
rising_weaker few many [] less rising = tt
rising_weaker few many (place ∷ places) less rising =
    (omega (arith, less, rising.0), rising.1)

-- each place one further
rising_further : (least : ℕ) (places : List ℕ) → AreRising least places
    → AreRising (suc least) (map (λ place. suc place) places)
rising_further least [] rising = tt
rising_further least (place ∷ places) rising =
    let next : suc (place + 1) ≡ suc place + 1 = omega arith in (
      omega (arith, rising.0),
      subst (λ (n : ℕ). AreRising n (map (λ it. suc it) places)) next
          (rising_further (place + 1) places rising.1),
    )

passes_further : {X : Type 0} (p : X → Bool) (x : X) (xs : List X) (places : List ℕ)
    → All (PassesAt p xs) places
    → All (PassesAt p (x ∷ xs)) (map (λ place. suc place) places)
passes_further p x xs [] all = All-nil (PassesAt p (x ∷ xs))
passes_further p x xs (place ∷ places) all =
    All-cons (PassesAt p (x ∷ xs)) (suc place) (map (λ it. suc it) places)
    (all 0 place (omega arith))
    (passes_further p x xs places (λ k d below. all (suc k) d (omega (arith, below))))

-- so many places at which an element passes
abbrev pub HasPlaces : {X : Type 0} → (X → Bool) → List X → ℕ → Type 0
HasPlaces p xs many =
    (places : List ℕ) × (length places ≡ many) × AreRising 0 places × All (PassesAt p xs) places

-- the places of so many that pass
pub places_counted : {X : Type 0} (p : X → Bool) (xs : List X) (many : ℕ) → many ≤ count_by p xs
    → HasPlaces p xs many
places_counted p xs zero few = ([], refl, tt, All-nil (PassesAt p xs))
places_counted p [] (suc many) few = absurd (omega (arith, few))
places_counted {X} p (x ∷ xs) (suc many) few =
    elim (p x) as (λ b. p x ≡ b → suc many ≤ cond {A = ℕ} b 1 0 + count_by p xs
    → HasPlaces p (x ∷ xs) (suc many)) [
      | true ↦ λ passes enough. let later = places_counted p xs many (omega (arith, enough)) in (
        0 ∷ map (λ place. suc place) later.0,
        omega (arith, later.1, length-map later.0 (λ (place : ℕ). suc place)),
        (omega arith, rising_further 0 later.0 later.2),
        All-cons (PassesAt p (x ∷ xs)) 0 (map (λ place. suc place) later.0) (x, refl, passes)
            (passes_further p x xs later.0 later.3),
      )
      | false ↦ λ fails enough.
          let later = places_counted p xs (suc many) (omega (arith, enough)) in (
            map (λ place. suc place) later.0,
            omega (arith, later.1, length-map later.0 (λ (place : ℕ). suc place)),
            rising_weaker 0 1 (map (λ place. suc place) later.0) (omega arith)
                (rising_further 0 later.0 later.2),
            passes_further p x xs later.0 later.3,
          )
    ] refl (omega (arith, few, count_by-cons p x xs))

-- those that one test leaves, and that do not pass another, are as many at least as all but those
-- that pass and those that are taken
pub left_counted : {X : Type 0} (taken p : X → Bool) (xs : List X)
    → length xs ≤ count_by p (filter (λ x. not (taken x)) xs)
    + count_by (λ x. not (taken x) && not (p x)) xs + count_by taken xs
left_counted {X} taken p xs =
    let kept : X → Bool = λ x. not (taken x) in
    omega (
      arith,
      count_by-filter kept p xs,
      count_by-parts kept (λ x. not (taken x) && p x) (λ x. not (taken x) && not (p x)) p
          (λ x. refl) (λ x. refl) xs,
      count_by-parts (λ x. true) taken kept taken (λ x. refl) (λ x. refl) xs,
      all_count xs,
    )
  where
    all_count : (xs : List X) → count_by (λ (x : X). true) xs ≡ length xs
    all_count [] = refl
    all_count (x ∷ xs) = omega (arith, count_by-cons (λ (x : X). true) x xs, all_count xs)
