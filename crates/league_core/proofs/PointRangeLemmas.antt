-- Ranges of sums: their ends are bounds that options reach, the points of a set of clubs come from
-- the two sides of each match, and what is taken off a set is taken off its clubs.
use Rattle.std.proofs.Common.{◌≡◌, ℕ, zero, suc, ◌+◌, ◌<◌, ◌≤◌, ◌≢◌, ◌⊎◌, ℤ, pos, ◌+ℤ◌, ◌≤ℤ◌, Bool}
use Rattle.std.proofs.Common.{true, false, ◌&&◌, eqb, ltb, cond, List, [], ◌∷◌, ◌++◌, length}
use Rattle.std.proofs.Common.{get_or, drop, refl, sym, ap, ◌∙◌, inl, inr, arith, add-one}
use Rattle.std.specs.Int.{int_min, int_max, bit_at}
use Rattle.std.proofs.lemmas.Int.{ints, clamps}
use Rattle.std.proofs.lemmas.Bool.{false≢true, or_cases, cases_eq, eq-eqb, ne_eqb, lt-ltb, le-ltb}
use Rattle.std.proofs.lemmas.Bool.{or_right}
use Rattle.std.proofs.lemmas.Bool.Decides.{nat_tests}
use Rattle.std.proofs.lemmas.List.{drop_more, drop_all}
use Rattle.league_core.specs.declared.sheet.Fixture.{Fixture}
use Rattle.league_core.specs.declared.season.Score.{Score}
use Rattle.league_core.specs.game.Sums.{has_club, match_points, worth_to}
use Rattle.league_core.specs.game.ClubSets.{clubs_below}
use Rattle.league_core.specs.search.Options.{has_score, has_option}
use Rattle.league_core.specs.search.PointRanges.{one_value, added, range_of, range_from, total_of}
use Rattle.league_core.specs.search.PointRanges.{points_together, points_of_sides}
use Rattle.league_core.proofs.OptionLemmas.{same_score-true, has_score-first}
use Rattle.league_core.proofs.OptionTestLemmas.{has_option-some}
use Rattle.league_core.proofs.ClubSetLemmas.{has_club-clubs_below, clubs_below-suc}
use Rattle.league_core.proofs.plain.TruthValues.{cond_same}
use Rattle.league_core.proofs.plain.Numbers.{int_max-is_one, int_min-is_one}

-- each option's value lies between the ends
pub range_bounds : (value : Score → ℤ) (options : List Score) (score : Score)
    → has_score options score ≡ true → ((range_of value options).least ≤ℤ value score)
    × (value score ≤ℤ (range_of value options).greatest)
range_bounds value [] score is = absurd (false≢true is)
range_bounds value (first ∷ []) score is =
    elim (or_cases _ false is) as (λ _. (value first ≤ℤ value score)
    × (value score ≤ℤ value first)) [
      | inl same ↦
          let e = ap value (same_score-true score first same) in (
            omega (arith, ints),
            omega
                (arith, ints),
          )
      | inr none ↦ absurd (false≢true none)
    ]
range_bounds value (first ∷ other ∷ options) score is =
    let least = (range_of value (other ∷ options)).least in
    let greatest = (range_of value (other ∷ options)).greatest in
    elim (or_cases _ (has_score (other ∷ options) score) is) as (λ _.
    (int_min (value first) least ≤ℤ value score)
    × (value score ≤ℤ int_max (value first) greatest)) [
      | inl same ↦
          let e = ap value (same_score-true score first same) in (
            omega (arith, ints, clamps),
            omega
                (arith, ints, clamps),
          )
      | inr later ↦
          let bounds = range_bounds value (other ∷ options) score later in (
            omega
                (arith, ints, clamps),
            omega (arith, ints, clamps),
          )
    ]

-- an option with this value
abbrev pub Reaches : (Score → ℤ) → List Score → ℤ → Type 0
Reaches value options number = (score : Score) × (has_score options score ≡ true)
    × (value score ≡ number)

reaches_later : (value : Score → ℤ) (first : Score) (options : List Score) (number other : ℤ)
    → other ≡ number → Reaches value options number → Reaches value (first ∷ options) other
reaches_later value first options number other same there =
    (there.0, or_right _ (has_score options there.0) there.1, there.2 ∙ sym same)

reaches_first : (value : Score → ℤ) (first : Score) (options : List Score) (other : ℤ)
    → other ≡ value first → Reaches value (first ∷ options) other
reaches_first value first options other same = (first, has_score-first first options, sym same)

-- if there is an option, one reaches the least value, and one the greatest
pub least_reached : (value : Score → ℤ) (options : List Score) → has_option options ≡ true
    → Reaches value options (range_of value options).least
least_reached value [] some = absurd (false≢true some)
least_reached value (first ∷ []) some = reaches_first value first [] (value first) refl
least_reached value (first ∷ other ∷ options) some =
    let least = (range_of value (other ∷ options)).least in
    elim (int_min-is_one (value first) least) as (λ _. Reaches value (first ∷ other ∷ options)
    (int_min (value first) least)) [
      | inl here ↦ reaches_first value first (other ∷ options) (int_min (value first) least) here
      | inr later ↦ reaches_later value first (other ∷ options) least
          (int_min (value first) least) later (least_reached value (other ∷ options) refl)
    ]

pub greatest_reached : (value : Score → ℤ) (options : List Score) → has_option options ≡ true
    → Reaches value options (range_of value options).greatest
greatest_reached value [] some = absurd (false≢true some)
greatest_reached value (first ∷ []) some = reaches_first value first [] (value first) refl
greatest_reached value (first ∷ other ∷ options) some =
    let greatest = (range_of value (other ∷ options)).greatest in
    elim (int_max-is_one (value first) greatest) as (λ _. Reaches value (first ∷ other ∷ options)
    (int_max (value first) greatest)) [
      | inl here ↦ reaches_first value first (other ∷ options) (int_max (value first) greatest) here
      | inr later ↦ reaches_later value first (other ∷ options) greatest
          (int_max (value first) greatest) later (greatest_reached value (other ∷ options) refl)
    ]

-- a bound that an option reaches is the least value, or the greatest
pub least-is : (value : Score → ℤ) (options : List Score) (low : ℤ)
    → ((score : Score) → has_score options score ≡ true → low ≤ℤ value score)
    → Reaches value options low → low ≡ (range_of value options).least
least-is value options low below there =
    let least = least_reached value options (has_option-some options there.0 there.1) in
    let up = below least.0 least.1 in
    let down = (range_bounds value options there.0 there.1).0 in
    omega (arith, ints, least.2, there.2)

pub greatest-is : (value : Score → ℤ) (options : List Score) (high : ℤ)
    → ((score : Score) → has_score options score ≡ true → value score ≤ℤ high)
    → Reaches value options high → high ≡ (range_of value options).greatest
greatest-is value options high above there =
    let greatest = greatest_reached value options (has_option-some options there.0 there.1) in
    let down = above greatest.0 greatest.1 in
    let up = (range_bounds value options there.0 there.1).1 in
    omega (arith, ints, greatest.2, there.2)

-- one fixture more, and no fixture
pub range_from-more : (value : Fixture → Score → ℤ) (matches : List Fixture)
    (options : List (List Score)) (i : ℕ) (d : Fixture) → i < length matches → i < length options
    → range_from value (drop i matches) (drop i options) ≡ added
    (range_of (value (get_or matches i d)) (get_or options i []))
    (range_from value (drop (i + 1) matches) (drop (i + 1) options))
range_from-more value matches options i d match_in options_in =
    ap (λ ms. range_from value ms (drop i options)) (drop_more matches i d match_in)
    ∙ ap (range_from value (get_or matches i d ∷ drop (i + 1) matches))
    (drop_more options i [] options_in)

pub range_from-all : (value : Fixture → Score → ℤ) (matches : List Fixture)
    (options : List (List Score)) (i : ℕ) → length matches ≤ i
    → range_from value (drop i matches) (drop i options) ≡ one_value (pos 0)
range_from-all value matches options i all =
    ap (λ ms. range_from value ms (drop i options)) (drop_all i matches all)

-- ranges of values that agree are one
pub range_of-same : (value other : Score → ℤ) (options : List Score)
    → ((score : Score) → value score ≡ other score)
    → range_of value options ≡ range_of other options
range_of-same value other options same = ap (λ f. range_of f options) (λ i score. same score i)

pub total_of-append : (value : ℕ → ℤ) (clubs others : List ℕ)
    → total_of value (clubs ++ others) ≡ total_of value clubs +ℤ total_of value others
total_of-append value [] others = omega (arith, ints)
total_of-append value (club ∷ clubs) others = omega
    (arith, ints, total_of-append value clubs others)

total_of-cond : (value : ℕ → ℤ) (b : Bool) (club : ℕ)
    → total_of value (cond b (club ∷ []) []) ≡ cond b (value club) (pos 0)
total_of-cond value true club = omega (arith, ints)
total_of-cond value false club = refl

-- the next club adds its value if the set has it
pub total_of-suc : (value : ℕ → ℤ) (count bits : ℕ)
    → total_of value (clubs_below (count + 1) bits) ≡ total_of value
    (clubs_below count bits) +ℤ cond (eqb (bit_at bits count) 1) (value count) (pos 0)
total_of-suc value count bits =
    ap (total_of value) (clubs_below-suc count bits)
    ∙ total_of-append value (clubs_below count bits)
    (cond (eqb (bit_at bits count) 1) (count ∷ []) [])
    ∙ ap (λ n. total_of value (clubs_below count bits) +ℤ n)
    (total_of-cond value (eqb (bit_at bits count) 1) count)

-- the same, for a club of the whole set
pub total_of-next : (value : ℕ → ℤ) (count bits : ℕ) → count < 32
    → total_of value (clubs_below (count + 1) bits) ≡ total_of value
    (clubs_below count bits) +ℤ cond (has_club (clubs_below 32 bits) count) (value count) (pos 0)
total_of-next value count bits within =
    let here : has_club (clubs_below 32 bits) count ≡ eqb (bit_at bits count) 1 =
    has_club-clubs_below 32 bits count
    ∙ ap (λ b. b && eqb (bit_at bits count) 1) (lt-ltb count 32 within) in
    total_of-suc value count bits
    ∙ ap (λ b. total_of value (clubs_below count bits) +ℤ cond b (value count) (pos 0)) (sym here)

-- clubs that are worth nothing add nothing
pub total_of-past : (value : ℕ → ℤ) (count more bits : ℕ)
    → ((club : ℕ) → count ≤ club → value club ≡ pos 0)
    → total_of value (clubs_below (count + more) bits) ≡ total_of value (clubs_below count bits)
total_of-past value count zero bits nothing = ap (λ n. total_of value (clubs_below n bits))
    (omega arith)
total_of-past value count (suc more) bits nothing =
    let next : count + suc more ≡ count + more + 1 = omega arith in
    ap (λ n. total_of value (clubs_below n bits)) next
    ∙ total_of-suc value (count + more) bits
    ∙ ap (λ n. total_of value (clubs_below (count + more) bits) +ℤ cond
    (eqb (bit_at bits (count + more)) 1) n (pos 0)) (nothing (count + more) (omega arith))
    ∙ ap (λ n. total_of value (clubs_below (count + more) bits) +ℤ n)
    (cond_same (eqb (bit_at bits (count + more)) 1) (pos 0))
    ∙ omega (arith, ints, total_of-past value count more bits nothing)

pub total_of-same : (value other : ℕ → ℤ) (clubs : List ℕ) → ((club : ℕ) → value club ≡ other club)
    → total_of value clubs ≡ total_of other clubs
total_of-same value other clubs same = ap (λ f. total_of f clubs) (λ i club. same club i)

pub total_of-sum : (value other : ℕ → ℤ) (clubs : List ℕ)
    → total_of (λ club. value club +ℤ other club) clubs
    ≡ total_of value clubs +ℤ total_of other clubs
total_of-sum value other [] = refl
total_of-sum value other (club ∷ clubs) = omega (arith, ints, total_of-sum value other clubs)

-- what one club is worth, a set has if it has the club
pub total_of-one : (x : ℕ) (number : ℤ) (count bits : ℕ)
    → total_of (λ club. cond (eqb x club) number (pos 0)) (clubs_below count bits) ≡ cond
    (ltb x count && eqb (bit_at bits x) 1) number (pos 0)
unfolding clubs_below
total_of-one x number zero bits =
    sym (ap (λ b. cond (b && eqb (bit_at bits x) 1) number (pos 0)) (le-ltb x 0 (omega arith)))
total_of-one x number (suc count) bits =
    ap (λ n. total_of (λ club. cond (eqb x club) number (pos 0)) (clubs_below n bits))
    (sym (add-one count))
    ∙ total_of-suc (λ club. cond (eqb x club) number (pos 0)) count bits
    ∙ ap (λ n. n +ℤ cond (eqb (bit_at bits count) 1) (cond (eqb x count) number (pos 0)) (pos 0))
    (total_of-one x number count bits)
    ∙ step (cases_eq x count)
  where
    step : (x ≡ count) ⊎ (x ≢ count)
        → cond (ltb x count && eqb (bit_at bits x) 1) number (pos 0) +ℤ cond
        (eqb (bit_at bits count) 1) (cond (eqb x count) number (pos 0)) (pos 0) ≡ cond
        (ltb x (suc count) && eqb (bit_at bits x) 1) number (pos 0)
    step (inl same) =
        rw (le-ltb x count (omega arith), eq-eqb x count same, lt-ltb x (suc count) (omega arith))
        (here (ap (λ n. eqb (bit_at bits n) 1) same))
      where
        here : eqb (bit_at bits x) 1 ≡ eqb (bit_at bits count) 1
            → pos 0 +ℤ cond (eqb (bit_at bits count) 1) number (pos 0) ≡ cond
            (eqb (bit_at bits x) 1) number (pos 0)
        here e = ap (λ b. pos 0 +ℤ cond b number (pos 0)) (sym e) ∙ omega (arith, ints)
    step (inr other) =
        rw (ne_eqb x count other, same_below)
        (ap (λ n. cond (ltb x (suc count) && eqb (bit_at bits x) 1) number (pos 0) +ℤ n)
        (cond_same (eqb (bit_at bits count) 1) (pos 0)) ∙ omega (arith, ints))
      where
        same_below : ltb x count ≡ ltb x (suc count)
        same_below = grind (arith, nat_tests)

-- a match of two clubs is worth to a club what it is worth to its side
worth_to-sides : (match : Fixture) (score : Score) (club : ℕ) → match.home ≢ match.away
    → worth_to match_points club match score ≡
    (cond (eqb match.home club) (match_points score.home score.away false) (pos 0) +ℤ cond
    (eqb match.away club) (match_points score.away score.home true) (pos 0))
worth_to-sides match score club apart = by_side (cases_eq match.home club)
  where
    by_side : (match.home ≡ club) ⊎ (match.home ≢ club)
        → cond (eqb match.home club) (match_points score.home score.away false)
        (cond (eqb match.away club) (match_points score.away score.home true) (pos 0)) ≡
        (cond (eqb match.home club) (match_points score.home score.away false) (pos 0) +ℤ cond
        (eqb match.away club) (match_points score.away score.home true) (pos 0))
    by_side (inl home) =
        let not_away : match.away ≢ club = λ away. apart (home ∙ sym away) in
        rw (eq-eqb match.home club home, ne_eqb match.away club not_away) (omega (arith, ints))
    by_side (inr other) = rw (ne_eqb match.home club other) (omega (arith, ints))

-- the points of a set in a match are those of the sides that it has
pub points_together-sides : (bits : ℕ) (match : Fixture) (score : Score) → match.home ≢ match.away
    → points_together (clubs_below 32 bits) match score ≡ points_of_sides
    (has_club (clubs_below 32 bits) match.home) (has_club (clubs_below 32 bits) match.away) score
points_together-sides bits match score apart =
    let home : ℤ = match_points score.home score.away false in
    let away : ℤ = match_points score.away score.home true in
    total_of-same (λ club. worth_to match_points club match score)
    (λ club. cond (eqb match.home club) home (pos 0) +ℤ cond (eqb match.away club) away (pos 0))
    (clubs_below 32 bits) (λ club. worth_to-sides match score club apart)
    ∙ total_of-sum (λ club. cond (eqb match.home club) home (pos 0))
    (λ club. cond (eqb match.away club) away (pos 0)) (clubs_below 32 bits)
    ∙ ap (λ n. n +ℤ total_of (λ club. cond (eqb match.away club) away (pos 0))
    (clubs_below 32 bits)) (side match.home home)
    ∙ ap (λ n. cond (has_club (clubs_below 32 bits) match.home) home (pos 0) +ℤ n)
    (side match.away away)
  where
    side : (x : ℕ) (number : ℤ)
        → total_of (λ club. cond (eqb x club) number (pos 0)) (clubs_below 32 bits) ≡ cond
        (has_club (clubs_below 32 bits) x) number (pos 0)
    side x number =
        total_of-one x number 32 bits
        ∙ ap (λ b. cond b number (pos 0)) (sym (has_club-clubs_below 32 bits x))
