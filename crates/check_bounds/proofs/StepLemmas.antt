-- Tables of answers, club by club: each answer that was level takes the next.
use Rattle.std.proofs.Common.{◌≡◌, ◌≢◌, ◌⊎◌, inl, inr, ℕ, ◌+◌, ◌<◌, ◌≤◌, true, ◌&&◌, List, length}
use Rattle.std.proofs.Common.{get_or, set, filter, refl, sym, ap, ◌∙◌, arith}
use Rattle.std.proofs.lemmas.Bool.{cases_eq, false≢true}
use Rattle.std.proofs.lemmas.List.{get_or-set_same, get_or-set_other, length-set}
use Rattle.league_core.specs.declared.sure.Sure.{Sure}
use Rattle.league_core.specs.declared.sure.Sure.TheVariants.{Above, Below, Level, Unknown}
use Rattle.league_core.specs.game.Sums.{has_club}
use Rattle.league_core.specs.search.SureOrder.{sure_then, is_level}
use Rattle.league_core.proofs.ClubSetLemmas.{has_club-filter}
use Rattle.check_bounds.specs.declared.int_range.IntRange.{IntRange}
use Rattle.check_bounds.specs.inside.Steps.{sure_at, sure_by_tables, is_level_by_tables}

-- the clubs below a number have taken the next answer, and the others have not
pub record IsTakenBelow (old now : List Sure) (count : ℕ) (next : ℕ → Sure) : Type 0 where
  pub long : length now ≡ 32
  pub done : (rival : ℕ) → rival < count → sure_at now rival ≡ sure_then (sure_at old rival)
      (next rival)
  pub left : (rival : ℕ) → count ≤ rival → sure_at now rival ≡ sure_at old rival

-- one club more
pub taken_more : (old now : List Sure) (count : ℕ) (next : ℕ → Sure) (was answer said : Sure)
    → count < 32 → IsTakenBelow old now count next → was ≡ get_or now count Unknown
    → said ≡ next count → answer ≡ sure_then was said
    → IsTakenBelow old (set now count answer) (count + 1) next
taken_more old now count next was answer said inside taken was_is said_is is = record {
  long = length-set now count answer ∙ taken.long;
  done = λ rival below. at rival below (cases_eq rival count);
  left = λ rival above.
      get_or-set_other now count rival answer Unknown (omega (arith, above))
      ∙ taken.left rival (omega (arith, above));
}
  where
    here : count < length now
    here = omega (arith, inside, taken.long)

    own : answer ≡ sure_then (sure_at old count) (next count)
    own =
        is
        ∙ ap (λ s. sure_then s said) (was_is ∙ taken.left count (omega arith))
        ∙ ap (sure_then (sure_at old count)) said_is

    at : (rival : ℕ) → rival < count + 1 → (rival ≡ count) ⊎ (rival ≢ count)
        → sure_at (set now count answer) rival ≡ sure_then (sure_at old rival) (next rival)
    at rival below (inl same) =
        ap (sure_at (set now count answer)) same
        ∙ get_or-set_same now count answer Unknown here
        ∙ own
        ∙ ap (λ n. sure_then (sure_at old n) (next n)) (sym same)
    at rival below (inr other) =
        get_or-set_other now count rival answer Unknown other
        ∙ taken.done rival (omega (arith, below, other))

-- an answer that is not level stays
pub stays : (a next : Sure) → (is_level a ≡ true → ⊥) → a ≡ sure_then a next
stays Above next apart = refl
stays Below next apart = refl
stays Level next apart = absurd (apart refl)
stays Unknown next apart = refl

-- an answer is level after a step if it was so before, and by the step
pub both_level : (a b : Sure) → is_level (sure_then a b) ≡ true
    → (is_level a ≡ true) × (is_level b ≡ true)
both_level Above b level = absurd (false≢true level)
both_level Below b level = absurd (false≢true level)
both_level Level b level = (refl, level)
both_level Unknown b level = absurd (false≢true level)

-- a club that is level after a step is of those that the step leaves level
pub still_level : (tables : List (List IntRange)) (group level : List ℕ) (club rival : ℕ)
    (old new : Sure) → new ≡ sure_then old (sure_by_tables tables club rival)
    → level ≡ filter (is_level_by_tables tables club) group
    → (is_level old ≡ true → has_club group rival ≡ true) → is_level new ≡ true
    → has_club level rival ≡ true
still_level tables group level club rival old new new_is level_is within is =
    let both = both_level old (sure_by_tables tables club rival) (sym (ap is_level new_is) ∙ is) in
    ap (λ xs. has_club xs rival) level_is
    ∙ has_club-filter (is_level_by_tables tables club) group rival
    ∙ ap (λ b. b && is_level_by_tables tables club rival) (within both.0)
    ∙ both.1
