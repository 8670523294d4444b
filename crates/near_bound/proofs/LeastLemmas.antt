-- The least of some options, in numbers that are compared in turn: one of the options says it, and
-- if one bounds all the others it is that.
use Rattle.std.proofs.Common.{◌≡◌, ℕ, ℤ, Bool, true, false, cond, List, [], ◌∷◌, length, Some, None}
use Rattle.std.proofs.Common.{is_lt, refl, sym, ap, ◌∙◌, subst, inl, inr, arith}
use Rattle.std.proofs.lemmas.Int.{ints}
use Rattle.std.proofs.lemmas.Bool.{false≢true, or_right}
use Rattle.league_core.specs.declared.season.Score.{Score}
use Rattle.league_core.specs.game.Finishes.{same_score}
use Rattle.league_core.specs.game.HeadToHead.{by_first_difference}
use Rattle.league_core.specs.search.Options.{has_score, has_option}
use Rattle.league_core.proofs.OptionLemmas.{has_score-first}
use Rattle.near_laws.specs.Leads.{Lead, least_of, at_most}
use Rattle.near_laws.proofs.InTurnLemmas.{IsFrom}
use Rattle.near_laws.proofs.LeadLemmas.{Bounds, least_bounds}

-- lists of numbers that bound each other are one
pub both_ways : (xs ys : List ℤ) → IsFrom xs ys → IsFrom ys xs → xs ≡ ys
both_ways [] [] up down = refl
both_ways [] (y ∷ ys) up down = absurd up
both_ways (x ∷ xs) [] up down = absurd up
both_ways (x ∷ xs) (y ∷ ys) (inl below) (inl above) = absurd (omega (arith, ints))
both_ways (x ∷ xs) (y ∷ ys) (inl below) (inr level) =
    let same = level.0 in absurd (omega (arith, ints))
both_ways (x ∷ xs) (y ∷ ys) (inr level) (inl above) =
    let same = level.0 in absurd (omega (arith, ints))
both_ways (x ∷ xs) (y ∷ ys) (inr level) (inr other) =
    λ i. level.0 i ∷ both_ways xs ys level.1 other.1 i

-- one of the options says the least
abbrev IsSaid : (Score → List ℤ) → List Score → Lead → Type 0
IsSaid numbers options lead =
    (score : Score) × (has_score options score ≡ true) × (lead ≡ Some (numbers score))

one_more_said : (numbers : Score → List ℤ) (first : Score) (options : List Score) (lead : Lead)
    → IsSaid numbers options lead
    → IsSaid numbers (first ∷ options) (Some (at_most (numbers first) lead))
one_more_said numbers first options lead later =
    chosen (is_lt (by_first_difference (numbers first) (numbers later.0))) refl
  where
    is : Some (at_most (numbers first) lead)
        ≡ Some (cond (is_lt (by_first_difference (numbers first) (numbers later.0)))
        (numbers later.0) (numbers first))
    is = ap (λ (l : Lead). Some (at_most (numbers first) l)) later.2

    chosen : (b : Bool) → is_lt (by_first_difference (numbers first) (numbers later.0)) ≡ b
        → IsSaid numbers (first ∷ options) (Some (at_most (numbers first) lead))
    chosen true says = (
      later.0,
      or_right (same_score later.0 first) (has_score options later.0) later.1,
      is ∙ ap (λ b. Some (cond b (numbers later.0) (numbers first))) says,
    )
    chosen false says = (
      first,
      has_score-first first options,
      is ∙ ap (λ b. Some (cond b (numbers later.0) (numbers first))) says,
    )

least_is_said : (numbers : Score → List ℤ) (options : List Score) → has_option options ≡ true
    → IsSaid numbers options (least_of numbers options)
least_is_said numbers [] some = absurd (false≢true some)
least_is_said numbers (first ∷ []) some = (first, has_score-first first [], refl)
least_is_said numbers (first ∷ next ∷ options) some =
    one_more_said numbers first (next ∷ options) (least_of numbers (next ∷ options))
    (least_is_said numbers (next ∷ options) refl)

pub some_option : (options : List Score) (score : Score) → has_score options score ≡ true
    → has_option options ≡ true
some_option [] score has = absurd (false≢true has)
some_option (option ∷ options) score has = refl

-- an option that bounds all of them is the least
pub least_of-is : (size : ℕ) (numbers : Score → List ℤ) (options : List Score) (worst : Score)
    → ((other : Score) → length (numbers other) ≡ size) → has_score options worst ≡ true
    → ((score : Score) → has_score options score ≡ true → IsFrom (numbers worst) (numbers score))
    → Some (numbers worst) ≡ least_of numbers options
least_of-is size numbers options worst each has from =
    let said = least_is_said numbers options (some_option options worst has) in
    let below = subst (λ (lead : Lead). Bounds lead (numbers worst)) said.2
    (least_bounds size numbers options worst each has) in
    ap (λ (xs : List ℤ). Some xs)
    (both_ways (numbers worst) (numbers said.0) (from said.0 said.1) below)
    ∙ sym said.2

-- there is none of no option
pub least_of-none : (numbers : Score → List ℤ) (options : List Score)
    → ((score : Score) → has_score options score ≡ false) → None ≡ least_of numbers options
least_of-none numbers [] none = refl
least_of-none numbers (first ∷ options) none = absurd
    (false≢true (sym (none first) ∙ has_score-first first options))
