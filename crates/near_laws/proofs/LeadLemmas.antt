-- Leads are bounds: what each fixture's options say at the least, added, is at most what a finish
-- says that takes them, and a lead above zero puts the one club ahead.
use Rattle.std.proofs.Common.{◌≡◌, ℕ, ℤ, pos, ◌+ℤ◌, Bool, true, false, cond, List, [], ◌∷◌, map}
use Rattle.std.proofs.Common.{length, Option, Some, None, Less, is_lt, refl, sym, ap, ◌∙◌, subst}
use Rattle.std.proofs.Common.{inl, inr, arith}
use Rattle.std.specs.Ordering.{is_le}
use Rattle.std.proofs.lemmas.Bool.{false≢true, and_parts, or_cases}
use Rattle.league_core.specs.declared.sheet.Fixture.{Fixture}
use Rattle.league_core.specs.declared.season.Score.{Score}
use Rattle.league_core.specs.game.Finishes.{same_score}
use Rattle.league_core.specs.game.Sums.{sum_over}
use Rattle.league_core.specs.game.HeadToHead.{by_first_difference}
use Rattle.league_core.specs.search.Options.{has_score, takes_option, take_options}
use Rattle.league_core.proofs.OptionLemmas.{same_score-true}
use Rattle.league_core.proofs.plain.Orderings.{less-is_lt}
use Rattle.near_laws.specs.Leads.{Lead, by_lead, is_ahead_by, is_level_or_ahead_by, lesser}
use Rattle.near_laws.specs.Leads.{at_most, added_parts, added_leads, numbers_at, least_of}
use Rattle.near_laws.specs.Leads.{least_lead}
use Rattle.near_laws.proofs.InTurnLemmas.{IsFrom, from_itself, from_trans, from_added}
use Rattle.near_laws.proofs.InTurnLemmas.{lesser_bounds, from_ahead, from_level}

-- the lead is at most these numbers
abbrev pub Bounds : Lead → List ℤ → Type 0
Bounds None numbers = ⊥
Bounds (Some leasts) numbers = IsFrom leasts numbers

pub added_bounds : (lead other : Lead) (numbers others : List ℤ) → Bounds lead numbers
    → Bounds other others → Bounds (added_leads lead other) (added_parts numbers others)
added_bounds None other numbers others bounds more = absurd bounds
added_bounds (Some low) None numbers others bounds more = absurd more
added_bounds (Some low) (Some more) numbers others bounds further =
    from_added low more numbers others bounds further

-- a lead of so many parts
abbrev pub HasSize : ℕ → Lead → Type 0
HasSize size None = Unit {0}
HasSize size (Some numbers) = length numbers ≡ size

at_most_size : (size : ℕ) (numbers : List ℤ) (lead : Lead) → length numbers ≡ size
    → HasSize size lead → length (at_most numbers lead) ≡ size
at_most_size size numbers None same has = same
at_most_size size numbers (Some others) same has =
    chosen (is_lt (by_first_difference numbers others))
  where
    chosen : (b : Bool) → length (cond b others numbers) ≡ size
    chosen true = has
    chosen false = same

least_size : (size : ℕ) (numbers : Score → List ℤ) (options : List Score)
    → ((score : Score) → length (numbers score) ≡ size) → HasSize size (least_of numbers options)
least_size size numbers [] each = tt
least_size size numbers (score ∷ options) each =
    at_most_size size (numbers score) (least_of numbers options) (each score)
    (least_size size numbers options each)

-- the lesser of some numbers and a lead bounds the numbers, and what the lead bounds
pub at_most_first : (size : ℕ) (numbers : List ℤ) (lead : Lead) → length numbers ≡ size
    → HasSize size lead → IsFrom (at_most numbers lead) numbers
at_most_first size numbers None same has = from_itself numbers
at_most_first size numbers (Some others) same has =
    (lesser_bounds numbers others (same ∙ sym has)).0

pub at_most_second : (size : ℕ) (numbers : List ℤ) (lead : Lead) (actual : List ℤ)
    → length numbers ≡ size → HasSize size lead → Bounds lead actual
    → IsFrom (at_most numbers lead) actual
at_most_second size numbers None actual same has bounds = absurd bounds
at_most_second size numbers (Some others) actual same has bounds =
    from_trans (lesser numbers others) others actual
    (lesser_bounds numbers others (same ∙ sym has)).1 bounds

-- the least of some options bounds what each of them says
pub least_bounds : (size : ℕ) (numbers : Score → List ℤ) (options : List Score) (score : Score)
    → ((other : Score) → length (numbers other) ≡ size) → has_score options score ≡ true
    → Bounds (least_of numbers options) (numbers score)
least_bounds size numbers [] score each has = absurd (false≢true has)
least_bounds size numbers (first ∷ options) score each has =
    elim (or_cases (same_score score first) (has_score options score) has) as (λ _.
    IsFrom (at_most (numbers first) (least_of numbers options)) (numbers score)) [
      | inl here ↦
          subst
          (λ (s : Score). IsFrom (at_most (numbers first) (least_of numbers options)) (numbers s))
          (sym (same_score-true score first here))
          (at_most_first size (numbers first) (least_of numbers options) (each first)
          (least_size size numbers options each))
      | inr later ↦
          at_most_second size (numbers first) (least_of numbers options) (numbers score)
          (each first) (least_size size numbers options each)
          (least_bounds size numbers options score each later)
    ]

added_parts-map : {A : Type 0} (f g : A → ℤ) (xs : List A)
    → added_parts (map f xs) (map g xs) ≡ map (λ x. f x +ℤ g x) xs
added_parts-map f g [] = refl
added_parts-map f g (x ∷ xs) = ap (λ more. (f x +ℤ g x) ∷ more) (added_parts-map f g xs)

length-values : (values : List (Fixture → Score → ℤ)) (match : Fixture) (score : Score)
    → length (numbers_at values match score) ≡ length values
length-values [] match score = refl
length-values (value ∷ values) match score =
    omega (arith, length-values values match score)

length-added_parts : (size : ℕ) (numbers others : List ℤ) → length numbers ≡ size
    → length others ≡ size → length (added_parts numbers others) ≡ size
length-added_parts size [] others same other = same
length-added_parts size (n ∷ numbers) [] same other = absurd (omega arith)
length-added_parts size (n ∷ numbers) (o ∷ others) same other =
    omega (arith, length-added_parts (length numbers) numbers others refl (omega arith))

added_size : (size : ℕ) (lead other : Lead) → HasSize size lead → HasSize size other
    → HasSize size (added_leads lead other)
added_size size None other has more = tt
added_size size (Some numbers) None has more = tt
added_size size (Some numbers) (Some others) has more =
    length-added_parts size numbers others has more

length-zeros : {A : Type 0} (values : List A) → length (map (λ value. pos 0) values) ≡ length values
length-zeros [] = refl
length-zeros (value ∷ values) = omega (arith, length-zeros values)

-- a least lead has a part for each value
pub least_lead_size : (values : List (Fixture → Score → ℤ)) (matches : List Fixture)
    (options : List (List Score)) → HasSize (length values) (least_lead values matches options)
least_lead_size values [] options = length-zeros values
least_lead_size values (match ∷ matches) [] = length-zeros values
least_lead_size values (match ∷ matches) (options ∷ more) =
    added_size (length values) (least_of (numbers_at values match) options)
    (least_lead values matches more)
    (least_size (length values) (numbers_at values match) options (length-values values match))
    (least_lead_size values matches more)

-- the sums of each value over some matches
abbrev pub sums_of : List (Fixture → Score → ℤ) → List Fixture → List (Option Score) → List ℤ
sums_of values matches scores = map (λ value. sum_over value matches scores) values

-- the least of each fixture's options, added, bounds the sums of a finish that takes them
pub least_lead_bounds : (values : List (Fixture → Score → ℤ)) (matches : List Fixture)
    (options : List (List Score)) (scores : List (Option Score))
    → take_options options scores ≡ true
    → Bounds (least_lead values matches options) (sums_of values matches scores)
least_lead_bounds values [] options scores takes = from_itself (map (λ value. pos 0) values)
least_lead_bounds values (match ∷ matches) [] [] takes = from_itself (map (λ value. pos 0) values)
least_lead_bounds values (match ∷ matches) [] (ended ∷ scores) takes = absurd (false≢true takes)
least_lead_bounds values (match ∷ matches) (options ∷ more) [] takes = absurd (false≢true takes)
least_lead_bounds values (match ∷ matches) (options ∷ more) (None ∷ scores) takes = absurd
    (false≢true takes)
least_lead_bounds values (match ∷ matches) (options ∷ more) (Some score ∷ scores) takes =
    let parts = and_parts (takes_option options (Some score)) (take_options more scores) takes in
    subst
    (Bounds (added_leads (least_of (numbers_at values match) options)
    (least_lead values matches more)))
    (added_parts-map (λ value. value match score) (λ value. sum_over value matches scores) values)
    (added_bounds (least_of (numbers_at values match) options) (least_lead values matches more)
    (numbers_at values match score) (sums_of values matches scores)
    (least_bounds (length values) (numbers_at values match) options score
    (length-values values match) parts.0)
    (least_lead_bounds values matches more scores parts.1))

-- what a lead above zero says of the numbers that it bounds, and one that is not below
pub ahead_is : (lead : Lead) (numbers : List ℤ) → Bounds lead numbers → is_ahead_by lead ≡ true
    → by_lead numbers ≡ Less
ahead_is None numbers bounds ahead = absurd bounds
ahead_is (Some low) numbers bounds ahead =
    from_ahead low numbers bounds (less-is_lt (by_lead low) ahead)

pub level_is : (lead : Lead) (numbers : List ℤ) → Bounds lead numbers
    → is_level_or_ahead_by lead ≡ true → is_le (by_lead numbers) ≡ true
level_is None numbers bounds level = absurd bounds
level_is (Some low) numbers bounds level = from_level low numbers bounds level
