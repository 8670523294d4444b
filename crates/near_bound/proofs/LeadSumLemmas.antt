-- Leads that are added up: in any order, and a lead that bounds another one from below.
use Rattle.std.proofs.Common.{◌≡◌, ℕ, ℤ, pos, ◌+ℤ◌, Bool, true, false, cond, List, [], ◌∷◌, ◌++◌}
use Rattle.std.proofs.Common.{length, Some, None, refl, sym, ap, ◌∙◌, subst, arith, is_lt}
use Rattle.std.proofs.lemmas.Int.{ints}
use Rattle.league_core.specs.game.HeadToHead.{by_first_difference}
use Rattle.league_core.proofs.plain.Orderings.{less-is_lt}
use Rattle.near_laws.specs.Leads.{Lead, by_lead, is_ahead_by, is_level_or_ahead_by}
use Rattle.near_laws.specs.Leads.{at_most, added_parts, added_leads, total_lead}
use Rattle.near_laws.specs.SureLeads.{even_record}
use Rattle.near_laws.proofs.InTurnLemmas.{IsFrom, from_itself, from_added, from_ahead, from_level}
use Rattle.near_laws.proofs.InTurnLemmas.{lesser_bounds}
use Rattle.near_laws.proofs.LeadLemmas.{HasSize, at_most_first}

parts_turned : (xs ys : List ℤ) → added_parts xs ys ≡ added_parts ys xs
parts_turned [] [] = refl
parts_turned [] (y ∷ ys) = refl
parts_turned (x ∷ xs) [] = refl
parts_turned (x ∷ xs) (y ∷ ys) =
    let here : x +ℤ y ≡ y +ℤ x = omega (arith, ints) in
    (λ i. here i ∷ parts_turned xs ys i)

pub leads_turned : (lead other : Lead) → added_leads lead other ≡ added_leads other lead
leads_turned None None = refl
leads_turned None (Some ys) = refl
leads_turned (Some xs) None = refl
leads_turned (Some xs) (Some ys) = ap Some (parts_turned xs ys)

parts_grouped : (xs ys zs : List ℤ)
    → added_parts (added_parts xs ys) zs ≡ added_parts xs (added_parts ys zs)
parts_grouped [] ys zs = refl
parts_grouped (x ∷ xs) [] zs = refl
parts_grouped (x ∷ xs) (y ∷ ys) [] = refl
parts_grouped (x ∷ xs) (y ∷ ys) (z ∷ zs) =
    let here : (x +ℤ y) +ℤ z ≡ x +ℤ (y +ℤ z) = omega (arith, ints) in
    (λ i. here i ∷ parts_grouped xs ys zs i)

leads_grouped : (lead other more : Lead)
    → added_leads (added_leads lead other) more ≡ added_leads lead (added_leads other more)
leads_grouped None other more = refl
leads_grouped (Some xs) None more = refl
leads_grouped (Some xs) (Some ys) None = refl
leads_grouped (Some xs) (Some ys) (Some zs) = ap Some (parts_grouped xs ys zs)

-- two leads on top of a third one, in either order
leads_swapped : (lead other more : Lead)
    → added_leads lead (added_leads other more) ≡ added_leads other (added_leads lead more)
leads_swapped lead other more =
    sym (leads_grouped lead other more)
    ∙ ap (λ (l : Lead). added_leads l more) (leads_turned lead other)
    ∙ leads_grouped other lead more

-- a lead that is added first may be added last
pub total_from_more : (first more : Lead) (lead : ℕ → Lead) (clubs : List ℕ)
    → total_lead (added_leads more first) lead clubs
    ≡ added_leads more (total_lead first lead clubs)
total_from_more first more lead [] = refl
total_from_more first more lead (club ∷ clubs) =
    ap (added_leads (lead club)) (total_from_more first more lead clubs)
    ∙ leads_swapped (lead club) more (total_lead first lead clubs)

-- and so may the leads of some clubs
total_turned : (first : Lead) (lead other : ℕ → Lead) (clubs more : List ℕ)
    → total_lead (total_lead first lead clubs) other more
    ≡ total_lead (total_lead first other more) lead clubs
total_turned first lead other [] more = refl
total_turned first lead other (club ∷ clubs) more =
    total_from_more (total_lead first lead clubs) (lead club) other more
    ∙ ap (added_leads (lead club)) (total_turned first lead other clubs more)

-- over two lists of clubs, one after the other
pub total_of_both : (first : Lead) (lead : ℕ → Lead) (clubs more : List ℕ)
    → total_lead first lead (clubs ++ more)
    ≡ total_lead (total_lead first lead clubs) lead more
total_of_both first lead clubs more =
    after clubs ∙ total_turned first lead lead more clubs
  where
    after : (xs : List ℕ)
        → total_lead first lead (xs ++ more) ≡ total_lead (total_lead first lead more) lead xs
    after [] = refl
    after (club ∷ xs) = ap (added_leads (lead club)) (after xs)

-- the one lead is at most the other; the infinite lead is above all
abbrev pub IsLow : Lead → Lead → Type 0
IsLow low None = Unit {0}
IsLow None (Some numbers) = ⊥
IsLow (Some low) (Some numbers) = IsFrom low numbers

pub low_itself : (lead : Lead) → IsLow lead lead
low_itself None = tt
low_itself (Some numbers) = from_itself numbers

pub low_added : (low lead more other : Lead) → IsLow low lead → IsLow more other
    → IsLow (added_leads low more) (added_leads lead other)
low_added low None more other is further = tt
low_added None (Some numbers) more other is further = absurd is
low_added (Some low) (Some numbers) more None is further = tt
low_added (Some low) (Some numbers) None (Some others) is further = absurd further
low_added (Some low) (Some numbers) (Some more) (Some others) is further =
    from_added low more numbers others is further

-- nothing more
even_added : (lead : Lead) → HasSize 3 lead → added_leads (Some even_record) lead ≡ lead
even_added None has = refl
even_added (Some []) has = absurd (omega (arith, has))
even_added (Some (a ∷ [])) has = absurd (omega (arith, has))
even_added (Some (a ∷ b ∷ [])) has = absurd (omega (arith, has))
even_added (Some (a ∷ b ∷ c ∷ [])) has =
    let same : (x : ℤ) → pos 0 +ℤ x ≡ x = λ x. omega (arith, ints) in
    (λ i. Some (same a i ∷ same b i ∷ same c i ∷ []))
even_added (Some (a ∷ b ∷ c ∷ d ∷ rest)) has = absurd (omega (arith, has))

-- what is at most nothing does not matter below
pub low_with_even : (low more lead : Lead) → HasSize 3 lead → IsLow more (Some even_record)
    → IsLow low lead → IsLow (added_leads more low) lead
low_with_even low more lead size less is =
    subst (IsLow (added_leads more low)) (even_added lead size)
    (low_added more (Some even_record) low lead less is)

length-added : (size : ℕ) (xs ys : List ℤ) → length xs ≡ size → length ys ≡ size
    → length (added_parts xs ys) ≡ size
length-added size [] ys same other = same
length-added size (x ∷ xs) [] same other = absurd (omega arith)
length-added size (x ∷ xs) (y ∷ ys) same other =
    omega (arith, length-added (length xs) xs ys refl (omega arith))

added_size : (lead other : Lead) → HasSize 3 lead → HasSize 3 other
    → HasSize 3 (added_leads lead other)
added_size None other has more = tt
added_size (Some xs) None has more = tt
added_size (Some xs) (Some ys) has more = length-added 3 xs ys has more

pub total_size : (first : Lead) (lead : ℕ → Lead) (clubs : List ℕ) → HasSize 3 first
    → ((club : ℕ) → HasSize 3 (lead club)) → HasSize 3 (total_lead first lead clubs)
total_size first lead [] has each = has
total_size first lead (club ∷ clubs) has each =
    added_size (lead club) (total_lead first lead clubs) (each club)
    (total_size first lead clubs has each)

-- a lead that is capped at nothing
pub capped_size : (lead : Lead) → HasSize 3 lead → HasSize 3 (Some (at_most even_record lead))
capped_size None has = refl
capped_size (Some others) has = either (is_lt (by_first_difference even_record others))
  where
    either : (b : Bool) → length (cond b others even_record) ≡ 3
    either true = has
    either false = refl

pub capped_even : (lead : Lead) → HasSize 3 lead
    → IsLow (Some (at_most even_record lead)) (Some even_record)
capped_even lead has = at_most_first 3 even_record lead refl has

pub capped_low : (lead : Lead) → HasSize 3 lead → IsLow (Some (at_most even_record lead)) lead
capped_low None has = tt
capped_low (Some others) has = (lesser_bounds even_record others (sym has)).1

-- what a lead says, a greater one says
pub ahead_above : (low lead : Lead) → IsLow low lead → is_ahead_by low ≡ true
    → is_ahead_by lead ≡ true
ahead_above low None is ahead = refl
ahead_above None (Some numbers) is ahead = absurd is
ahead_above (Some low) (Some numbers) is ahead =
    ap is_lt (from_ahead low numbers is (less-is_lt (by_lead low) ahead))

pub level_above : (low lead : Lead) → IsLow low lead → is_level_or_ahead_by low ≡ true
    → is_level_or_ahead_by lead ≡ true
level_above low None is level = refl
level_above None (Some numbers) is level = absurd is
level_above (Some low) (Some numbers) is level = from_level low numbers is level
