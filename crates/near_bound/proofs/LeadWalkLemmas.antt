-- Least leads added fixture by fixture: how they add up, and which fixtures add nothing.
use Rattle.std.proofs.Common.{◌≡◌, ℕ, ℤ, pos, ◌+◌, ◌+ℤ◌, ◌<◌, true}
use Rattle.std.proofs.Common.{List, [], ◌∷◌, length, get_or, drop}
use Rattle.std.proofs.Common.{map, Some, None, refl, sym, ap, ◌∙◌, subst}
use Rattle.std.proofs.Common.{arith}
use Rattle.std.proofs.lemmas.Int.{ints}
use Rattle.std.proofs.lemmas.Bool.{false≢true}
use Rattle.std.proofs.lemmas.List.{drop_more, get_or_default, length-map}
use Rattle.league_core.specs.declared.sheet.Fixture.{Fixture}
use Rattle.league_core.specs.declared.season.Score.{Score}
use Rattle.league_core.specs.search.Options.{has_option}
use Rattle.league_core.proofs.OptionLemmas.{has_score-first}
use Rattle.near_laws.specs.Leads.{Lead, added_parts, added_leads, numbers_at, least_of, least_lead}
use Rattle.near_laws.proofs.InTurnLemmas.{IsFrom, from_itself}
use Rattle.near_laws.proofs.LeadLemmas.{HasSize}
use Rattle.near_bound.specs.inside.PairLeads.{IsLeadSoFar, lead_over}
use Rattle.near_bound.proofs.LeastLemmas.{least_of-is}

-- ---- leads added up

added_parts-assoc : (xs ys zs : List ℤ)
    → added_parts (added_parts xs ys) zs ≡ added_parts xs (added_parts ys zs)
added_parts-assoc [] ys zs = refl
added_parts-assoc (x ∷ xs) [] zs = refl
added_parts-assoc (x ∷ xs) (y ∷ ys) [] = refl
added_parts-assoc (x ∷ xs) (y ∷ ys) (z ∷ zs) =
    let here : (x +ℤ y) +ℤ z ≡ x +ℤ (y +ℤ z) = omega (arith, ints) in
    λ i. here i ∷ added_parts-assoc xs ys zs i

pub added_leads-assoc : (first second third : Lead)
    → added_leads (added_leads first second) third ≡ added_leads first (added_leads second third)
added_leads-assoc None second third = refl
added_leads-assoc (Some xs) None third = refl
added_leads-assoc (Some xs) (Some ys) None = refl
added_leads-assoc (Some xs) (Some ys) (Some zs) =
    ap (λ (ns : List ℤ). Some ns) (added_parts-assoc xs ys zs)

-- so many zeros
abbrev pub zeros_of : {A : Type 0} → List A → List ℤ
zeros_of values = map (λ value. pos 0) values

zeros_first : {A : Type 0} (values : List A) (numbers : List ℤ) → length numbers ≡ length values
    → added_parts (zeros_of values) numbers ≡ numbers
zeros_first [] [] same = refl
zeros_first [] (n ∷ numbers) same = absurd (omega arith)
zeros_first (value ∷ values) [] same = absurd (omega arith)
zeros_first (value ∷ values) (n ∷ numbers) same =
    let here : pos 0 +ℤ n ≡ n = omega (arith, ints) in
    λ i. here i ∷ zeros_first values numbers (omega arith) i

zeros_last : {A : Type 0} (values : List A) (numbers : List ℤ) → length numbers ≡ length values
    → added_parts numbers (zeros_of values) ≡ numbers
zeros_last [] [] same = refl
zeros_last [] (n ∷ numbers) same = absurd (omega arith)
zeros_last (value ∷ values) [] same = absurd (omega arith)
zeros_last (value ∷ values) (n ∷ numbers) same =
    let here : n +ℤ pos 0 ≡ n = omega (arith, ints) in
    λ i. here i ∷ zeros_last values numbers (omega arith) i

pub none_first : {A : Type 0} (values : List A) (lead : Lead) → HasSize (length values) lead
    → added_leads (Some (zeros_of values)) lead ≡ lead
none_first values None has = refl
none_first values (Some numbers) has =
    ap (λ (ns : List ℤ). Some ns) (zeros_first values numbers has)

pub none_last : {A : Type 0} (values : List A) (lead : Lead) → HasSize (length values) lead
    → added_leads lead (Some (zeros_of values)) ≡ lead
none_last values None has = refl
none_last values (Some numbers) has =
    ap (λ (ns : List ℤ). Some ns) (zeros_last values numbers has)

added_parts-swap : (xs ys : List ℤ) → added_parts xs ys ≡ added_parts ys xs
added_parts-swap [] [] = refl
added_parts-swap [] (y ∷ ys) = refl
added_parts-swap (x ∷ xs) [] = refl
added_parts-swap (x ∷ xs) (y ∷ ys) =
    let here : x +ℤ y ≡ y +ℤ x = omega (arith, ints) in
    λ i. here i ∷ added_parts-swap xs ys i

pub added_leads-swap : (first second : Lead) → added_leads first second ≡ added_leads second first
added_leads-swap None None = refl
added_leads-swap None (Some ys) = refl
added_leads-swap (Some xs) None = refl
added_leads-swap (Some xs) (Some ys) = ap (λ (ns : List ℤ). Some ns) (added_parts-swap xs ys)

-- ---- one fixture after the other

pub least_lead-more : (values : List (Fixture → Score → ℤ)) (matches : List Fixture)
    (options : List (List Score)) (i : ℕ) (d : Fixture) → i < length matches → i < length options
    → least_lead values (drop i matches) (drop i options) ≡ added_leads
    (least_of (numbers_at values (get_or matches i d)) (get_or options i []))
    (least_lead values (drop (i + 1) matches) (drop (i + 1) options))
least_lead-more values matches options i d inside there =
    ap (λ ms. least_lead values ms (drop i options)) (drop_more matches i d inside)
    ∙ ap (λ os. least_lead values (get_or matches i d ∷ drop (i + 1) matches) os)
    (drop_more options i [] there)

-- a fixture is taken
pub so_far_more : (values : List (Fixture → Score → ℤ)) (matches : List Fixture)
    (options : List (List Score)) (fixture : ℕ) (d : Fixture) (fixtures : List ℕ)
    (old here new : Lead) → fixture < length matches
    → IsLeadSoFar values matches options (fixture ∷ fixtures) old
    → here ≡ least_of (numbers_at values (get_or matches fixture d)) (get_or options fixture [])
    → new ≡ added_leads old here
    → IsLeadSoFar values matches options fixtures new
so_far_more values matches options fixture d fixtures old here new inside so_far here_is is =
    let rest = lead_over values matches options fixtures in
    let own = get_or options fixture [] in
    ap (λ (l : Lead). added_leads l rest) is
    ∙ added_leads-assoc old here rest
    ∙ ap (λ (l : Lead). added_leads old (added_leads l rest))
    (here_is
    ∙ ap (λ (m : Fixture). least_of (numbers_at values m) own)
    (get_or_default matches fixture d (record { home = 0; away = 0 }) inside))
    ∙ so_far

-- a fixture that says nothing is left out
pub so_far_same : (values : List (Fixture → Score → ℤ)) (matches : List Fixture)
    (options : List (List Score)) (fixture : ℕ) (d : Fixture) (fixtures : List ℕ) (lead : Lead)
    → fixture < length matches → HasSize (length values) lead
    → IsLeadSoFar values matches options (fixture ∷ fixtures) lead
    → ((score : Score) → numbers_at values (get_or matches fixture d) score ≡ zeros_of values)
    → has_option (get_or options fixture []) ≡ true
    → IsLeadSoFar values matches options fixtures lead
so_far_same values matches options fixture d fixtures lead inside has so_far zero some =
    so_far_more values matches options fixture d fixtures lead (Some (zeros_of values)) lead inside
    so_far
    (no_number values (numbers_at values (get_or matches fixture d)) (get_or options fixture [])
    zero some)
    (sym (none_last values lead has))
  where
    length-zeros_of : (vs : List (Fixture → Score → ℤ)) → length (zeros_of vs) ≡ length vs
    length-zeros_of vs = simp length-map

    at_first : (vs : List (Fixture → Score → ℤ)) (numbers : Score → List ℤ) (first : Score)
        (more : List Score) → ((score : Score) → numbers score ≡ zeros_of vs)
        → Some (zeros_of vs) ≡ least_of numbers (first ∷ more)
    at_first vs numbers first more zero =
        ap (λ (ns : List ℤ). Some ns) (sym (zero first))
        ∙ least_of-is (length vs) numbers (first ∷ more) first
        (λ other. ap (length {A = ℤ}) (zero other) ∙ length-zeros_of vs)
        (has_score-first first more)
        (λ score has. subst (λ (ns : List ℤ). IsFrom (numbers first) ns)
        (zero first ∙ sym (zero score)) (from_itself (numbers first)))

    no_number : (vs : List (Fixture → Score → ℤ)) (numbers : Score → List ℤ) (own : List Score)
        → ((score : Score) → numbers score ≡ zeros_of vs) → has_option own ≡ true
        → Some (zeros_of vs) ≡ least_of numbers own
    no_number vs numbers [] zero some = absurd (false≢true some)
    no_number vs numbers (first ∷ more) zero some = at_first vs numbers first more zero

-- no fixture is left
pub so_far_all : (values : List (Fixture → Score → ℤ)) (matches : List Fixture)
    (options : List (List Score)) (lead : Lead) → HasSize (length values) lead
    → IsLeadSoFar values matches options [] lead
    → lead ≡ least_lead values matches options
so_far_all values matches options lead has so_far = sym (none_last values lead has) ∙ so_far
