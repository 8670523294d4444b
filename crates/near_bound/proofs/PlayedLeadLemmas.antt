-- The lead by the played matches, with the least of each open fixture, is the whole lead.
use Rattle.std.proofs.Common.{◌≡◌, ◌≢◌, ℕ, zero, suc, ℤ, pos, ◌+◌, ◌+ℤ◌, ◌<◌, ◌⊎◌, Bool, true}
use Rattle.std.proofs.Common.{false}
use Rattle.std.proofs.Common.{◌&&◌, ◌||◌, ◌==◌, not, cond, List, [], ◌∷◌, length, get_or, drop, map}
use Rattle.std.proofs.Common.{ltb, filter, Option, Some, None, refl, sym, ap, ◌∙◌, subst, inl, inr}
use Rattle.std.proofs.Common.{arith}
use Rattle.std.specs.List.{list_all, range_with_len}
use Rattle.std.proofs.lemmas.Int.{ints}
use Rattle.std.proofs.lemmas.Bool.{and_parts}
use Rattle.std.proofs.lemmas.Bool.Decides.{nat_tests}
use Rattle.std.proofs.lemmas.List.{drop_more, drop_all}
use Rattle.league_core.specs.declared.sheet.Fixture.{Fixture}
use Rattle.league_core.specs.declared.season.Score.{Score}
use Rattle.league_core.specs.game.Sheets.{is_fixture}
use Rattle.league_core.specs.game.Sums.{Worth, has_club, worth_to, worth_among, if_played, sum_over}
use Rattle.league_core.proofs.SumLemmas.{sum_over-agree}
use Rattle.near_laws.specs.Leads.{Lead, added_parts, added_leads, numbers_at, least_of, least_lead}
use Rattle.near_laws.specs.Leads.{worth_against}
use Rattle.near_laws.proofs.LeadLemmas.{least_lead_size, sums_of}
use Rattle.near_bound.specs.inside.PairLeads.{lead_over, match_listed, IsLeadSoFar}
use Rattle.near_bound.specs.inside.PlayedParts.{is_open, open_fixtures}
use Rattle.near_bound.proofs.CommonFitLemmas.{StaysOut}
use Rattle.near_bound.proofs.GroupWorthLemmas.{nothing_to}
use Rattle.near_bound.proofs.LeadWalkLemmas.{added_leads-assoc, added_leads-swap, none_first}
use Rattle.near_bound.proofs.LeadWalkLemmas.{least_lead-more}
use Rattle.near_bound.proofs.ThirdClubLemmas.{plays_or_not}

-- ---- a lead by sums

added_map : {A : Type 0} (f g h : A → ℤ) (xs : List A) → ((x : A) → h x ≡ f x +ℤ g x)
    → map h xs ≡ added_parts (map f xs) (map g xs)
added_map f g h [] same = refl
added_map f g h (x ∷ xs) same = λ i. same x i ∷ added_map f g h xs same i

same_map : {A : Type 0} (f g : A → ℤ) (xs : List A) → ((x : A) → f x ≡ g x) → map f xs ≡ map g xs
same_map f g [] same = refl
same_map f g (x ∷ xs) same = λ i. same x i ∷ same_map f g xs same i

-- what two leads add to comes to a third in any order
swapped : (first second third : Lead)
    → added_leads first (added_leads second third) ≡ added_leads second (added_leads first third)
swapped first second third =
    sym (added_leads-assoc first second third)
    ∙ ap (λ (l : Lead). added_leads l third) (added_leads-swap first second)
    ∙ added_leads-assoc second first third

module _ (values : List (Fixture → Score → ℤ)) (matches : List Fixture)
    (options : List (List Score)) (scores : List (Option Score))
    (many : length options ≡ length matches) (played_many : length scores ≡ length matches)
    (fixed : (k : ℕ) (score : Score) → k < length matches → get_or scores k None ≡ Some score
    → get_or options k [] ≡ score ∷ []) where
  -- the sums over the played matches from this fixture on
  abbrev sums_from : ℕ → List ℤ
  sums_from count = sums_of values (drop count matches) (drop count scores)

  abbrev open_from : ℕ → ℕ → List ℕ
  open_from count more =
      filter (λ fixture. is_open (get_or scores fixture None)) (range_with_len count more)

  abbrev least_from : ℕ → Lead
  least_from count = least_lead values (drop count matches) (drop count options)

  sums_more : (count : ℕ) (value : Fixture → Score → ℤ) → count < length matches
      → sum_over value (drop count matches) (drop count scores)
      ≡ if_played value (match_listed matches count) (get_or scores count None)
      +ℤ sum_over value (drop (count + 1) matches) (drop (count + 1) scores)
  sums_more count value inside =
      let from_match = drop_more matches count (record { home = 0; away = 0 }) inside in
      let from_score = drop_more scores count None (omega (arith, inside, played_many)) in
      λ i. sum_over value (from_match i) (from_score i)

  -- one fixture before those for which it is known
  one_before : (count more : ℕ) (score : Option Score) → count < length matches
      → get_or scores count None ≡ score
      → added_leads (Some (sums_from (count + 1)))
      (lead_over values matches options (open_from (count + 1) more)) ≡ least_from (count + 1)
      → added_leads (Some (sums_from count))
      (lead_over values matches options
      (cond (is_open score) (count ∷ open_from (count + 1) more) (open_from (count + 1) more)))
      ≡ least_from count
  one_before count more None inside is rest =
      let here = least_of (numbers_at values (match_listed matches count))
      (get_or options count []) in
      let later = lead_over values matches options (open_from (count + 1) more) in
      let same : sums_from count ≡ sums_from (count + 1) =
      same_map (λ value. sum_over value (drop count matches) (drop count scores))
      (λ value. sum_over value (drop (count + 1) matches) (drop (count + 1) scores)) values
      (λ value.
      let more_is = sums_more count value inside
      ∙ ap (λ s. if_played value (match_listed matches count) s
      +ℤ sum_over value (drop (count + 1) matches) (drop (count + 1) scores)) is in
      omega (arith, ints, more_is)) in
      ap (λ ns. added_leads (Some ns) (added_leads here later)) same
      ∙ swapped (Some (sums_from (count + 1))) here later
      ∙ ap (added_leads here) rest
      ∙ sym (least_lead-more values matches options count (record { home = 0; away = 0 }) inside
      (omega (arith, inside, many)))
  one_before count more (Some score) inside is rest =
      let match = match_listed matches count in
      let later = lead_over values matches options (open_from (count + 1) more) in
      let sums : sums_from count
      ≡ added_parts (numbers_at values match score) (sums_from (count + 1)) =
      added_map (λ value. value match score)
      (λ value. sum_over value (drop (count + 1) matches) (drop (count + 1) scores))
      (λ value. sum_over value (drop count matches) (drop count scores)) values
      (λ value. sums_more count value inside
      ∙ ap (λ s. if_played value match s
      +ℤ sum_over value (drop (count + 1) matches) (drop (count + 1) scores)) is) in
      ap (λ ns. added_leads (Some ns) later) sums
      ∙ added_leads-assoc (Some (numbers_at values match score)) (Some (sums_from (count + 1)))
      later
      ∙ ap (added_leads (Some (numbers_at values match score))) rest
      ∙ ap (λ own. added_leads (least_of (numbers_at values match) own) (least_from (count + 1)))
      (sym (fixed count score inside is))
      ∙ sym (least_lead-more values matches options count (record { home = 0; away = 0 }) inside
      (omega (arith, inside, many)))

  from_here : (more count : ℕ) → count + more ≡ length matches
      → added_leads (Some (sums_from count))
      (lead_over values matches options (open_from count more)) ≡ least_from count
  from_here zero count all =
      ap (λ ms. added_leads (Some (sums_of values ms (drop count scores)))
      (lead_over values matches options [])) past
      ∙ none_first values (least_lead values [] (drop count options))
      (least_lead_size values [] (drop count options))
      ∙ sym (ap (λ ms. least_lead values ms (drop count options)) past)
    where
      past : drop count matches ≡ []
      past = drop_all count matches (omega (arith, all))
  from_here (suc more) count all =
      one_before count more (get_or scores count None) (omega (arith, all)) refl
      (from_here more (count + 1) (omega (arith, all)))

  pub played_start : IsLeadSoFar values matches options (open_fixtures scores)
      (Some (sums_of values matches scores))
  played_start =
      subst (λ (n : ℕ). added_leads (Some (sums_of values matches scores))
      (lead_over values matches options (open_from 0 n)) ≡ least_lead values matches options)
      (sym played_many)
      (from_here (length matches) 0 (omega arith))

-- ---- what a match between two clubs is worth

-- to one of the two it is worth as much among them as against the other
pub among_two : (worth : Worth) (club rival clubs : ℕ) (match : Fixture) (score : Score)
    → club ≢ rival → is_fixture clubs match ≡ true
    → worth_against rival worth club match score
    ≡ worth_among (club ∷ rival ∷ []) worth club match score
among_two worth club rival clubs match score apart fixture =
    by (plays_or_not match club)
  where
    sides : (home away first second : ℕ) → first ≢ second → (home == away) ≡ false
        → ((home == first) || ((away == first) || false)) ≡ true
        → ((home == second) || ((away == second) || false))
        ≡ (((first == home) || ((second == home) || false))
        && ((first == away) || ((second == away) || false)))
    sides home away first second different two plays = grind (arith, nat_tests)

    not_same : (b : Bool) → not b ≡ true → b ≡ false
    not_same true h = sym h
    not_same false h = refl

    neither : (a b : Bool) (number : ℤ) → number ≡ pos 0
        → cond a number (pos 0) ≡ cond b number (pos 0)
    neither true true number none = refl
    neither true false number none = none
    neither false true number none = sym none
    neither false false number none = refl

    by : (has_club (match.home ∷ match.away ∷ []) club ≡ true) ⊎ StaysOut match club
        → worth_against rival worth club match score
        ≡ worth_among (club ∷ rival ∷ []) worth club match score
    by (inl plays) =
        ap (λ b. cond b (worth_to worth club match score) (pos 0))
        (sides match.home match.away club rival apart
        (not_same (match.home == match.away) (last_part fixture)) plays)
      where
        last_part : is_fixture clubs match ≡ true → not (match.home == match.away) ≡ true
        last_part is =
            (and_parts (ltb match.home clubs && ltb match.away clubs)
            (not (match.home == match.away)) is).1
    by (inr out) =
        neither (has_club (match.home ∷ match.away ∷ []) rival)
        (has_club (club ∷ rival ∷ []) match.home && has_club (club ∷ rival ∷ []) match.away)
        (worth_to worth club match score) (nothing_to worth club match score out)

pub sum_among_two : (worth : Worth) (club rival clubs : ℕ) (matches : List Fixture)
    (scores : List (Option Score)) → club ≢ rival → list_all (is_fixture clubs) matches ≡ true
    → sum_over (worth_against rival worth club) matches scores
    ≡ sum_over (worth_among (club ∷ rival ∷ []) worth club) matches scores
sum_among_two worth club rival clubs matches scores apart are =
    sum_over-agree (is_fixture clubs) (worth_against rival worth club)
    (worth_among (club ∷ rival ∷ []) worth club)
    (λ match score is. among_two worth club rival clubs match score apart is) matches scores are
