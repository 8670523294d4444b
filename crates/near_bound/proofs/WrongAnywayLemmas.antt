-- A rival that is surely wrong whoever joins is so in each group.
use Rattle.std.proofs.Common.{◌≡◌, ℕ, Bool, true, false, ◌&&◌, ◌||◌, ◌==◌, not, List, [], ◌∷◌}
use Rattle.std.proofs.Common.{cond, filter, refl, sym, ap, ◌∙◌, Option, Some, None}
use Rattle.std.specs.List.{list_all, list_any}
use Rattle.std.proofs.Math.Bool.{or-true}
use Rattle.std.proofs.lemmas.Bool.{false≢true, eq-eqb, ne_eqb}
use Rattle.league_core.specs.declared.club_set.ClubSet.{ClubSet}
use Rattle.league_core.specs.declared.sheet.Sheet.{Sheet}
use Rattle.league_core.specs.declared.season.Score.{Score}
use Rattle.league_core.specs.declared.zone.Literal.{Literal}
use Rattle.league_core.specs.game.ClubSets.{clubs_in}
use Rattle.league_core.specs.game.Sums.{has_club, worth_among}
use Rattle.league_core.specs.search.Zones.{marked_before, marked_after}
use Rattle.near_laws.specs.Leads.{total_lead, margins, worth_against}
use Rattle.near_laws.specs.SureLeads.{lead_against, pair_lead, group_lead, any_group_lead}
use Rattle.near_laws.specs.SureLeads.{first_lead, tail_lead, leads_surely, record_worths}
use Rattle.near_laws.specs.SureLeads.{even_record}
use Rattle.near_laws.specs.Groups.{groups_with}
use Rattle.near_laws.proofs.LeadLemmas.{HasSize, least_lead_size}
use Rattle.near_bound.specs.declared.groups.Groups.{Groups}
use Rattle.near_bound.specs.inside.Ties.{fits_of}
use Rattle.near_bound.specs.inside.Decisions.{lead_capped, leads_anyway}
use Rattle.near_bound.specs.inside.GroupsLeft.{wrong_in, wrong_anyway, group_is_wrong}
use Rattle.near_bound.specs.inside.GroupsLeft.{MayForm, AreGroupsIn, FindsWrong}
use Rattle.near_bound.proofs.GroupSetLemmas.{any_member_passes}
use Rattle.near_bound.proofs.LeadSumLemmas.{IsLow, low_itself, capped_size, capped_even}
use Rattle.near_bound.proofs.LeadSumLemmas.{capped_low}
use Rattle.near_bound.proofs.OnceLemmas.{is_not}
use Rattle.near_bound.proofs.AnywayLemmas.{IsGroup, each_group, held_in_group, group_low}
use Rattle.near_bound.proofs.AnywayLemmas.{decide_above, or_follows, and_follows}

-- leads over a club, in groups of the clubs
module _ (sheet : Sheet) (fits : List ℕ → List (List Score)) (front back : ℕ) where
  against_size : (club : ℕ) → HasSize 3 (lead_against sheet fits front back club)
  against_size club =
      least_lead_size (margins (worth_against club) record_worths front back) sheet.fixtures
      (fits (front ∷ back ∷ club ∷ []))

  pair_size : HasSize 3 (pair_lead sheet fits front back)
  pair_size =
      least_lead_size (margins (worth_among (front ∷ back ∷ [])) record_worths front back)
      sheet.fixtures (fits (front ∷ back ∷ []))

  cap_size : (club : ℕ) → HasSize 3 (lead_capped sheet fits front back club)
  cap_size club = capped_size (lead_against sheet fits front back club) (against_size club)

  cap_even : (club : ℕ) → IsLow (lead_capped sheet fits front back club) (Some even_record)
  cap_even club = capped_even (lead_against sheet fits front back club) (against_size club)

  -- who is ahead whoever joins is ahead in each group
  pub surely_in_each : (is_held : ℕ → Bool) (rival : ℕ) (clubs group : List ℕ)
      → ((club : ℕ) → has_club clubs club ≡ true → is_held club ≡ false
      → (club == rival) ≡ false)
      → IsGroup is_held clubs group
      → leads_anyway sheet fits front back (filter (is_not rival) (filter is_held clubs))
      (filter (λ other. not (is_held other)) clubs) ≡ true
      → leads_surely sheet fits front back (filter (is_not rival) group) ≡ true
  surely_in_each is_held rival clubs group apart of anyway =
      let lead = lead_against sheet fits front back in
      let cap = lead_capped sheet fits front back in
      let pair = pair_lead sheet fits front back in
      let sure = filter (is_not rival) (filter is_held clubs) in
      let loose = filter (λ other. not (is_held other)) clubs in
      let more = filter (is_not rival) group in
      decide_above sheet.order (total_lead (group_lead sheet fits front back sure) cap loose)
      (total_lead (any_group_lead sheet fits front back sure) cap loose)
      (group_lead sheet fits front back more) (any_group_lead sheet fits front back more)
      (first_lead sheet fits front back) (tail_lead sheet fits front back)
      (group_low lead cap is_held rival pair clubs group
      (λ club. (capped_low (lead club) (against_size club), cap_even club, against_size club))
      pair_size apart of)
      (group_low cap cap is_held rival pair clubs group
      (λ club. (low_itself (cap club), cap_even club, cap_size club))
      pair_size apart of)
      anyway

-- a held rival is none of the loose ones
pub not_loose : (is_held : ℕ → Bool) (rival : ℕ) → is_held rival ≡ true → (club : ℕ)
    → is_held club ≡ false → (club == rival) ≡ false
not_loose is_held rival held club loose =
    ne_eqb club rival (λ same. false≢true (sym loose ∙ ap is_held same ∙ held))

wrong_in_each : (groups : Groups) (zone : List Literal) (clubs : List ℕ) (rival : ℕ)
    → has_club (clubs_in groups.held) rival ≡ true
    → wrong_anyway groups zone clubs rival ≡ true
    → (group : List ℕ) → IsGroup (has_club (clubs_in groups.held)) clubs group
    → wrong_in groups zone group rival ≡ true
wrong_in_each groups zone clubs rival held wrong group of =
    let sheet = groups.tie.now.left.now.sheet.now in
    let fits = fits_of groups.tie.now zone in
    let is_held = has_club (clubs_in groups.held) in
    let sure = filter (is_not rival) (filter is_held clubs) in
    let loose = filter (λ other. not (is_held other)) clubs in
    let whole = filter (is_not rival) group in
    let apart = λ (club : ℕ) (has : has_club clubs club ≡ true).
    not_loose is_held rival held club in
    or_follows
    (marked_after zone rival && leads_anyway sheet fits rival groups.club sure loose)
    (marked_before zone rival && leads_anyway sheet fits groups.club rival sure loose)
    (marked_after zone rival && leads_surely sheet fits rival groups.club whole)
    (marked_before zone rival && leads_surely sheet fits groups.club rival whole)
    (and_follows (marked_after zone rival)
    (leads_anyway sheet fits rival groups.club sure loose) (marked_after zone rival)
    (leads_surely sheet fits rival groups.club whole) (λ h. h)
    (surely_in_each sheet fits rival groups.club is_held rival clubs group apart of))
    (and_follows (marked_before zone rival)
    (leads_anyway sheet fits groups.club rival sure loose) (marked_before zone rival)
    (leads_surely sheet fits groups.club rival whole) (λ h. h)
    (surely_in_each sheet fits groups.club rival is_held rival clubs group apart of))
    wrong

-- if a held rival is wrong whoever joins, all groups are wrong
pub all_wrong_anyway : (groups : Groups) (zone : List Literal) (clubs : ClubSet) (rival : ℕ)
    → MayForm groups clubs → has_club (clubs_in groups.held) rival ≡ true
    → wrong_anyway groups zone (clubs_in clubs) rival ≡ true
    → list_all (group_is_wrong groups zone)
    (groups_with (has_club (clubs_in groups.held)) (clubs_in clubs)) ≡ true
all_wrong_anyway groups zone clubs rival left held wrong =
    each_group (group_is_wrong groups zone) (has_club (clubs_in groups.held)) (clubs_in clubs)
    (λ group of. any_member_passes (wrong_in groups zone group) group rival
    (held_in_group (has_club (clubs_in groups.held)) (clubs_in clubs) group rival of
    (left.clubs_held rival held) held)
    (wrong_in_each groups zone (clubs_in clubs) rival held wrong group of))

-- in the group of the held ones alone nobody else joins
pub anyway_alone : (groups : Groups) (zone : List Literal) (rival : ℕ)
    → wrong_anyway groups zone (clubs_in groups.held) rival
    ≡ wrong_in groups zone (clubs_in groups.held) rival
anyway_alone groups zone rival =
    λ i. (marked_after zone rival && leads_anyway sheet fits rival groups.club
    (filter (is_not rival) (kept clubs (λ x has. has) i)) (none clubs (λ x has. has) i))
    || (marked_before zone rival && leads_anyway sheet fits groups.club rival
    (filter (is_not rival) (kept clubs (λ x has. has) i)) (none clubs (λ x has. has) i))
  where
    sheet : Sheet
    sheet = groups.tie.now.left.now.sheet.now

    fits : List ℕ → List (List Score)
    fits = fits_of groups.tie.now zone

    clubs : List ℕ
    clubs = clubs_in groups.held

    kept : (xs : List ℕ) → ((x : ℕ) → has_club xs x ≡ true → has_club clubs x ≡ true)
        → filter (has_club clubs) xs ≡ xs
    kept [] in_clubs = refl
    kept (x ∷ xs) in_clubs =
        ap (λ b. cond b (x ∷ filter (has_club clubs) xs) (filter (has_club clubs) xs))
        (in_clubs x (ap (λ b. b || has_club xs x) (eq-eqb x x refl)))
        ∙ ap (λ (ys : List ℕ). x ∷ ys)
        (kept xs (λ y has. in_clubs y (ap (λ b. (x == y) || b) has ∙ or-true (x == y))))

    none : (xs : List ℕ) → ((x : ℕ) → has_club xs x ≡ true → has_club clubs x ≡ true)
        → filter (λ other. not (has_club clubs other)) xs ≡ []
    none [] in_clubs = refl
    none (x ∷ xs) in_clubs =
        ap (λ b. cond (not b) (x ∷ filter (λ other. not (has_club clubs other)) xs)
        (filter (λ other. not (has_club clubs other)) xs))
        (in_clubs x (ap (λ b. b || has_club xs x) (eq-eqb x x refl)))
        ∙ none xs (λ y has. in_clubs y (ap (λ b. (x == y) || b) has ∙ or-true (x == y)))

-- who is not wrong may be left out of the rivals that are looked at
pub finds_more : (groups : Groups) (rivals rest : List ℕ) (first : ℕ) (found : Option ℕ)
    → rivals ≡ first ∷ rest
    → ((zone : List Literal) → AreGroupsIn groups zone
    → wrong_in groups zone (clubs_in groups.held) first ≡ false)
    → FindsWrong groups rest found → FindsWrong groups rivals found
finds_more groups rivals rest first None splits fails finds = λ zone are.
    ap (list_any (wrong_in groups zone (clubs_in groups.held))) splits
    ∙ (λ i. fails zone are i || finds zone are i)
finds_more groups rivals rest first (Some rival) splits fails finds = (
  ap (λ (xs : List ℕ). has_club xs rival) splits
      ∙ ap (λ b. (first == rival) || b) finds.0 ∙ or-true (first == rival),
  finds.1,
)
