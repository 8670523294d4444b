-- What one fixture adds to the leads of one club over another.
use Rattle.std.proofs.Common.{◌≡◌, ◌≢◌, ℕ, ℤ, Bool, true, false, ◌&&◌, ◌||◌, ◌==◌}
use Rattle.std.proofs.Common.{List, [], ◌∷◌, refl, sym, ap, ◌∙◌, subst, ◌<◌, length}
use Rattle.std.proofs.Common.{get_or, Option, Some, None, eq-eqb, inl}
use Rattle.std.proofs.Math.Bool.{or-true}
use Rattle.std.proofs.lemmas.Bool.{true≢false}
use Rattle.league_core.specs.declared.sheet.Fixture.{Fixture}
use Rattle.league_core.specs.declared.season.Score.{Score}
use Rattle.league_core.specs.game.Sums.{has_club, worth_to, worth_among}
use Rattle.league_core.specs.declared.zone.Literal.{Literal}
use Rattle.near_laws.specs.Leads.{added_leads, least_of, numbers_at, margins}
use Rattle.near_laws.proofs.LeadLemmas.{HasSize}
use Rattle.near_laws.specs.SureLeads.{record_worths, first_worths, overall_worths}
use Rattle.near_bound.specs.declared.margin.Margin.{Margin}
use Rattle.near_bound.specs.declared.tie.Tie.{Tie}
use Rattle.near_bound.specs.inside.Margins.{lead_by, record_parts, first_parts, overall_parts}
use Rattle.near_bound.specs.inside.Margins.{IsLeastMargin}
use Rattle.near_bound.specs.inside.Ties.{IsTie, IsTieIn, fits_of}
use Rattle.near_bound.specs.inside.PairLeads.{HasFit, LeadGoesOn}
use Rattle.near_bound.proofs.LeadWalkLemmas.{so_far_more, so_far_same}
use Rattle.near_bound.proofs.CommonFitLemmas.{StaysOut, both_have, one_stays}
use Rattle.near_bound.proofs.GroupWorthLemmas.{among_is, not_among_is, no_first, no_overall}

pub record_size : (lead : Option Margin) → HasSize 3 (lead_by record_parts lead)
record_size None = tt
record_size (Some margin) = refl

pub first_size : (lead : Option Margin) → HasSize 2 (lead_by first_parts lead)
first_size None = tt
first_size (Some margin) = refl

pub overall_size : (lead : Option Margin) → HasSize 5 (lead_by overall_parts lead)
overall_size None = tt
overall_size (Some margin) = refl

-- ---- a fixture of the two clubs, or one that is left out

pub pair_skips : (tie : Tie) (zone : List Literal) (front back k : ℕ) (match d : Fixture)
    (lead : Option Margin) → IsTie tie → IsTieIn tie zone → front ≢ back
    → k < length tie.left.now.sheet.now.fixtures
    → match ≡ get_or tie.left.now.sheet.now.fixtures k d
    → HasFit tie zone front → HasFit tie zone back
    → (has_club (front ∷ back ∷ []) match.home && has_club (front ∷ back ∷ []) match.away) ≡ false
    → LeadGoesOn (margins (worth_among (front ∷ back ∷ [])) record_worths front back)
    tie.left.now.sheet.now.fixtures (fits_of tie zone (front ∷ back ∷ [])) k
    (lead_by record_parts lead) (lead_by record_parts lead)
pair_skips tie zone front back k match d lead of_tie is apart inside match_is has_front has_back
    none fixtures so_far =
    let left = tie.left.now in
    let clubs = front ∷ back ∷ [] in
    let here = subst (λ (m : Fixture). (has_club clubs m.home && has_club clubs m.away) ≡ false)
    match_is none in
    so_far_same (margins (worth_among clubs) record_worths front back) left.sheet.now.fixtures
    (fits_of tie zone clubs) k d fixtures (lead_by record_parts lead) inside (record_size lead)
    so_far
    (λ score. not_among_is clubs front back (get_or left.sheet.now.fixtures k d) score here)
    (both_have left zone tie.points front back k d of_tie.left is.stands inside has_front has_back
    (one_stays (get_or left.sheet.now.fixtures k d) front back apart here))

pub pair_takes : (tie : Tie) (zone : List Literal) (front back k : ℕ) (match d : Fixture)
    (old here new : Option Margin) → IsTie tie → IsTieIn tie zone
    → k < length tie.left.now.sheet.now.fixtures
    → match ≡ get_or tie.left.now.sheet.now.fixtures k d
    → (has_club (front ∷ back ∷ []) match.home && has_club (front ∷ back ∷ []) match.away) ≡ true
    → IsLeastMargin match (get_or (fits_of tie zone (front ∷ back ∷ [])) k []) front back here
    → lead_by record_parts new
    ≡ added_leads (lead_by record_parts old) (lead_by record_parts here)
    → LeadGoesOn (margins (worth_among (front ∷ back ∷ [])) record_worths front back)
    tie.left.now.sheet.now.fixtures (fits_of tie zone (front ∷ back ∷ [])) k
    (lead_by record_parts old) (lead_by record_parts new)
pair_takes tie zone front back k match d old here new of_tie is inside match_is both least sum
    fixtures so_far =
    let left = tie.left.now in
    let clubs = front ∷ back ∷ [] in
    let own = get_or (fits_of tie zone clubs) k [] in
    so_far_more (margins (worth_among clubs) record_worths front back) left.sheet.now.fixtures
    (fits_of tie zone clubs) k d fixtures (lead_by record_parts old) (lead_by record_parts here)
    (lead_by record_parts new) inside so_far
    (least.record_lead
    ∙ ap (λ (f : Score → List ℤ). least_of f own) (among_is clubs front back match both)
    ∙ ap (λ (m : Fixture). least_of
    (numbers_at (margins (worth_among clubs) record_worths front back) m) own) match_is)
    sum

-- a club that is not one of two is neither
pub no_side : (front back club : ℕ) → has_club (front ∷ back ∷ []) club ≡ false
    → (club ≢ front) × (club ≢ back)
no_side front back club none = (
  λ same. true≢false (sym (ap (λ b. b || ((back == club) || false))
      (eq-eqb front club (sym same))) ∙ none),
  λ same. true≢false (sym (ap (λ b. (front == club) || (b || false))
      (eq-eqb back club (sym same)) ∙ or-true (front == club)) ∙ none),
)

both_false : (a b : Bool) → (a || b) ≡ false → (a ≡ false) × (b ≡ false)
both_false true b none = absurd (true≢false none)
both_false false b none = (refl, none)

pub both_out : (front back : ℕ) (match : Fixture)
    → (has_club (front ∷ back ∷ []) match.home || has_club (front ∷ back ∷ []) match.away) ≡ false
    → StaysOut match front × StaysOut match back
both_out front back match none =
    let parts = both_false (has_club (front ∷ back ∷ []) match.home)
    (has_club (front ∷ back ∷ []) match.away) none in
    let home = no_side front back match.home parts.0 in
    let away = no_side front back match.away parts.1 in
    ((home.0, away.0), (home.1, away.1))

pub overall_skips : (tie : Tie) (zone : List Literal) (front back k : ℕ) (match d : Fixture)
    (lead : Option Margin) → IsTie tie → IsTieIn tie zone
    → k < length tie.left.now.sheet.now.fixtures
    → match ≡ get_or tie.left.now.sheet.now.fixtures k d
    → HasFit tie zone front → HasFit tie zone back
    → (has_club (front ∷ back ∷ []) match.home || has_club (front ∷ back ∷ []) match.away) ≡ false
    → LeadGoesOn (margins worth_to first_worths front back) tie.left.now.sheet.now.fixtures
    (fits_of tie zone (front ∷ back ∷ [])) k (lead_by first_parts lead) (lead_by first_parts lead)
    × LeadGoesOn (margins worth_to overall_worths front back) tie.left.now.sheet.now.fixtures
    (fits_of tie zone (front ∷ back ∷ [])) k (lead_by overall_parts lead)
    (lead_by overall_parts lead)
overall_skips tie zone front back k match d lead of_tie is inside match_is has_front has_back none =
    let left = tie.left.now in
    let clubs = front ∷ back ∷ [] in
    let own = get_or left.sheet.now.fixtures k d in
    let out = both_out front back own
    (subst (λ (m : Fixture). (has_club clubs m.home || has_club clubs m.away) ≡ false) match_is
    none) in
    let some = both_have left zone tie.points front back k d of_tie.left is.stands inside has_front
    has_back (inl out.0) in (
      λ fixtures so_far.
          so_far_same (margins worth_to first_worths front back) left.sheet.now.fixtures
          (fits_of tie zone clubs) k d fixtures (lead_by first_parts lead) inside
          (first_size lead) so_far
          (λ score. no_first front back own score out.0 out.1) some,
      λ fixtures so_far.
          so_far_same (margins worth_to overall_worths front back) left.sheet.now.fixtures
          (fits_of tie zone clubs) k d fixtures (lead_by overall_parts lead) inside
          (overall_size lead) so_far (λ score. no_overall front back own score out.0 out.1) some,
    )

pub overall_takes : (tie : Tie) (zone : List Literal) (front back k : ℕ) (match d : Fixture)
    (old here new : Option Margin) → IsTie tie → IsTieIn tie zone
    → k < length tie.left.now.sheet.now.fixtures
    → match ≡ get_or tie.left.now.sheet.now.fixtures k d
    → IsLeastMargin match (get_or (fits_of tie zone (front ∷ back ∷ [])) k []) front back here
    → lead_by first_parts new ≡ added_leads (lead_by first_parts old) (lead_by first_parts here)
    → lead_by overall_parts new
    ≡ added_leads (lead_by overall_parts old) (lead_by overall_parts here)
    → LeadGoesOn (margins worth_to first_worths front back) tie.left.now.sheet.now.fixtures
    (fits_of tie zone (front ∷ back ∷ [])) k (lead_by first_parts old) (lead_by first_parts new)
    × LeadGoesOn (margins worth_to overall_worths front back) tie.left.now.sheet.now.fixtures
    (fits_of tie zone (front ∷ back ∷ [])) k (lead_by overall_parts old)
    (lead_by overall_parts new)
overall_takes tie zone front back k match d old here new of_tie is inside match_is least first
    last =
    let left = tie.left.now in
    let clubs = front ∷ back ∷ [] in
    let own = get_or (fits_of tie zone clubs) k [] in (
      λ fixtures so_far.
          so_far_more (margins worth_to first_worths front back) left.sheet.now.fixtures
          (fits_of tie zone clubs) k d fixtures (lead_by first_parts old)
          (lead_by first_parts here) (lead_by first_parts new) inside so_far
          (least.first_lead
          ∙ ap (λ (m : Fixture). least_of
          (numbers_at (margins worth_to first_worths front back) m) own) match_is) first,
      λ fixtures so_far.
          so_far_more (margins worth_to overall_worths front back) left.sheet.now.fixtures
          (fits_of tie zone clubs) k d fixtures (lead_by overall_parts old)
          (lead_by overall_parts here) (lead_by overall_parts new) inside so_far
          (least.overall_lead
          ∙ ap (λ (m : Fixture). least_of
          (numbers_at (margins worth_to overall_worths front back) m) own) match_is) last,
    )
