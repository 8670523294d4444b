-- What one match does to the leads of one club over another, by which of its sides are one of the
-- two.
use Rattle.std.proofs.Common.{◌≡◌, ℕ, ◌<◌, ◌≤◌, Bool, true, false, ◌&&◌, ◌||◌, not, cond}
use Rattle.std.proofs.Common.{List, [], ◌∷◌, length, get_or, set, Option, refl, sym, ap, ◌∙◌}
use Rattle.std.proofs.lemmas.Bool.{true≢false, false≢true}
use Rattle.league_core.specs.declared.club_set.ClubSet.{ClubSet}
use Rattle.league_core.specs.declared.sheet.Fixture.{Fixture}
use Rattle.league_core.specs.declared.zone.Literal.{Literal}
use Rattle.league_core.specs.game.ClubSets.{clubs_in}
use Rattle.league_core.specs.game.Sums.{has_club}
use Rattle.near_laws.specs.Leads.{added_leads}
use Rattle.near_bound.specs.declared.leads.Leads.{Leads}
use Rattle.near_bound.specs.declared.margin.Margin.{Margin}
use Rattle.near_bound.specs.declared.tie.Tie.{Tie}
use Rattle.near_bound.specs.inside.Margins.{lead_by, record_parts, first_parts, overall_parts}
use Rattle.near_bound.specs.inside.Margins.{IsLeastMargin}
use Rattle.near_bound.specs.inside.Ties.{IsTie, IsTieIn, fits_of}
use Rattle.near_bound.specs.inside.PairLeads.{AreClubsOf, HaveFits, AreLeadsSoFar, AreLeadsWithin}
use Rattle.near_bound.specs.inside.PairLeads.{AreAgainstSoFar, kept_lead}
use Rattle.near_bound.proofs.MarginLemmas.{lead_wider}
use Rattle.near_bound.proofs.PairLeadLemmas.{pair_skips, pair_takes, overall_skips, overall_takes}
use Rattle.near_bound.proofs.ThirdTableLemmas.{passes_unless_one, passes_unless_third, third_takes}

-- a match of the sheet, and which of its sides are one of the two
pub record IsMatchOf (tie : Tie) (able : ClubSet) (front back : ℕ) (zone : List Literal) (k : ℕ)
    (match d : Fixture) (home away : Bool) : Type 0 where
  pub of_tie : IsTie tie
  pub is : IsTieIn tie zone
  pub clubs : AreClubsOf tie able front back
  pub fits : HaveFits tie able front back zone
  pub inside : k < length tie.left.now.sheet.now.fixtures
  pub match_is : match ≡ get_or tie.left.now.sheet.now.fixtures k d
  pub home_is : home ≡ has_club (front ∷ back ∷ []) match.home
  pub away_is : away ≡ has_club (front ∷ back ∷ []) match.away

pub match_there : (tie : Tie) (able : ClubSet) (front back : ℕ) (zone : List Literal) (k : ℕ)
    (d : Fixture) (home away : Bool) (matches : List Fixture) → IsTie tie → IsTieIn tie zone
    → AreClubsOf tie able front back → HaveFits tie able front back zone
    → k < length tie.left.now.sheet.now.fixtures → matches ≡ tie.left.now.sheet.now.fixtures
    → home ≡ has_club (front ∷ back ∷ []) (get_or matches k d).home
    → away ≡ has_club (front ∷ back ∷ []) (get_or matches k d).away
    → IsMatchOf tie able front back zone k (get_or matches k d) d home away
match_there tie able front back zone k d home away matches of_tie is clubs fits inside same home_is
    away_is = record {
      of_tie = of_tie;
      is = is;
      clubs = clubs;
      fits = fits;
      inside = inside;
      match_is = ap (λ (ms : List Fixture). get_or ms k d) same;
      home_is = home_is;
      away_is = away_is;
    }

-- ---- two sides

none_is : (a b : Bool) → (a || b) ≡ false → ((a && b) ≡ false) × (cond a (not b) b ≡ false)
none_is true b none = absurd (true≢false none)
none_is false b none = (refl, none)

both_are : (a b : Bool) → (a && b) ≡ true → cond a (not b) b ≡ false
both_are true b both = ap not both
both_are false b both = absurd (false≢true both)

pub one_is : (a b : Bool) → (a || b) ≡ true → (a && b) ≡ false → cond a (not b) b ≡ true
one_is true b any not_both = ap not not_both
one_is false b any not_both = any

one_are : (a b : Bool) → cond a (not b) b ≡ true → (a && b) ≡ false
one_are true true one = absurd (false≢true one)
one_are true false one = refl
one_are false b one = refl

-- ---- a match of neither, of both, of one

pub passes_by : (tie : Tie) (able : ClubSet) (front back : ℕ) (zone : List Literal) (k : ℕ)
    (match d : Fixture) (home away : Bool) (leads : Leads)
    → IsMatchOf tie able front back zone k match d home away → (home || away) ≡ false
    → (fixtures : List ℕ) → AreLeadsSoFar tie able front back zone (k ∷ fixtures) leads
    → AreLeadsSoFar tie able front back zone fixtures leads
passes_by tie able front back zone k match d home away leads at none fixtures so_far =
    let sides = none_is home away none in
    let overall = overall_skips tie zone front back k match d leads.overall at.of_tie at.is
    at.inside at.match_is at.fits.front_fits at.fits.back_fits
    (sym (λ i. at.home_is i || at.away_is i) ∙ none) in record {
      pair = pair_skips tie zone front back k match d leads.pair at.of_tie
          at.is at.clubs.apart at.inside at.match_is at.fits.front_fits at.fits.back_fits
          (sym (λ i. at.home_is i && at.away_is i) ∙ sides.0) fixtures so_far.pair;
      first = overall.0 fixtures so_far.first;
      overall = overall.1 fixtures so_far.overall;
      against = λ common rival among apart also.
          passes_unless_one tie zone front back rival k match d
          (kept_lead leads.against rival) home away at.of_tie at.is at.inside
          at.match_is common at.fits.front_fits at.fits.back_fits (at.fits.each_fits rival among)
          apart also at.home_is at.away_is sides.1
          fixtures (so_far.against common rival among apart also);
    }

pub takes_both : (tie : Tie) (able : ClubSet) (front back : ℕ) (zone : List Literal) (k : ℕ)
    (match d : Fixture) (home away : Bool) (leads : Leads) (least pair overall : Option Margin)
    → IsMatchOf tie able front back zone k match d home away → (home && away) ≡ true
    → IsLeastMargin match (get_or (fits_of tie zone (front ∷ back ∷ [])) k []) front back least
    → lead_by record_parts pair
    ≡ added_leads (lead_by record_parts leads.pair) (lead_by record_parts least)
    → lead_by first_parts overall
    ≡ added_leads (lead_by first_parts leads.overall) (lead_by first_parts least)
    → lead_by overall_parts overall
    ≡ added_leads (lead_by overall_parts leads.overall) (lead_by overall_parts least)
    → (fixtures : List ℕ) → AreLeadsSoFar tie able front back zone (k ∷ fixtures) leads
    → AreLeadsSoFar tie able front back zone fixtures (record {
      pair = pair;
      overall = overall;
      against = leads.against;
      rank = leads.rank;
      order = leads.order;
    })
takes_both tie able front back zone k match d home away leads least pair overall at both is_least
    by_record by_first by_last fixtures so_far =
    let all = overall_takes tie zone front back k match d leads.overall least overall at.of_tie
    at.is at.inside at.match_is is_least by_first by_last in record {
      pair = pair_takes tie zone front back k match d leads.pair least pair at.of_tie at.is
          at.inside at.match_is (sym (λ i. at.home_is i && at.away_is i) ∙ both) is_least by_record
          fixtures so_far.pair;
      first = all.0 fixtures so_far.first;
      overall = all.1 fixtures so_far.overall;
      against = λ common rival among apart also.
          passes_unless_one tie zone front back rival k match d
          (kept_lead leads.against rival) home away at.of_tie at.is at.inside
          at.match_is common at.fits.front_fits at.fits.back_fits (at.fits.each_fits rival among)
          apart also at.home_is at.away_is (both_are home away both)
          fixtures (so_far.against common rival among apart also);
    }

pub takes_one : (tie : Tie) (able : ClubSet) (front back : ℕ) (zone : List Literal) (k : ℕ)
    (match d : Fixture) (home away : Bool) (leads : Leads) (least overall : Option Margin)
    (against : List (Option Margin))
    → IsMatchOf tie able front back zone k match d home away → cond home (not away) away ≡ true
    → IsLeastMargin match (get_or (fits_of tie zone (front ∷ back ∷ [])) k []) front back least
    → lead_by first_parts overall
    ≡ added_leads (lead_by first_parts leads.overall) (lead_by first_parts least)
    → lead_by overall_parts overall
    ≡ added_leads (lead_by overall_parts leads.overall) (lead_by overall_parts least)
    → (fixtures : List ℕ) → AreAgainstSoFar tie able front back zone fixtures against
    → AreLeadsSoFar tie able front back zone (k ∷ fixtures) leads
    → AreLeadsSoFar tie able front back zone fixtures (record {
      pair = leads.pair;
      overall = overall;
      against = against;
      rank = leads.rank;
      order = leads.order;
    })
takes_one tie able front back zone k match d home away leads least overall against at one is_least
    by_first by_last fixtures by_third so_far =
    let all = overall_takes tie zone front back k match d leads.overall least overall at.of_tie
    at.is at.inside at.match_is is_least by_first by_last in record {
      pair = pair_skips tie zone front back k match d leads.pair at.of_tie
          at.is at.clubs.apart at.inside at.match_is at.fits.front_fits at.fits.back_fits
          (sym (λ i. at.home_is i && at.away_is i) ∙ one_are home away one) fixtures so_far.pair;
      first = all.0 fixtures so_far.first;
      overall = all.1 fixtures so_far.overall;
      against = by_third;
    }

-- the third club of a match of one is not in the set
pub third_left_out : (tie : Tie) (able : ClubSet) (front back : ℕ) (zone : List Literal) (k : ℕ)
    (match d : Fixture) (home away : Bool) (third : ℕ) (table : List (Option Margin))
    → IsMatchOf tie able front back zone k match d home away → cond home (not away) away ≡ true
    → third ≡ cond home match.away match.home → has_club (clubs_in able) third ≡ false
    → (fixtures : List ℕ) → AreAgainstSoFar tie able front back zone (k ∷ fixtures) table
    → AreAgainstSoFar tie able front back zone fixtures table
third_left_out tie able front back zone k match d home away third table at one third_is out fixtures
    so_far =
    λ common rival among apart also.
    passes_unless_third tie zone front back rival k third match d
    (kept_lead table rival) home away at.of_tie at.is at.inside at.match_is
    common (at.fits.each_fits rival among) apart also at.home_is at.away_is one third_is
    (λ same. true≢false (sym among ∙ ap (has_club (clubs_in able)) (sym same) ∙ out)) fixtures
    (so_far common rival among apart also)

-- or it is
pub third_taken : (tie : Tie) (able : ClubSet) (front back : ℕ) (zone : List Literal) (k : ℕ)
    (match d : Fixture) (home away : Bool) (third : ℕ) (table : List (Option Margin))
    (least new : Option Margin)
    → IsMatchOf tie able front back zone k match d home away → cond home (not away) away ≡ true
    → third ≡ cond home match.away match.home → third < length table
    → IsLeastMargin match (get_or (fits_of tie zone (front ∷ back ∷ third ∷ [])) k []) front back
    least
    → lead_by record_parts new
    ≡ added_leads (lead_by record_parts (kept_lead table third)) (lead_by record_parts least)
    → (fixtures : List ℕ) → AreAgainstSoFar tie able front back zone (k ∷ fixtures) table
    → AreAgainstSoFar tie able front back zone fixtures (set table third new)
third_taken tie able front back zone k match d home away third table least new at one third_is short
    is_least sum fixtures so_far =
    λ common rival among apart also.
    third_takes tie zone front back rival k third match d table least new home away at.of_tie at.is
    at.inside at.match_is common (at.fits.each_fits rival among) apart also at.home_is at.away_is
    one third_is short is_least sum fixtures (so_far common rival among apart also)

-- ---- how near they are to zero

pub leads_wider : (bound more : ℕ) (leads : Leads) → bound ≤ more → AreLeadsWithin bound leads
    → AreLeadsWithin more leads
leads_wider bound more leads less near = record {
  pair = lead_wider bound more leads.pair less near.pair;
  overall = lead_wider bound more leads.overall less near.overall;
  long = near.long;
  against = λ club. lead_wider bound more (kept_lead leads.against club) less (near.against club);
}
