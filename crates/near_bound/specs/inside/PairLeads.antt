-- The leads of one club over another, as they are kept, and what they are in a zone.
use Rattle.std.specs.Prelude.{◌≡◌, ◌≢◌, ℕ, ℤ, ◌<◌, pos, neg_ℤ, ◌-ℤ◌, true, false, List, [], ◌∷◌}
use Rattle.std.specs.Prelude.{length}
use Rattle.std.specs.Prelude.{slice_index_or, map, Option, Some, None, IsSome}
use Rattle.league_core.specs.declared.club_set.ClubSet.{ClubSet}
use Rattle.league_core.specs.declared.zone.Literal.{Literal}
use Rattle.league_core.specs.game.Ahead.{rank_of}
use Rattle.league_core.specs.game.ClubSets.{clubs_in}
use Rattle.league_core.specs.game.Sums.{has_club, worth_to, worth_among}
use Rattle.league_core.specs.declared.sheet.Fixture.{Fixture}
use Rattle.league_core.specs.declared.season.Score.{Score}
use Rattle.near_laws.specs.Fits.{have_fit}
use Rattle.near_laws.specs.Leads.{Lead, added_leads, numbers_at, least_of, least_lead, margins}
use Rattle.near_laws.specs.Leads.{worth_against}
use Rattle.near_laws.specs.SureLeads.{pair_lead, lead_against, first_lead, overall_worths}
use Rattle.near_laws.specs.SureLeads.{record_worths, first_worths}
use Rattle.near_bound.specs.declared.match_left.MatchLeft.{MatchLeft}
use Rattle.near_bound.specs.declared.margin.Margin.{Margin}
use Rattle.near_bound.specs.declared.played.PlayedPart.{PlayedPart}
use Rattle.near_bound.specs.declared.tie.Tie.{Tie}
use Rattle.near_bound.specs.declared.leads.Leads.{Leads}
use Rattle.near_bound.specs.inside.Margins.{lead_by, record_parts, first_parts, overall_parts}
use Rattle.near_bound.specs.inside.Margins.{IsLeadWithin, IsLeastMargin, IsMarginGap}
use Rattle.near_bound.specs.inside.MatchesLeft.{IsLeftOf}
use Rattle.near_bound.specs.inside.PlayedParts.{club_margin, pair_margin}
use Rattle.near_bound.specs.inside.Ties.{IsTieIn, fits_of, match_at}

-- the club's fit scores leave none of its matches without one
abbrev pub HasFit : Tie → List Literal → ℕ → Type 0
HasFit tie zone club =
    have_fit tie.left.now.sheet.now tie.left.now.season.now zone tie.points (club ∷ []) ≡ true

-- a match of a list by its number
abbrev pub match_listed : List Fixture → ℕ → Fixture
match_listed matches fixture = slice_index_or matches fixture (record { home = 0; away = 0 })

-- the least of each of these fixtures, added
abbrev pub lead_over : List (Fixture → Score → ℤ) → List Fixture → List (List Score) → List ℕ
    → Lead
lead_over values matches options [] = Some (map (λ value. pos 0) values)
lead_over values matches options (fixture ∷ fixtures) =
    added_leads
    (least_of (numbers_at values (match_listed matches fixture))
    (slice_index_or options fixture []))
    (lead_over values matches options fixtures)

-- the lead so far, with that of the fixtures to come, is the whole one
abbrev pub IsLeadSoFar : List (Fixture → Score → ℤ) → List Fixture → List (List Score) → List ℕ
    → Lead → Type 0
IsLeadSoFar values matches options fixtures lead =
    added_leads lead (lead_over values matches options fixtures)
    ≡ least_lead values matches options

-- from a lead before a fixture to one with it
abbrev pub LeadGoesOn : List (Fixture → Score → ℤ) → List Fixture → List (List Score) → ℕ → Lead
    → Lead → Type 0
LeadGoesOn values matches options fixture old new =
    (fixtures : List ℕ) → IsLeadSoFar values matches options (fixture ∷ fixtures) old
    → IsLeadSoFar values matches options fixtures new

-- a lead in a table
abbrev pub kept_lead : List (Option Margin) → ℕ → Option Margin
kept_lead table club = slice_index_or table club None

-- two different clubs, and a set of clubs of the sheet
pub record AreClubsOf (tie : Tie) (able : ClubSet) (front back : ℕ) : Type 0 where
  pub front_in : front < length tie.left.now.sheet.now.clubs
  pub back_in : back < length tie.left.now.sheet.now.clubs
  pub apart : front ≢ back
  pub of_sheet : (club : ℕ) → has_club (clubs_in able) club ≡ true
      → club < length tie.left.now.sheet.now.clubs

-- each of them has fit scores
pub record HaveFits (tie : Tie) (able : ClubSet) (front back : ℕ) (zone : List Literal) : Type 0
  where
    pub front_fits : HasFit tie zone front
    pub back_fits : HasFit tie zone back
    pub each_fits : (club : ℕ) → has_club (clubs_in able) club ≡ true → HasFit tie zone club

-- the leads of the front club over the back one in the zone. By third clubs they are only kept if
-- the match of the two has a fit score
pub record AreLeadsIn (tie : Tie) (able : ClubSet) (front back : ℕ) (zone : List Literal)
    (leads : Leads) : Type 0 where
  pub pair : lead_by record_parts leads.pair
      ≡ pair_lead tie.left.now.sheet.now (fits_of tie zone) front back
  pub first : lead_by first_parts leads.overall
      ≡ first_lead tie.left.now.sheet.now (fits_of tie zone) front back
  pub overall : lead_by overall_parts leads.overall
      ≡ least_lead (margins worth_to overall_worths front back) tie.left.now.sheet.now.fixtures
      (fits_of tie zone (front ∷ back ∷ []))
  pub against : IsSome leads.pair → (rival : ℕ) → has_club (clubs_in able) rival ≡ true
      → rival ≢ front → rival ≢ back → lead_by record_parts (kept_lead leads.against rival)
      ≡ lead_against tie.left.now.sheet.now (fits_of tie zone) front back rival

-- how they are kept: numbers that are this near to zero
pub record AreLeadsWithin (bound : ℕ) (leads : Leads) : Type 0 where
  pub pair : IsLeadWithin bound leads.pair
  pub overall : IsLeadWithin bound leads.overall
  pub long : length leads.against ≡ 32
  pub against : (club : ℕ) → IsLeadWithin bound (kept_lead leads.against club)

-- near enough to be added up
abbrev pub AreLeadsNear : Leads → Type 0
AreLeadsNear leads = AreLeadsWithin 400000 leads

-- the fixed ranks and the order are the sheet's
pub record AreLeadsOf (tie : Tie) (front back : ℕ) (leads : Leads) : Type 0 where
  pub rank : leads.rank ≡ neg_ℤ (pos (rank_of tie.left.now.sheet.now front))
      -ℤ neg_ℤ (pos (rank_of tie.left.now.sheet.now back))
  pub order : leads.order ≡ tie.left.now.sheet.now.order

-- each of these clubs has fit scores
abbrev pub HaveEach : Tie → List Literal → List ℕ → Type 0
HaveEach tie zone [] = Unit {0}
HaveEach tie zone (club ∷ clubs) = HasFit tie zone club × HaveEach tie zone clubs

-- what is fit for each of these clubs, which have fit scores
abbrev pub IsFitForEach : Tie → ℕ → List ℕ → MatchLeft → Type 0
IsFitForEach tie fixture clubs left =
    (zone : List Literal) → IsTieIn tie zone → HaveEach tie zone clubs
    → IsLeftOf left (slice_index_or (fits_of tie zone clubs) fixture [])

-- the least margin over what is fit for each of these clubs
abbrev pub IsLeastFor : Tie → ℕ → ℕ → ℕ → List ℕ → Option Margin → Type 0
IsLeastFor tie fixture front back clubs least =
    (zone : List Literal) → IsTieIn tie zone → HaveEach tie zone clubs
    → IsLeastMargin (match_at tie fixture)
    (slice_index_or (fits_of tie zone clubs) fixture []) front back least

-- some score of each match is fit for both
abbrev pub HaveCommonFit : Tie → List Literal → ℕ → ℕ → Type 0
HaveCommonFit tie zone front back =
    have_fit tie.left.now.sheet.now tie.left.now.season.now zone tie.points (front ∷ back ∷ [])
    ≡ true

-- the leads by third clubs, with these fixtures to come
abbrev pub AreAgainstSoFar : Tie → ClubSet → ℕ → ℕ → List Literal → List ℕ
    → List (Option Margin) → Type 0
AreAgainstSoFar tie able front back zone fixtures table =
    HaveCommonFit tie zone front back → (rival : ℕ) → has_club (clubs_in able) rival ≡ true
    → rival ≢ front → rival ≢ back
    → IsLeadSoFar (margins (worth_against rival) record_worths front back)
    tie.left.now.sheet.now.fixtures (fits_of tie zone (front ∷ back ∷ rival ∷ [])) fixtures
    (lead_by record_parts (kept_lead table rival))

-- all leads
pub record AreLeadsSoFar (tie : Tie) (able : ClubSet) (front back : ℕ) (zone : List Literal)
    (fixtures : List ℕ) (leads : Leads) : Type 0 where
  pub pair : IsLeadSoFar (margins (worth_among (front ∷ back ∷ [])) record_worths front back)
      tie.left.now.sheet.now.fixtures (fits_of tie zone (front ∷ back ∷ [])) fixtures
      (lead_by record_parts leads.pair)
  pub first : IsLeadSoFar (margins worth_to first_worths front back)
      tie.left.now.sheet.now.fixtures (fits_of tie zone (front ∷ back ∷ [])) fixtures
      (lead_by first_parts leads.overall)
  pub overall : IsLeadSoFar (margins worth_to overall_worths front back)
      tie.left.now.sheet.now.fixtures (fits_of tie zone (front ∷ back ∷ [])) fixtures
      (lead_by overall_parts leads.overall)
  pub against : AreAgainstSoFar tie able front back zone fixtures leads.against

-- they take one fixture more
abbrev pub LeadsTake : Tie → ClubSet → ℕ → ℕ → ℕ → Leads → Leads → Type 0
LeadsTake tie able front back fixture old new =
    (zone : List Literal) → IsTieIn tie zone → HaveFits tie able front back zone
    → (fixtures : List ℕ) → AreLeadsSoFar tie able front back zone (fixture ∷ fixtures) old
    → AreLeadsSoFar tie able front back zone fixtures new

-- the one margin less the other
abbrev pub IsLessOf : Margin → Margin → Option Margin → Type 0
IsLessOf first second None = ⊥
IsLessOf first second (Some gap) = IsMarginGap first second gap

-- what is played in the season
abbrev pub played_in : Tie → PlayedPart
played_in tie = tie.left.now.played.now

-- the leads by the played matches with third clubs of the set
pub record AreStartsAgainst (tie : Tie) (able : ClubSet) (front back : ℕ)
    (table : List (Option Margin)) : Type 0 where
  pub rows : (rival : ℕ) → has_club (clubs_in able) rival ≡ true
      → IsLessOf (pair_margin (played_in tie) front rival) (pair_margin (played_in tie) back rival)
      (kept_lead table rival)
  pub others : (rival : ℕ) → has_club (clubs_in able) rival ≡ false
      → kept_lead table rival ≡ None
  pub long : length table ≡ 32

-- the leads by the played matches
pub record AreStarts (tie : Tie) (able : ClubSet) (front back : ℕ) (leads : Leads) : Type 0 where
  pub pair : IsLessOf (pair_margin (played_in tie) front back)
      (pair_margin (played_in tie) back front) leads.pair
  pub overall : IsLessOf (club_margin (played_in tie) front) (club_margin (played_in tie) back)
      leads.overall
  pub against : AreStartsAgainst tie able front back leads.against
  pub of_tie : AreLeadsOf tie front back leads
