-- The leads by the played matches alone: they are those with which the walk over the open ones
-- begins, and how near to zero they are.
use Rattle.std.proofs.Common.{◌≡◌, ℕ, ℤ, pos, ◌+◌, ◌*◌, ◌-ℤ◌, ◌≤◌, Bool, true, false, ◌&&◌}
use Rattle.std.proofs.Common.{◌||◌, ◌==◌, cond, List, [], ◌∷◌, length, replicate, Option, Some}
use Rattle.std.proofs.Common.{None, refl}
use Rattle.std.proofs.Common.{sym}
use Rattle.std.proofs.Common.{ap, ◌∙◌, subst, inl, inr, arith}
use Rattle.std.proofs.lemmas.Bool.{cases_Bool, cases_lt}
use Rattle.std.proofs.lemmas.List.{get_or-replicate, get_or_past, length-replicate}
use Rattle.league_core.specs.declared.club_set.ClubSet.{ClubSet}
use Rattle.league_core.specs.declared.sheet.Fixture.{Fixture}
use Rattle.league_core.specs.declared.season.Score.{Score}
use Rattle.league_core.specs.declared.zone.Literal.{Literal}
use Rattle.league_core.specs.game.ClubSets.{clubs_in}
use Rattle.league_core.specs.game.Sums.{Worth, has_club, worth_to, worth_among, sum_over}
use Rattle.near_laws.specs.Leads.{Lead, margins, worth_against}
use Rattle.near_laws.specs.SureLeads.{record_worths, first_worths, overall_worths}
use Rattle.near_laws.proofs.LeadLemmas.{sums_of}
use Rattle.near_laws.proofs.MarginLemmas.{sums_of-margins}
use Rattle.near_bound.specs.declared.leads.Leads.{Leads}
use Rattle.near_bound.specs.declared.margin.Margin.{Margin}
use Rattle.near_bound.specs.declared.played.PlayedPart.{PlayedPart}
use Rattle.near_bound.specs.declared.tie.Tie.{Tie}
use Rattle.near_bound.specs.inside.Margins.{lead_by, record_parts, first_parts, overall_parts}
use Rattle.near_bound.specs.inside.Margins.{IsMarginBy, IsMarginWithin, IsLeadWithin}
use Rattle.near_bound.specs.inside.PairLeads.{AreClubsOf, HaveFits, HaveEach, AreLeadsSoFar}
use Rattle.near_bound.specs.inside.PairLeads.{AreLeadsWithin, AreStarts, IsLessOf}
use Rattle.near_bound.specs.inside.PairLeads.{IsLeadSoFar, kept_lead, played_in}
use Rattle.near_bound.specs.inside.PlayedParts.{open_fixtures, club_margin, pair_margin}
use Rattle.near_bound.specs.inside.PlayedParts.{ArePartsNear, IsPlayedPart}
use Rattle.near_bound.specs.inside.Ties.{IsTie, IsTieIn, fits_of}
use Rattle.near_bound.proofs.EachFitLemmas.{played_fits}
use Rattle.near_bound.proofs.MarginLemmas.{within_gap, lead_wider}
use Rattle.near_bound.proofs.PlayedLemmas.{by_same}
use Rattle.near_bound.proofs.PlayedLeadLemmas.{played_start, sum_among_two}
use Rattle.near_bound.proofs.TieLemmas.{length-fit}

-- ---- the sums of two clubs, the one less the other

module _ (count : Worth → ℕ → Fixture → Score → ℤ) (front back : ℕ) (matches : List Fixture)
    (scores : List (Option Score)) (first second : Margin)
    (one : IsMarginBy (λ worth. sum_over (count worth front) matches scores) first)
    (two : IsMarginBy (λ worth. sum_over (count worth back) matches scores) second) where
  pub record_sums : (found : Option Margin) → IsLessOf first second found
      → lead_by record_parts found
      ≡ Some (sums_of (margins count record_worths front back) matches scores)
  record_sums None less = absurd less
  record_sums (Some gap) less =
      let points = less.points ∙ (λ i. one.points i -ℤ two.points i) in
      let difference = less.difference ∙ (λ i. one.difference i -ℤ two.difference i) in
      let goals = less.goals ∙ (λ i. one.goals i -ℤ two.goals i) in
      ap (λ (ns : List ℤ). Some ns)
      ((λ i. points i ∷ difference i ∷ goals i ∷ [])
      ∙ sym (sums_of-margins count record_worths front back matches scores))

  pub first_sums : (found : Option Margin) → IsLessOf first second found
      → lead_by first_parts found
      ≡ Some (sums_of (margins count first_worths front back) matches scores)
  first_sums None less = absurd less
  first_sums (Some gap) less =
      let difference = less.difference ∙ (λ i. one.difference i -ℤ two.difference i) in
      let goals = less.goals ∙ (λ i. one.goals i -ℤ two.goals i) in
      ap (λ (ns : List ℤ). Some ns)
      ((λ i. difference i ∷ goals i ∷ [])
      ∙ sym (sums_of-margins count first_worths front back matches scores))

  pub overall_sums : (found : Option Margin) → IsLessOf first second found
      → lead_by overall_parts found
      ≡ Some (sums_of (margins count overall_worths front back) matches scores)
  overall_sums None less = absurd less
  overall_sums (Some gap) less =
      let difference = less.difference ∙ (λ i. one.difference i -ℤ two.difference i) in
      let goals = less.goals ∙ (λ i. one.goals i -ℤ two.goals i) in
      let away_goals = less.away_goals ∙ (λ i. one.away_goals i -ℤ two.away_goals i) in
      let wins = less.wins ∙ (λ i. one.wins i -ℤ two.wins i) in
      let away_wins = less.away_wins ∙ (λ i. one.away_wins i -ℤ two.away_wins i) in
      ap (λ (ns : List ℤ). Some ns)
      ((λ i. difference i ∷ goals i ∷ away_goals i ∷ wins i ∷ away_wins i ∷ [])
      ∙ sym (sums_of-margins count overall_worths front back matches scores))

-- ---- the walk begins

start_by : (tie : Tie) (zone : List Literal) (values : List (Fixture → Score → ℤ))
    (clubs : List ℕ) (lead : Lead) → IsTie tie → IsTieIn tie zone → HaveEach tie zone clubs
    → lead ≡ Some (sums_of values tie.left.now.sheet.now.fixtures tie.left.now.season.now.scores)
    → IsLeadSoFar values tie.left.now.sheet.now.fixtures (fits_of tie zone clubs)
    (open_fixtures tie.left.now.season.now.scores) lead
start_by tie zone values clubs lead of_tie is have lead_is =
    let left = tie.left.now in
    subst (λ (l : Lead). IsLeadSoFar values left.sheet.now.fixtures (fits_of tie zone clubs)
    (open_fixtures left.season.now.scores) l) (sym lead_is)
    (played_start values left.sheet.now.fixtures (fits_of tie zone clubs) left.season.now.scores
    (length-fit left zone tie.points clubs of_tie.left is.stands)
    of_tie.left.league.of_sheet.scores
    (λ k score inside played. played_fits tie zone clubs k score of_tie is have inside played))

-- a group of two in the other order
turned_two : (first second side : ℕ)
    → has_club (second ∷ first ∷ []) side ≡ has_club (first ∷ second ∷ []) side
turned_two first second side = either (second == side) (first == side)
  where
    either : (a b : Bool) → (a || (b || false)) ≡ (b || (a || false))
    either a b = grind (arith)

sum_turned : (worth : Worth) (first second club : ℕ) (matches : List Fixture)
    (scores : List (Option Score))
    → sum_over (worth_among (second ∷ first ∷ []) worth club) matches scores
    ≡ sum_over (worth_among (first ∷ second ∷ []) worth club) matches scores
sum_turned worth first second club matches scores =
    ap (λ value. sum_over value matches scores)
    (λ i match score.
    cond (turned_two first second match.home i && turned_two first second match.away i)
    (worth_to worth club match score) (pos 0))

pub starts_so_far : (tie : Tie) (able : ClubSet) (front back : ℕ) (zone : List Literal)
    (leads : Leads) → IsTie tie → IsTieIn tie zone → AreClubsOf tie able front back
    → HaveFits tie able front back zone → AreStarts tie able front back leads
    → AreLeadsSoFar tie able front back zone (open_fixtures tie.left.now.season.now.scores) leads
starts_so_far tie able front back zone leads of_tie is clubs fits starts = record {
  pair = start_by tie zone
      (margins (worth_among (front ∷ back ∷ [])) record_worths front back) (front ∷ back ∷ [])
      (lead_by record_parts leads.pair) of_tie is both
      (record_sums (worth_among (front ∷ back ∷ [])) front back matches scores
      (pair_margin part front back) (pair_margin part back front) of_front of_back leads.pair
      starts.pair);
  first = start_by tie zone (margins worth_to first_worths front back) (front ∷ back ∷ [])
      (lead_by first_parts leads.overall) of_tie is both
      (first_sums worth_to front back matches scores (club_margin part front)
      (club_margin part back) (played.clubs front) (played.clubs back) leads.overall
      starts.overall);
  overall = start_by tie zone (margins worth_to overall_worths front back) (front ∷ back ∷ [])
      (lead_by overall_parts leads.overall) of_tie is both
      (overall_sums worth_to front back matches scores (club_margin part front)
      (club_margin part back) (played.clubs front) (played.clubs back) leads.overall
      starts.overall);
  against = λ common rival among apart also.
      let rival_in = clubs.of_sheet rival among in
      start_by tie zone (margins (worth_against rival) record_worths front back)
      (front ∷ back ∷ rival ∷ []) (lead_by record_parts (kept_lead leads.against rival)) of_tie is
      (fits.front_fits, (fits.back_fits, (fits.each_fits rival among, tt)))
      (record_sums (worth_against rival) front back matches scores
      (pair_margin part front rival) (pair_margin part back rival)
      (played.pairs front rival (omega (arith, clubs.front_in, most))
      (omega (arith, rival_in, most)) (λ e. apart (sym e)))
      (played.pairs back rival (omega (arith, clubs.back_in, most))
      (omega (arith, rival_in, most)) (λ e. also (sym e)))
      (kept_lead leads.against rival) (starts.against.rows rival among));
}
  where
    matches : List Fixture
    matches = tie.left.now.sheet.now.fixtures

    scores : List (Option Score)
    scores = tie.left.now.season.now.scores

    part : PlayedPart
    part = played_in tie

    played : IsPlayedPart tie.left.now.sheet.now tie.left.now.season.now (played_in tie)
    played = of_tie.left.played

    most : length tie.left.now.sheet.now.clubs ≤ 24
    most = of_tie.left.league.limits.most_clubs

    both : HaveEach tie zone (front ∷ back ∷ [])
    both = (fits.front_fits, (fits.back_fits, tt))

    of_front : IsMarginBy
        (λ worth. sum_over (worth_among (front ∷ back ∷ []) worth front) matches scores)
        (pair_margin part front back)
    of_front =
        by_same (λ worth. sum_over (worth_against back worth front) matches scores)
        (λ worth. sum_over (worth_among (front ∷ back ∷ []) worth front) matches scores)
        (pair_margin part front back)
        (played.pairs front back (omega (arith, clubs.front_in, most))
        (omega (arith, clubs.back_in, most)) clubs.apart)
        (λ worth. sum_among_two worth front back (length tie.left.now.sheet.now.clubs) matches
        scores clubs.apart of_tie.left.league.limits.fixtures)

    of_back : IsMarginBy
        (λ worth. sum_over (worth_among (front ∷ back ∷ []) worth back) matches scores)
        (pair_margin part back front)
    of_back =
        by_same (λ worth. sum_over (worth_against front worth back) matches scores)
        (λ worth. sum_over (worth_among (front ∷ back ∷ []) worth back) matches scores)
        (pair_margin part back front)
        (played.pairs back front (omega (arith, clubs.back_in, most))
        (omega (arith, clubs.front_in, most)) (λ e. clubs.apart (sym e)))
        (λ worth. sum_among_two worth back front (length tie.left.now.sheet.now.clubs) matches
        scores (λ e. clubs.apart (sym e)) of_tie.left.league.limits.fixtures
        ∙ sum_turned worth front back back matches scores)

-- ---- how near they are to zero

gap_near : (played : ℕ) (first second : Margin) (found : Option Margin)
    → IsLessOf first second found → IsMarginWithin (255 * played) first
    → IsMarginWithin (255 * played) second → IsLeadWithin (510 * played) found
gap_near played first second None less near also = tt
gap_near played first second (Some gap) less near also =
    lead_wider (255 * played + 255 * played) (510 * played) (Some gap) (omega arith) (record {
      points = within_gap (255 * played) (255 * played) _ _ _ less.points near.points
          also.points;
      difference = within_gap (255 * played) (255 * played) _ _ _ less.difference near.difference
          also.difference;
      goals = within_gap (255 * played) (255 * played) _ _ _ less.goals near.goals also.goals;
      away_goals = within_gap (255 * played) (255 * played) _ _ _ less.away_goals near.away_goals
          also.away_goals;
      wins = within_gap (255 * played) (255 * played) _ _ _ less.wins near.wins also.wins;
      away_wins = within_gap (255 * played) (255 * played) _ _ _ less.away_wins near.away_wins
          also.away_wins;
    })

pub starts_near : (tie : Tie) (able : ClubSet) (front back played : ℕ) (leads : Leads)
    → AreStarts tie able front back leads → ArePartsNear (played_in tie) played
    → AreLeadsWithin (510 * played) leads
starts_near tie able front back played leads starts near = record {
  pair = gap_near played (pair_margin part front back) (pair_margin part back front) leads.pair
      starts.pair (near.pairs (32 * front + back)) (near.pairs (32 * back + front));
  overall = gap_near played (club_margin part front) (club_margin part back) leads.overall
      starts.overall (near.clubs front) (near.clubs back);
  long = starts.against.long;
  against = λ club.
      elim (cases_Bool (has_club (clubs_in able) club)) as (λ _.
      IsLeadWithin (510 * played) (kept_lead leads.against club)) [
        | inl among ↦
            gap_near played (pair_margin part front club) (pair_margin part back club)
            (kept_lead leads.against club) (starts.against.rows club among)
            (near.pairs (32 * front + club)) (near.pairs (32 * back + club))
        | inr out ↦
            subst (λ (l : Option Margin). IsLeadWithin (510 * played) l)
            (sym (starts.against.others club out)) tt
      ];
}
  where
    part : PlayedPart
    part = played_in tie

-- a table without a lead
pub none_listed : (club : ℕ) → kept_lead (replicate 32 None) club ≡ None
none_listed club =
    elim (cases_lt club 32) as (λ _. kept_lead (replicate 32 None) club ≡ None) [
      | inl within ↦ get_or-replicate 32 club None None within
      | inr past ↦ get_or_past (replicate 32 None) club None
          (omega (arith, past, length-replicate {A = Option Margin} 32 None))
    ]
