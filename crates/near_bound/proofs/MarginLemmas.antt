-- How far sums and differences of margins are from zero, and that the margin at the worst score is
-- the least.
use Rattle.std.proofs.Common.{◌≡◌, ◌≢◌, ℕ, ℤ, ◌+◌, ◌+ℤ◌, ◌-ℤ◌, ◌≤◌, Bool, true, false, ◌&&◌}
use Rattle.std.proofs.Common.{◌==◌, List, [], ◌∷◌, Option, Some, None, refl, sym, ◌∙◌, arith}
use Rattle.std.proofs.lemmas.Int.{ints}
use Rattle.std.proofs.lemmas.Bool.Decides.{nat_tests}
use Rattle.league_core.specs.declared.sheet.Fixture.{Fixture}
use Rattle.league_core.specs.declared.season.Score.{Score}
use Rattle.league_core.specs.game.Sums.{match_points, goal_difference, goals, worth_to}
use Rattle.league_core.specs.search.Options.{has_score}
use Rattle.near_laws.specs.Leads.{numbers_at, margins}
use Rattle.near_laws.specs.SureLeads.{record_worths, first_worths, overall_worths}
use Rattle.near_bound.specs.declared.match_left.MatchLeft.{MatchLeft}
use Rattle.near_bound.specs.declared.margin.Margin.{Margin}
use Rattle.near_bound.specs.inside.MatchesLeft.{is_score_left, IsLeftOf, IsNothing}
use Rattle.near_bound.specs.inside.Margins.{IsNumberWithin, IsMarginWithin, IsLeadWithin}
use Rattle.near_bound.specs.inside.Margins.{IsMarginBy}
use Rattle.near_bound.specs.inside.Margins.{IsWorstIn, IsLeastMargin}
use Rattle.near_bound.proofs.LeastLemmas.{least_of-is, least_of-none}
use Rattle.near_bound.proofs.WorstLemmas.{gap, rest_by, LeadsBy, worst_leads}
use Rattle.near_bound.proofs.OrderLemmas.{record_from, first_from, overall_from}

pub within_sum : (bound more : ℕ) (x y z : ℤ) → z ≡ x +ℤ y → IsNumberWithin bound x
    → IsNumberWithin more y
    → IsNumberWithin (bound + more) z
within_sum bound more x y z is near also =
    (omega (arith, ints, near.0, also.0), omega (arith, ints, near.1, also.1))

pub within_gap : (bound more : ℕ) (x y z : ℤ) → z ≡ x -ℤ y → IsNumberWithin bound x
    → IsNumberWithin more y
    → IsNumberWithin (bound + more) z
within_gap bound more x y z is near also =
    (omega (arith, ints, near.0, also.1), omega (arith, ints, near.1, also.0))

within_wider : (bound wide : ℕ) (x : ℤ) → bound ≤ wide → IsNumberWithin bound x
    → IsNumberWithin wide x
within_wider bound wide x few near =
    (omega (arith, ints, near.0), omega (arith, ints, near.1))

-- what is near is so by a wider bound
pub margin_wider : (bound wide : ℕ) (margin : Margin) → bound ≤ wide → IsMarginWithin bound margin
    → IsMarginWithin wide margin
margin_wider bound wide margin few near = record {
  points = within_wider bound wide margin.points few near.points;
  difference = within_wider bound wide margin.difference few near.difference;
  goals = within_wider bound wide margin.goals few near.goals;
  away_goals = within_wider bound wide margin.away_goals few near.away_goals;
  wins = within_wider bound wide margin.wins few near.wins;
  away_wins = within_wider bound wide margin.away_wins few near.away_wins;
}

pub lead_wider : (bound wide : ℕ) (lead : Option Margin) → bound ≤ wide → IsLeadWithin bound lead
    → IsLeadWithin wide lead
lead_wider bound wide None few near = tt
lead_wider bound wide (Some margin) few near = margin_wider bound wide margin few near

worst_is_left : (left : MatchLeft) (home away back_home back_away : Bool) (worst : Score)
    → IsWorstIn left home away back_home back_away worst → is_score_left left worst ≡ true
worst_is_left left true away back_home back_away worst is = is.is_left
worst_is_left left false true back_home back_away worst is = is.is_left
worst_is_left left false false back_home back_away worst is = is.is_left

-- no club is two
flags_apart : (side front back : ℕ) → front ≢ back
    → ((side == front) && (side == back)) ≡ false
flags_apart side front back apart = grind (arith, nat_tests)

-- the margin at the worst score is the least of the options
pub least_at : (left : MatchLeft) (match : Fixture) (options : List Score) (front back : ℕ)
    (worst : Score) (margin : Margin) → front ≢ back
    → IsWorstIn left (match.home == front) (match.away == front) (match.home == back)
    (match.away == back) worst
    → IsMarginBy (λ worth. worth_to worth front match worst -ℤ worth_to worth back match worst)
    margin
    → IsLeftOf left options → IsLeastMargin match options front back (Some margin)
least_at left match options front back worst margin apart is value left_of = record {
  record_lead =
      (λ i. Some (value.points i ∷ value.difference i ∷ value.goals i ∷ []))
      ∙ least_of-is 3 (numbers_at (margins worth_to record_worths front back) match) options worst
      (λ other. refl) among
      (λ score has. record_from (gap match_points h a bh ba) (gap goal_difference h a bh ba)
      (gap goals h a bh ba) (rest_by h a bh ba) worst score (leads score has));
  first_lead =
      (λ i. Some (value.difference i ∷ value.goals i ∷ []))
      ∙ least_of-is 2 (numbers_at (margins worth_to first_worths front back) match) options worst
      (λ other. refl) among
      (λ score has. first_from (gap match_points h a bh ba) (gap goal_difference h a bh ba)
      (gap goals h a bh ba) (rest_by h a bh ba) worst score (leads score has));
  overall_lead =
      (λ i. Some (value.difference i ∷ value.goals i ∷ value.away_goals i ∷ value.wins i
      ∷ value.away_wins i ∷ []))
      ∙ least_of-is 5 (numbers_at (margins worth_to overall_worths front back) match) options worst
      (λ other. refl) among
      (λ score has. overall_from (gap match_points h a bh ba) (gap goal_difference h a bh ba)
      (gap goals h a bh ba) (rest_by h a bh ba) worst score (leads score has));
}
  where
    h : Bool
    h = match.home == front

    a : Bool
    a = match.away == front

    bh : Bool
    bh = match.home == back

    ba : Bool
    ba = match.away == back

    among : has_score options worst ≡ true
    among = sym (left_of worst) ∙ worst_is_left left h a bh ba worst is

    leads : (score : Score) → has_score options score ≡ true → LeadsBy h a bh ba worst score
    leads score has =
        worst_leads left h a bh ba worst score (flags_apart match.home front back apart)
        (flags_apart match.away front back apart) is (left_of score ∙ has)

-- without a score there is no margin
pub no_least : (left : MatchLeft) (match : Fixture) (options : List Score) (front back : ℕ)
    → IsNothing left → IsLeftOf left options → IsLeastMargin match options front back None
no_least left match options front back nothing left_of =
    let none = λ (score : Score). sym (left_of score) ∙ nothing score in record {
      record_lead = least_of-none _ options none;
      first_lead = least_of-none _ options none;
      overall_lead = least_of-none _ options none;
    }
