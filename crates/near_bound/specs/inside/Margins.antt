-- Margins: what matches are worth to one club less what they are worth to another, by each of the
-- six sums. A lead is read off a margin, in the order in which its parts decide.
use Rattle.std.specs.Prelude.{◌≡◌, ℕ, ℤ, pos, neg_ℤ, ◌+ℤ◌, ◌-ℤ◌, ◌≤ℤ◌, Bool, true, false, List, []}
use Rattle.std.specs.Prelude.{◌∷◌, Option, Some, None}
use Rattle.league_core.specs.declared.sheet.Fixture.{Fixture}
use Rattle.league_core.specs.declared.season.Score.{Score}
use Rattle.league_core.specs.game.Sums.{Worth, match_points, goal_difference, goals, away_goals}
use Rattle.league_core.specs.game.Sums.{wins, away_wins, worth_to}
use Rattle.near_laws.specs.Leads.{Lead, least_of, numbers_at, margins}
use Rattle.near_laws.specs.SureLeads.{record_worths, first_worths, overall_worths}
use Rattle.near_bound.specs.declared.match_left.MatchLeft.{MatchLeft}
use Rattle.near_bound.specs.declared.margin.Margin.{Margin}
use Rattle.near_bound.specs.inside.MatchesLeft.{IsWorstFor}

-- the parts of a head-to-head record
abbrev pub record_parts : Margin → List ℤ
record_parts margin = margin.points ∷ margin.difference ∷ margin.goals ∷ []

-- the two sums that may come first
abbrev pub first_parts : Margin → List ℤ
first_parts margin = margin.difference ∷ margin.goals ∷ []

-- the sums that come after the head-to-head
abbrev pub overall_parts : Margin → List ℤ
overall_parts margin =
    margin.difference ∷ margin.goals ∷ margin.away_goals ∷ margin.wins ∷ margin.away_wins ∷ []

-- the lead of some parts; no margin is the infinite lead
abbrev pub lead_by : (Margin → List ℤ) → Option Margin → Lead
lead_by parts None = None
lead_by parts (Some margin) = Some (parts margin)

-- a value for each of the six sums
pub record IsMarginBy (value : Worth → ℤ) (margin : Margin) : Type 0 where
  pub points : margin.points ≡ value match_points
  pub difference : margin.difference ≡ value goal_difference
  pub goals : margin.goals ≡ value goals
  pub away_goals : margin.away_goals ≡ value away_goals
  pub wins : margin.wins ≡ value wins
  pub away_wins : margin.away_wins ≡ value away_wins

-- one margin and another make a third
pub record IsMarginSum (first second sum : Margin) : Type 0 where
  pub points : sum.points ≡ first.points +ℤ second.points
  pub difference : sum.difference ≡ first.difference +ℤ second.difference
  pub goals : sum.goals ≡ first.goals +ℤ second.goals
  pub away_goals : sum.away_goals ≡ first.away_goals +ℤ second.away_goals
  pub wins : sum.wins ≡ first.wins +ℤ second.wins
  pub away_wins : sum.away_wins ≡ first.away_wins +ℤ second.away_wins

-- the one margin less the other is a third
pub record IsMarginGap (first second gap : Margin) : Type 0 where
  pub points : gap.points ≡ first.points -ℤ second.points
  pub difference : gap.difference ≡ first.difference -ℤ second.difference
  pub goals : gap.goals ≡ first.goals -ℤ second.goals
  pub away_goals : gap.away_goals ≡ first.away_goals -ℤ second.away_goals
  pub wins : gap.wins ≡ first.wins -ℤ second.wins
  pub away_wins : gap.away_wins ≡ first.away_wins -ℤ second.away_wins

-- the number is at most so far from zero
abbrev pub IsNumberWithin : ℕ → ℤ → Type 0
IsNumberWithin bound number = (neg_ℤ (pos bound) ≤ℤ number) × (number ≤ℤ pos bound)

-- so are all parts
pub record IsMarginWithin (bound : ℕ) (margin : Margin) : Type 0 where
  pub points : IsNumberWithin bound margin.points
  pub difference : IsNumberWithin bound margin.difference
  pub goals : IsNumberWithin bound margin.goals
  pub away_goals : IsNumberWithin bound margin.away_goals
  pub wins : IsNumberWithin bound margin.wins
  pub away_wins : IsNumberWithin bound margin.away_wins

-- so is a margin, if there is one
abbrev pub IsLeadWithin : ℕ → Option Margin → Type 0
IsLeadWithin bound None = Unit {0}
IsLeadWithin bound (Some margin) = IsMarginWithin bound margin

-- the worst score for the side that the front club has, if it has one, or else for the side that
-- the back club has not. It has the most goals of its difference if the back club plays and the
-- front club is not away
abbrev pub IsWorstIn : MatchLeft → Bool → Bool → Bool → Bool → Score → Type 0
IsWorstIn left true away back_home back_away worst = IsWorstFor left false back_away worst
IsWorstIn left false true back_home back_away worst = IsWorstFor left true false worst
IsWorstIn left false false back_home back_away worst = IsWorstFor left back_home true worst

-- the least of the options of a match, by each reading: the one club's worth less the other's
pub record IsLeastMargin (match : Fixture) (options : List Score) (front back : ℕ)
    (found : Option Margin) : Type 0 where
  pub record_lead : lead_by record_parts found
      ≡ least_of (numbers_at (margins worth_to record_worths front back) match) options
  pub first_lead : lead_by first_parts found
      ≡ least_of (numbers_at (margins worth_to first_worths front back) match) options
  pub overall_lead : lead_by overall_parts found
      ≡ least_of (numbers_at (margins worth_to overall_worths front back) match) options
