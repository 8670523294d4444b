-- What the played matches of a season add up to: a row of totals for each club, and one for each
-- club against each other. Tables of rows lie by the clubs' numbers.
use Rattle.std.specs.Prelude.{◌≡◌, ℕ, ◌<◌, ◌+◌, ◌*◌, ◌==◌, ℤ, pos, neg_ℤ, ◌+ℤ◌, ◌≤ℤ◌, true, false}
use Rattle.std.specs.Prelude.{if◌then◌else◌, List, [], ◌∷◌, length, slice_index_or, Option}
use Rattle.league_core.specs.declared.sheet.Fixture.{Fixture}
use Rattle.league_core.specs.declared.season.Score.{Score}
use Rattle.league_core.specs.game.Sums.{Worth, match_points, goal_difference, goals, away_goals}
use Rattle.league_core.specs.game.Sums.{wins, away_wins, worth_to, worth_among, sum_over}
use Rattle.league_core.specs.search.PointRanges.{total_of}
use Rattle.score_box.specs.declared.totals.Totals.{Totals}

-- the columns of a row
pub data Column : Type 0 where
  points_column : Column
  difference_column : Column
  goals_column : Column
  away_goals_column : Column
  wins_column : Column
  away_wins_column : Column

-- what a match is worth in a column
abbrev pub worth_in : Column → Worth
worth_in points_column = match_points
worth_in difference_column = goal_difference
worth_in goals_column = goals
worth_in away_goals_column = away_goals
worth_in wins_column = wins
worth_in away_wins_column = away_wins

-- what a row has in a column
abbrev pub total_in : Totals → Column → ℤ
total_in totals points_column = totals.points
total_in totals difference_column = totals.difference
total_in totals goals_column = totals.goals
total_in totals away_goals_column = totals.away_goals
total_in totals wins_column = totals.wins
total_in totals away_wins_column = totals.away_wins

-- in each column the row has what the column's worth comes to
abbrev pub AreTotals : (Worth → ℤ) → Totals → Type 0
AreTotals value totals = (column : Column) → total_in totals column ≡ value (worth_in column)

-- all of a row is at most this far from zero
abbrev pub AreTotalsNear : ℕ → Totals → Type 0
AreTotalsNear bound totals =
    (column : Column) → (neg_ℤ (pos bound) ≤ℤ total_in totals column)
    × (total_in totals column ≤ℤ pos bound)

-- the row of no match
abbrev pub no_totals : Totals
no_totals = record {
  points = pos 0;
  difference = pos 0;
  goals = pos 0;
  away_goals = pos 0;
  wins = pos 0;
  away_wins = pos 0;
}

-- the row at a place of a table
abbrev pub totals_at : List Totals → ℕ → Totals
totals_at table place = slice_index_or table place no_totals

-- where a table of pairs has a club against a rival
abbrev pub pair_place : ℕ → ℕ → ℕ
pair_place club rival = 24 * club + rival

-- the row grows by what a match is worth
pub record TotalsGrowBy (value : Worth → ℤ) (old new : Totals) : Type 0 where
  pub sums : (column : Column)
      → total_in new column ≡ (total_in old column +ℤ value (worth_in column))
  pub near : (bound : ℕ) → AreTotalsNear bound old → AreTotalsNear (bound + 255) new

-- the sums of two rows, column by column
abbrev pub AreTogether : Totals → Totals → Totals → Type 0
AreTogether totals other result =
    (column : Column) → total_in result column ≡ (total_in totals column +ℤ total_in other column)

-- the club's rows against the clubs of a group, added
abbrev pub AddsPairs : List Totals → ℕ → List ℕ → Totals → Type 0
AddsPairs pairs club group totals =
    (column : Column) → total_in totals column
    ≡ total_of (λ rival. total_in (totals_at pairs (pair_place club rival)) column) group

-- a score is worth to one place what it is to the home side, to another what to the away side
abbrev pub worth_at_places : ℕ → ℕ → Score → ℕ → Worth → ℤ
worth_at_places home away score place worth =
    if home == place then worth score.home score.away false
    else if away == place then worth score.away score.home true
    else pos 0

-- two places of a table grow by what a score is worth to its two sides
abbrev pub AddsScore : ℕ → ℕ → Score → List Totals → List Totals → Type 0
AddsScore home away score old new =
    (place : ℕ) → TotalsGrowBy (worth_at_places home away score place) (totals_at old place)
    (totals_at new place)

-- the rows of the clubs, and those of each club against each other, over the matches that are
-- played
pub record AreTables (fixtures : List Fixture) (scores : List (Option Score))
    (clubs pairs : List Totals) : Type 0 where
  pub many_clubs : length clubs ≡ 24
  pub many_pairs : length pairs ≡ 576
  pub each_club : (club : ℕ) → club < 24
      → AreTotals (λ worth. sum_over (worth_to worth club) fixtures scores) (totals_at clubs club)
  pub each_pair : (club rival : ℕ) → club < 24 → rival < 24
      → AreTotals (λ worth. sum_over (worth_among (club ∷ rival ∷ []) worth club) fixtures scores)
      (totals_at pairs (pair_place club rival))
  pub near_clubs : (club : ℕ) → club < 24 → AreTotalsNear 153000 (totals_at clubs club)
  pub near_pairs : (club rival : ℕ) → club < 24 → rival < 24
      → AreTotalsNear 153000 (totals_at pairs (pair_place club rival))
