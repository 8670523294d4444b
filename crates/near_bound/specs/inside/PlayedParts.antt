-- The fixtures of a season that have no result, and what those with one add up to for each club.
use Rattle.std.specs.Prelude.{◌≡◌, ◌≢◌, ℕ, ℤ, ◌<◌, ◌≤◌, ◌+◌, ◌*◌, ◌-ℤ◌, pos, Bool, true}
use Rattle.std.specs.Prelude.{false, List, [], ◌∷◌, ◌++◌, length, take, drop, filter}
use Rattle.std.specs.Prelude.{slice_index_or, Option, Some, None}
use Rattle.std.specs.List.{range_with_len}
use Rattle.league_core.specs.declared.sheet.Fixture.{Fixture}
use Rattle.league_core.specs.declared.sheet.Sheet.{Sheet}
use Rattle.league_core.specs.declared.season.Score.{Score}
use Rattle.league_core.specs.game.Results.{Results}
use Rattle.league_core.specs.game.Sums.{Worth, worth_to, sum_over}
use Rattle.near_laws.specs.Leads.{worth_against}
use Rattle.near_bound.specs.declared.margin.Margin.{Margin}
use Rattle.near_bound.specs.declared.played.PlayedPart.{PlayedPart}
use Rattle.near_bound.specs.inside.Margins.{IsMarginBy, IsMarginWithin, IsMarginSum}

-- no result yet
abbrev pub is_open : Option Score → Bool
is_open None = true
is_open (Some score) = false

-- the fixtures below a number that have no result, in the order of the sheet
abbrev pub open_below : ℕ → List (Option Score) → List ℕ
open_below count scores =
    filter (λ fixture. is_open (slice_index_or scores fixture None)) (range_with_len 0 count)

-- all fixtures that have none
abbrev pub open_fixtures : List (Option Score) → List ℕ
open_fixtures scores = open_below (length scores) scores

-- the fixtures in the list of a part
abbrev pub open_of : PlayedPart → List ℕ
open_of part = take part.unplayed_count part.unplayed

-- the margin of no match
abbrev pub no_margin : Margin
no_margin = record {
  points = pos 0;
  difference = pos 0;
  goals = pos 0;
  away_goals = pos 0;
  wins = pos 0;
  away_wins = pos 0;
}

-- a margin in a table, or that of no match
abbrev pub margin_listed : List Margin → ℕ → Margin
margin_listed table place = slice_index_or table place no_margin

-- the sums of a club
abbrev pub club_margin : PlayedPart → ℕ → Margin
club_margin part club = margin_listed part.clubs club

-- the sums of a club against a rival
abbrev pub pair_margin : PlayedPart → ℕ → ℕ → Margin
pair_margin part club rival = margin_listed part.pairs (32 * club + rival)

-- so many played matches keep the sums near zero: each adds at most 255
pub record ArePartsNear (part : PlayedPart) (played : ℕ) : Type 0 where
  pub clubs : (club : ℕ) → IsMarginWithin (255 * played) (club_margin part club)
  pub pairs : (place : ℕ) → IsMarginWithin (255 * played) (margin_listed part.pairs place)

-- so many fixtures, the open ones among them
abbrev pub IsPartNear : PlayedPart → ℕ → Type 0
IsPartNear part fixtures =
    (played : ℕ) → played + part.unplayed_count ≡ fixtures → ArePartsNear part played

-- the tables stay as long
pub record KeepsSizes (old new : PlayedPart) : Type 0 where
  pub unplayed : length new.unplayed ≡ length old.unplayed
  pub clubs : length new.clubs ≡ length old.clubs
  pub pairs : length new.pairs ≡ length old.pairs

-- how long they are
pub record AreSizes (part : PlayedPart) : Type 0 where
  pub unplayed : length part.unplayed ≡ 600
  pub clubs : length part.clubs ≡ 32
  pub pairs : length part.pairs ≡ 1024

-- the list has the fixtures without a result. The tables have, over those with one, what the
-- matches of each club are worth to it, and what those against each rival are
pub record IsPlayedPart (sheet : Sheet) (season : Results) (part : PlayedPart) : Type 0 where
  pub is_open : open_of part ≡ open_fixtures season.scores
  pub few : part.unplayed_count ≤ length sheet.fixtures
  pub clubs : (club : ℕ)
      → IsMarginBy (λ worth. sum_over (worth_to worth club) sheet.fixtures season.scores)
      (club_margin part club)
  pub pairs : (club rival : ℕ) → club < 32 → rival < 32 → club ≢ rival
      → IsMarginBy
      (λ worth. sum_over (worth_against rival worth club) sheet.fixtures season.scores)
      (pair_margin part club rival)
  pub near : IsPartNear part (length sheet.fixtures)
  pub sizes : AreSizes part

-- some value of each sum is added to a margin
abbrev pub AddsValue : (Worth → ℤ) → Margin → Margin → Type 0
AddsValue value old new =
    (here : Margin) × IsMarginBy value here × IsMarginWithin 255 here × IsMarginSum old here new

-- two different clubs that a table has
pub record AreSidesIn (match : Fixture) : Type 0 where
  pub home : match.home < 32
  pub away : match.away < 32
  pub apart : match.home ≢ match.away

-- the open fixtures stay the same
pub record KeepsOpen (old new : PlayedPart) : Type 0 where
  pub unplayed : new.unplayed ≡ old.unplayed
  pub count : new.unplayed_count ≡ old.unplayed_count

-- what a match is worth to a side is added for this club, against this rival
pub record AddsSide (club rival : ℕ) (worth : Margin) (old new : PlayedPart) : Type 0 where
  pub own : IsMarginSum (club_margin old club) worth (club_margin new club)
  pub others : (other : ℕ) → other ≢ club → club_margin new other ≡ club_margin old other
  pub pair : IsMarginSum (pair_margin old club rival) worth (pair_margin new club rival)
  pub other_pairs : (place : ℕ) → place ≢ 32 * club + rival
      → margin_listed new.pairs place ≡ margin_listed old.pairs place
  pub keeps : KeepsOpen old new
  pub sizes : KeepsSizes old new

-- a match with a result is added
pub record AddsPlayedMatch (match : Fixture) (score : Score) (old new : PlayedPart) : Type 0 where
  pub clubs : (club : ℕ)
      → AddsValue (λ worth. worth_to worth club match score) (club_margin old club)
      (club_margin new club)
  pub pairs : (club rival : ℕ) → club < 32 → rival < 32 → club ≢ rival
      → AddsValue (λ worth. worth_against rival worth club match score)
      (pair_margin old club rival) (pair_margin new club rival)
  pub near : (played : ℕ) → ArePartsNear old played → ArePartsNear new (played + 1)
  pub keeps : KeepsOpen old new
  pub sizes : KeepsSizes old new

-- an open fixture comes to the list
pub record AddsOpen (fixture : ℕ) (old new : PlayedPart) : Type 0 where
  pub listed : open_of new ≡ open_of old ++ fixture ∷ []
  pub count : new.unplayed_count ≡ old.unplayed_count + 1
  pub clubs : new.clubs ≡ old.clubs
  pub pairs : new.pairs ≡ old.pairs
  pub sizes : KeepsSizes old new

-- a fixture is taken, with its result or none
abbrev pub TakesFixture : ℕ → Fixture → Option Score → PlayedPart → PlayedPart → Type 0
TakesFixture fixture match None old new = AddsOpen fixture old new
TakesFixture fixture match (Some score) old new = AddsPlayedMatch match score old new

-- a sum over so many fixtures, the first ones
abbrev pub sum_so_far : (Worth → Fixture → Score → ℤ) → List Fixture → List (Option Score) → ℕ
    → Worth → ℤ
sum_so_far value matches scores count worth =
    sum_over (value worth) matches scores
    -ℤ sum_over (value worth) (drop count matches) (drop count scores)

-- a part over so many fixtures
pub record IsPartSoFar (sheet : Sheet) (season : Results) (count : ℕ) (part : PlayedPart) : Type 0
  where
    pub is_open : open_of part ≡ open_below count season.scores
    pub few : part.unplayed_count ≤ count
    pub clubs : (club : ℕ)
        → IsMarginBy (sum_so_far (λ worth. worth_to worth club) sheet.fixtures season.scores count)
        (club_margin part club)
    pub pairs : (club rival : ℕ) → club < 32 → rival < 32 → club ≢ rival
        → IsMarginBy
        (sum_so_far (λ worth. worth_against rival worth club) sheet.fixtures season.scores count)
        (pair_margin part club rival)
    pub near : IsPartNear part count
    pub sizes : AreSizes part
