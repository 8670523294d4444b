-- What is kept of a season's matches from zone to zone, and the near tests' argument made of it.
use Rattle.std.specs.Prelude.{◌≡◌, ℕ, false, List, [], ◌∷◌, length, take, slice_index_or}
use Rattle.std.specs.Prelude.{Option, Some, None}
use Rattle.league_core.specs.declared.sheet.Sheet.{Sheet}
use Rattle.league_core.specs.declared.season.Score.{Score}
use Rattle.league_core.specs.game.Results.{Results}
use Rattle.league_core.specs.game.Seasons.{IsSeasonOf}
use Rattle.league_core.specs.game.Sheets.{IsWithinLimits}
use Rattle.league_core.specs.search.Options.{options_in}
use Rattle.league_core.specs.search.PointRanges.{least_points_of, most_points_of}
use Rattle.league_core.specs.search.Zones.{marked_before, marked_after}
use Rattle.near_bound.specs.declared.match_left.MatchLeft.{MatchLeft}
use Rattle.near_bound.specs.declared.points.PointEnds.{PointEnds}
use Rattle.near_bound.specs.declared.zone_left.ZoneLeft.{ZoneLeft}
use Rattle.near_bound.specs.inside.MatchesLeft.{IsLeftOf}
use Rattle.near_bound.specs.inside.PlayedParts.{IsPlayedPart}
use Rattle.near_bound.specs.inside.ZonesLeft.{AreLeftOf}
use Rattle.score_box.specs.inside.Boxes.{IsSetOf}
use Rattle.score_box.specs.inside.ZoneBoxViews.{ZoneBoxView}
use Rattle.near_box.specs.declared.zone_matches.ZoneMatches.{ZoneMatches}

-- no score is left
abbrev pub nothing_left : MatchLeft
nothing_left = record {
  home_win = false;
  draw = false;
  away_win = false;
  home_least = 1;
  home_most = 0;
  away_least = 1;
  away_most = 0;
}

-- a match in a table
abbrev pub match_kept : List MatchLeft → ℕ → MatchLeft
match_kept matches fixture = slice_index_or matches fixture nothing_left

-- each fixture with a result has that result alone in the table
abbrev pub HaveResults : List (Option Score) → List MatchLeft → Type 0
HaveResults scores matches =
    (fixture : ℕ) (score : Score) → slice_index_or scores fixture None ≡ Some score
    → IsLeftOf (match_kept matches fixture) (score ∷ [])

-- a match with a result has that result alone
abbrev pub IsResultLeft : Option Score → MatchLeft → Type 0
IsResultLeft None left = Unit {0}
IsResultLeft (Some score) left = IsLeftOf left (score ∷ [])

-- what all zones of a season share
pub record AreMatchesOfSeason (sheet : Sheet) (season : Results) (kept : ZoneMatches) : Type 0 where
  pub played : IsPlayedPart sheet season kept.played
  pub long : length kept.matches ≡ 600
  pub results : HaveResults season.scores kept.matches

-- each match has what the zone of a box leaves of it
abbrev pub AreFilledIn : ZoneBoxView → ZoneMatches → Type 0
AreFilledIn box kept =
    AreLeftOf (take (length box.sheet.fixtures) kept.matches)
    (options_in box.sheet box.season box.zone)

-- the argument of the tests has the sheet and the season of the box, and what its zone leaves
pub record IsOfBox (box : ZoneBoxView) (left : ZoneLeft) : Type 0 where
  pub sheet : left.sheet.now ≡ box.sheet
  pub season : left.season.now ≡ box.season
  pub limits : IsWithinLimits left.sheet.now
  pub of_sheet : IsSeasonOf box.sheet left.season.now
  pub played : IsPlayedPart box.sheet box.season left.played.now
  pub matches : AreLeftOf left.matches.now (options_in box.sheet box.season box.zone)
  pub before : IsSetOf left.before (marked_before box.zone)
  pub after : IsSetOf left.after (marked_after box.zone)

-- the points of a club in the zone of a box
abbrev pub IsKeptOf : ZoneBoxView → ℕ → PointEnds → Type 0
IsKeptOf box club ends =
    (ends.least ≡ least_points_of box.sheet box.season box.zone (club ∷ []))
    × (ends.most ≡ most_points_of box.sheet box.season box.zone (club ∷ []))
