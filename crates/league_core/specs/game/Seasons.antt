-- The season of a list of events: results, corrections, annulments and deductions, taken in the
-- order in which they are reported.
use Rattle.std.specs.Prelude.{◌≡◌, ◌<◌, ◌≤◌, ℕ, IsTrue, List, length, replicate, slice_set, fold}
use Rattle.std.specs.Prelude.{All, Some, None}
use Rattle.league_core.specs.declared.sheet.Sheet.{Sheet}
use Rattle.league_core.specs.declared.season.Event.{Event}
use Rattle.league_core.specs.declared.season.Event.TheVariants.{Set, Clear, Deduct}
use Rattle.league_core.specs.game.Limits.{most_deduction}
use Rattle.league_core.specs.game.Sheets.{IsWithinLimits}
use Rattle.league_core.specs.game.Results.{Results, is_score}

-- nothing is played, and nothing is taken off any club's points; the numbers are of clubs and of
-- fixtures
abbrev pub unplayed_season : ℕ → ℕ → Results
unplayed_season clubs fixtures =
    record { scores = replicate fixtures None; deductions = replicate clubs 0 }

-- a result and a correction put their score there, whatever stood there; an annulment puts none; a
-- deduction takes the place of the club's earlier one
abbrev pub event_applied : Results → Event → Results
event_applied season (Set fixture score) =
    record season { scores = slice_set season.scores fixture (Some score) }
event_applied season (Clear fixture) = record season
    { scores = slice_set season.scores fixture None }
event_applied season (Deduct club points) =
    record season { deductions = slice_set season.deductions club points }

-- what a season may take: of a fixture that it has, a score that may be or none; of a club that it
-- has, a deduction that may be
abbrev pub IsEventOf : Results → Event → Type 0
IsEventOf season (Set fixture score) = (fixture < length season.scores) × IsTrue (is_score score)
IsEventOf season (Clear fixture) = fixture < length season.scores
IsEventOf season (Deduct club points) = (club < length season.deductions)
    × (points ≤ most_deduction)

-- each of these events is one that a season of the sheet may take
abbrev pub AreEventsOf : Sheet → List Event → Type 0
AreEventsOf sheet events =
    All (IsEventOf (unplayed_season (length sheet.clubs) (length sheet.fixtures))) events

-- the season after these events, from the first one on; it means something for events of the sheet
abbrev pub season_after : Sheet → List Event → Results
season_after sheet events =
    fold event_applied (unplayed_season (length sheet.clubs) (length sheet.fixtures)) events

-- how many events there were
abbrev pub epoch_of : List Event → ℕ
epoch_of events = length events

-- the season speaks of the sheet's own fixtures and clubs, and of no other; that its scores and
-- deductions are at most 99 is `are_results`, which the type of seasons keeps
pub record IsSeasonOf (sheet : Sheet) (season : Results) : Type 0 where
  pub scores : length season.scores ≡ length sheet.fixtures
  pub deductions : length season.deductions ≡ length sheet.clubs

-- a sheet within the limits, and a season of that sheet
pub record IsLeague (sheet : Sheet) (season : Results) : Type 0 where
  pub limits : IsWithinLimits sheet
  pub of_sheet : IsSeasonOf sheet season
