-- What holds of the seasons of events, and of lists of events: each statement is the contract of a
-- function of src/log_laws.rt that does nothing.
use Rattle.std.specs.Prelude.{◌≡◌, ◌+◌, IsTrue, List, [], ◌∷◌, ◌++◌, All}
use Rattle.league_core.specs.declared.sheet.Sheet.{Sheet}
use Rattle.league_core.specs.declared.season.Event.{Event}
use Rattle.league_core.specs.game.Sheets.{IsWithinLimits}
use Rattle.league_core.specs.game.Results.{Results, are_results}
use Rattle.league_core.specs.game.Seasons.{AreEventsOf, IsEventOf, IsLeague, IsSeasonOf, epoch_of}
use Rattle.league_core.specs.game.Seasons.{event_applied, season_after}
use Rattle.league_core.specs.inside.Codes.{has_code}

-- ---- one event

-- a season of the sheet stays one
abbrev pub EventsKeepTheSheet : Type 0
EventsKeepTheSheet =
    (sheet : Sheet) (season : Results) (event : Event) → IsSeasonOf sheet season
    → IsSeasonOf sheet (event_applied season event)

-- its scores and deductions are again at most 99
abbrev pub EventsKeepResults : Type 0
EventsKeepResults =
    (season : Results) (event : Event) → IsTrue (are_results season) → IsEventOf season event
    → IsTrue (are_results (event_applied season event))

-- all seasons of a sheet may take the same events
abbrev pub SeasonsTakeTheSameEvents : Type 0
SeasonsTakeTheSameEvents =
    (sheet : Sheet) (season other : Results) (event : Event)
    → IsSeasonOf sheet season → IsSeasonOf sheet other
    → IsEventOf season event → IsEventOf other event

-- what a season of a sheet within the limits may take has a code
abbrev pub EventsHaveCodes : Type 0
EventsHaveCodes =
    (sheet : Sheet) (season : Results) (event : Event)
    → IsLeague sheet season → IsEventOf season event → IsTrue (has_code event)

-- ---- lists of events

-- one event more is one more
abbrev pub EventsAreCounted : Type 0
EventsAreCounted =
    (events : List Event) (event : Event)
    → epoch_of (events ++ event ∷ []) ≡ epoch_of events + 1

-- the season of any events is a season of the sheet
abbrev pub LogsAreOfTheSheet : Type 0
LogsAreOfTheSheet =
    (sheet : Sheet) (events : List Event) → IsSeasonOf sheet (season_after sheet events)

-- the season of events of the sheet has scores and deductions that may be
abbrev pub LogsGiveResults : Type 0
LogsGiveResults =
    (sheet : Sheet) (events : List Event) → AreEventsOf sheet events
    → IsTrue (are_results (season_after sheet events))

-- an event that the season of some events may take is one more event of the sheet
abbrev pub EventsAreOfTheSheet : Type 0
EventsAreOfTheSheet =
    (sheet : Sheet) (events : List Event) (event : Event) → AreEventsOf sheet events
    → IsEventOf (season_after sheet events) event → AreEventsOf sheet (events ++ event ∷ [])

-- each event of a sheet within the limits has a code
abbrev pub LogsHaveCodes : Type 0
LogsHaveCodes =
    (sheet : Sheet) (events : List Event) → IsWithinLimits sheet → AreEventsOf sheet events
    → All (λ event. IsTrue (has_code event)) events
