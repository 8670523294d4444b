-- What a call for the next step answers.
use Rattle.std.specs.Prelude.{◌≡◌, ◌<◌, ℕ, false, List, length, None, Some}
use Rattle.std.specs.Prelude.{Result, Ok, Err, slice_index_or}
use Rattle.league_core.specs.declared.sheet.Sheet.{Sheet}
use Rattle.league_core.specs.game.Results.{Results}
use Rattle.league_core.specs.game.Seasons.{epoch_of, season_after}
use Rattle.result_log.specs.declared.entry.Entry.{Entry}
use Rattle.result_log.specs.declared.entry.Entry.TheVariants as entry
use Rattle.result_log.specs.declared.fault.FeedStop.{FeedStop}
use Rattle.result_log.specs.Records.{IsEntryAt}
use Rattle.result_log.specs.inside.FeedParts.{LiveReading}
use Rattle.result_log.specs.inside.Readings.{answer_as}
use Rattle.what_if.specs.declared.step.Step.{Step}
use Rattle.what_if.specs.declared.step.Step.TheVariants as step
use Rattle.what_if.specs.Steps.{forget, step_in, step_line}

-- ---- how lines are read

-- a live feed is read so, where `when` asks too: each line in the season of the events before it
abbrev pub live_step : Sheet → LiveReading
live_step sheet events = step_line sheet (season_after sheet events) (epoch_of events)

-- an answer as one of entries
abbrev pub forgotten_answer : Result Step FeedStop → Result Entry FeedStop
forgotten_answer found = answer_as forget found

-- ---- one line

-- the step of an answer is what the line passed last is; the end comes of no line
abbrev pub IsStepThere : Sheet → Results → ℕ → List ℕ → Result Step FeedStop → Type 0
IsStepThere sheet season events text (Ok (step.When fixture)) =
    step_in sheet season events text ≡ Ok (Some (step.When fixture))
IsStepThere sheet season events text (Ok (step.Entry entry.End)) = Unit {0}
IsStepThere sheet season events text (Ok (step.Entry found)) =
    step_in sheet season events text ≡ Ok (Some (step.Entry found))
IsStepThere sheet season events text (Err stop) = Unit {0}

-- ---- what may come

-- the fixture is of the sheet, and has no score
abbrev pub IsUnplayedFixture : Sheet → Results → ℕ → Type 0
IsUnplayedFixture sheet season fixture =
    (fixture < length sheet.fixtures) × (slice_index_or season.scores fixture None ≡ None)

-- a step may come in this season, after so many events: its entry may, or its match is to be played
abbrev pub IsStepAt : Sheet → Results → ℕ → Step → Type 0
IsStepAt sheet season events (step.Entry found) = IsEntryAt season events false found
IsStepAt sheet season events (step.When fixture) = IsUnplayedFixture sheet season fixture
