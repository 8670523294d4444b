-- A reading of a feed, whatever its records tell: what a call for the next one answers.
use Rattle.std.specs.Prelude.{◌≡◌, ◌<◌, ◌≤◌, List, length, ℕ, Some, Result, Ok, Err}
use Rattle.league_core.specs.declared.sheet.Sheet.{Sheet}
use Rattle.league_core.specs.game.Limits.{most_events}
use Rattle.league_core.specs.game.Results.{Results}
use Rattle.league_core.specs.game.Seasons.{IsEventOf, IsSeasonOf, epoch_of, season_after}
use Rattle.result_log.specs.declared.entry.Entry.{Entry}
use Rattle.result_log.specs.declared.entry.Entry.TheVariants.{Change, Ask, Proofs, End}
use Rattle.result_log.specs.declared.fault.FeedFault.{FeedFault}
use Rattle.result_log.specs.declared.fault.FeedStop.{FeedStop}
use Rattle.result_log.specs.Feeds.{line_as, parsed_in}
use Rattle.result_log.specs.inside.FeedParts.{LiveReading}

-- records may be read in this season
pub record MayBeReadIn (sheet : Sheet) (season : Results) : Type 0 where
  pub of_sheet : IsSeasonOf sheet season
  pub clubs : length sheet.clubs ≤ 255
  pub numbers : length sheet.fixtures ≤ 65535

-- a record may tell this entry in this season, after so many events; none is the end
abbrev pub MayBeTold : Results → ℕ → Entry → Type 0
MayBeTold season events (Change event) = IsEventOf season event × (events < most_events)
MayBeTold season events Ask = Unit {0}
MayBeTold season events Proofs = Unit {0}
MayBeTold season events End = ⊥

-- a live feed is read so: each line in the season of the events before it
abbrev pub live_as : {T : Type 0} → (T → Entry)
    → (Sheet → Results → ℕ → List (List ℕ) → Result T FeedFault) → Sheet → LiveReading
live_as entry tells sheet events =
    line_as entry (tells sheet (season_after sheet events) (epoch_of events))

-- an answer as one of entries
abbrev pub answer_as : {T : Type 0} → (T → Entry) → Result T FeedStop → Result Entry FeedStop
answer_as entry (Ok told) = Ok (entry told)
answer_as entry (Err stop) = Err stop

-- what is told is what the line passed last tells; the end comes of no line
abbrev pub IsParsedThere : {T : Type 0} → (T → Entry) → (List (List ℕ) → Result T FeedFault)
    → List ℕ → Result T FeedStop → Type 0
IsParsedThere entry tells text (Ok told) =
    (entry told ≡ End → ⊥) → parsed_in tells text ≡ Ok (Some told)
IsParsedThere entry tells text (Err stop) = Unit {0}
