-- Lemmas on feeds: what is known of an entry that is read, and how a feed begins with it.
use Rattle.std.proofs.Common.{◌≡◌, ◌≤◌, ℕ, Bool, true, false, List, [], ◌∷◌, ◌++◌, Option, None}
use Rattle.std.proofs.Common.{Some, if◌then◌else◌, Result, Ok, Err, refl, ap, subst, ◌∙◌, arith}
use Rattle.std.specs.Prelude.{IfOk, IfSome}
use Rattle.std.proofs.lemmas.List.{length_push}
use Rattle.league_core.specs.declared.sheet.Sheet.{Sheet}
use Rattle.league_core.specs.declared.season.Event.{Event}
use Rattle.league_core.specs.game.Results.{Results}
use Rattle.league_core.specs.game.Seasons.{AreEventsOf, IsSeasonOf, epoch_of, season_after}
use Rattle.league_core.proofs.TableLemmas.{season_after-push}
use Rattle.port_core.specs.declared.line.ReadStop.{ReadStop}
use Rattle.port_core.specs.Contents.{Contents}
use Rattle.fixture_sheet.specs.Fields.{has_return, record_of}
use Rattle.result_log.specs.declared.entry.Entry.{Entry}
use Rattle.result_log.specs.declared.entry.Entry.TheVariants.{Change, Ask, Proofs, End}
use Rattle.result_log.specs.declared.fault.FeedFault.{FeedFault}
use Rattle.result_log.specs.declared.fault.FeedFault.TheVariants.{UnknownRecord}
use Rattle.league_core.specs.game.Limits.{most_events}
use Rattle.result_log.specs.declared.fault.ContentStop.{ContentStop}
use Rattle.result_log.specs.declared.fault.FeedStop.{FeedStop}
use Rattle.result_log.specs.Records.{IsEntryAt, entry_of}
use Rattle.result_log.specs.Feeds.{count_with, entry_if, entry_in, feed_by, feed_from, feed_of}
use Rattle.result_log.specs.Feeds.{given, season_with}
use Rattle.result_log.specs.inside.FeedParts.{EntryReading, events_with, entry_reading_by}
use Rattle.result_log.specs.inside.FeedParts.{entry_reading_from, entry_reading_of}
use Rattle.result_log.specs.inside.Calls.{AnswersContent}
use Rattle.result_log.specs.inside.Readings.{IsParsedThere}
use Rattle.result_log.specs.inside.Laws.{KeepsLog, feed_after}
use Rattle.result_log.proofs.RecordLemmas.{entry_may_come}
use Rattle.league_core.proofs.LogLemmas.{AreEventsOf-push, season_after_of}

-- ---- one entry

given-some : (result : Result Entry FeedFault) (entry : Entry) → given result ≡ Ok (Some entry)
    → result ≡ Ok entry
given-some (Ok other) entry is = cc
given-some (Err fault) entry is = cc

-- an entry that a line is may come
line_may_come : (sheet : Sheet) (season : Results) (events : ℕ) (proofs : Bool)
    (content : List ℕ) (entry : Entry) → IsSeasonOf sheet season
    → entry_in sheet season events proofs content ≡ Ok (Some entry)
    → IsEntryAt season events proofs entry
line_may_come sheet season events proofs content entry of_sheet told =
    by_record (has_return content) (record_of content) told
  where
    by_record : (returns : Bool) (found : Option (List (List ℕ)))
        → (if returns then Err UnknownRecord else entry_if sheet season events proofs found)
        ≡ Ok (Some entry)
        → IsEntryAt season events proofs entry
    by_record true found told = cc
    by_record false None told = cc
    by_record false (Some fields) told =
        entry_may_come sheet season events proofs fields entry of_sheet (given-some _ entry told)

-- so may one that a call answers of a line
pub content_may_come : (sheet : Sheet) (season : Results) (events : ℕ) (proofs : Bool)
    (content : List ℕ) (result : Result (Option Entry) ContentStop) → IsSeasonOf sheet season
    → AnswersContent (entry_in sheet season events proofs content) result
    → IfOk result (λ found. IfSome found (λ entry. IsEntryAt season events proofs entry))
content_may_come sheet season events proofs content (Ok None) of_sheet answer = tt
content_may_come sheet season events proofs content (Ok (Some entry)) of_sheet answer =
    line_may_come sheet season events proofs content entry of_sheet answer
content_may_come sheet season events proofs content (Err stop) of_sheet answer = tt

-- or of the line that it passed last
pub there_may_come : (sheet : Sheet) (season : Results) (events : ℕ) (proofs : Bool)
    (text : List ℕ) (result : Result Entry FeedStop) → IsSeasonOf sheet season
    → IsParsedThere (λ told. told) (entry_of sheet season events proofs) text result
    → IfOk result (λ entry. IsEntryAt season events proofs entry)
there_may_come sheet season events proofs text (Ok (Change event)) of_sheet there =
    line_may_come sheet season events proofs text (Change event) of_sheet
    (there (λ (is : Change event ≡ End). cc))
there_may_come sheet season events proofs text (Ok Ask) of_sheet there = tt
there_may_come sheet season events proofs text (Ok Proofs) of_sheet there =
    line_may_come sheet season events proofs text Proofs of_sheet
    (there (λ (is : Proofs ≡ End). cc))
there_may_come sheet season events proofs text (Ok End) of_sheet there = tt
there_may_come sheet season events proofs text (Err stop) of_sheet there = tt

-- so may one that is read in a line or after it
line_reading_may_come : (sheet : Sheet) (season : Results) (events : ℕ) (proofs : Bool)
    (line : ℕ × List ℕ) (rest : Contents) (onward : EntryReading) (entry : Entry)
    → IsSeasonOf sheet season → (onward.gives ≡ Ok entry → IsEntryAt season events proofs entry)
    → (found : Result (Option Entry) FeedFault)
    → entry_in sheet season events proofs line.1 ≡ found
    → (entry_reading_by line.0 rest onward found).gives ≡ Ok entry
    → IsEntryAt season events proofs entry
line_reading_may_come sheet season events proofs line rest onward entry of_sheet behind
    (Ok None) is gives =
    behind gives
line_reading_may_come sheet season events proofs line rest onward entry of_sheet behind
    (Ok (Some other)) is gives =
    let same : other ≡ entry = cc in
    line_may_come sheet season events proofs line.1 entry of_sheet
    (is ∙ ap (λ (given : Entry). Ok (Some given)) same)
line_reading_may_come sheet season events proofs line rest onward entry of_sheet behind
    (Err fault) is gives = cc

reading_may_come : (sheet : Sheet) (season : Results) (events : ℕ) (proofs : Bool)
    (lines : List (ℕ × List ℕ)) (ending : Result ℕ ReadStop) (entry : Entry)
    → IsSeasonOf sheet season
    → (entry_reading_from (entry_in sheet season events proofs) lines ending).gives ≡ Ok entry
    → IsEntryAt season events proofs entry
reading_may_come sheet season events proofs [] (Ok number) entry of_sheet gives =
    let is : End ≡ entry = cc in subst (IsEntryAt season events proofs) is tt
reading_may_come sheet season events proofs [] (Err stop) entry of_sheet gives = cc
reading_may_come sheet season events proofs (line ∷ lines) ending entry of_sheet gives =
    line_reading_may_come sheet season events proofs line
    (record { lines = lines; ending = ending })
    (entry_reading_from (entry_in sheet season events proofs) lines ending) entry of_sheet
    (reading_may_come sheet season events proofs lines ending entry of_sheet)
    (entry_in sheet season events proofs line.1) refl gives

pub contents_may_come : (sheet : Sheet) (season : Results) (events : ℕ) (proofs : Bool)
    (contents : Contents) (entry : Entry) → IsSeasonOf sheet season
    → (entry_reading_of (entry_in sheet season events proofs) contents).gives ≡ Ok entry
    → IsEntryAt season events proofs entry
contents_may_come sheet season events proofs contents entry of_sheet gives =
    reading_may_come sheet season events proofs contents.lines contents.ending entry of_sheet gives

-- ---- the whole feed

-- a feed is its first entry and what comes after it: a line more
feed_by-first : (sheet : Sheet) (proofs : Bool) (events : List Event) (number : ℕ)
    (rest : Contents) (onward : EntryReading)
    → feed_from sheet proofs rest.lines rest.ending events
    ≡ feed_after sheet proofs events onward.rest onward.gives
    → (found : Result (Option Entry) FeedFault)
    → feed_by number rest (feed_from sheet proofs rest.lines rest.ending) events found
    ≡ feed_after sheet proofs events (entry_reading_by number rest onward found).rest
    (entry_reading_by number rest onward found).gives
feed_by-first sheet proofs events number rest onward behind (Ok None) = behind
feed_by-first sheet proofs events number rest onward behind (Ok (Some (Change event))) = refl
feed_by-first sheet proofs events number rest onward behind (Ok (Some Ask)) = refl
feed_by-first sheet proofs events number rest onward behind (Ok (Some Proofs)) = refl
feed_by-first sheet proofs events number rest onward behind (Ok (Some End)) = refl
feed_by-first sheet proofs events number rest onward behind (Err fault) = refl

feed_from-first : (sheet : Sheet) (proofs : Bool) (events : List Event)
    (lines : List (ℕ × List ℕ)) (ending : Result ℕ ReadStop)
    → feed_from sheet proofs lines ending events
    ≡ feed_after sheet proofs events
    (entry_reading_from (entry_in sheet (season_after sheet events) (epoch_of events) proofs)
    lines ending).rest
    (entry_reading_from (entry_in sheet (season_after sheet events) (epoch_of events) proofs)
    lines ending).gives
feed_from-first sheet proofs events [] (Ok number) = refl
feed_from-first sheet proofs events [] (Err stop) = refl
feed_from-first sheet proofs events (line ∷ lines) ending =
    feed_by-first sheet proofs events line.0 (record { lines = lines; ending = ending })
    (entry_reading_from (entry_in sheet (season_after sheet events) (epoch_of events) proofs)
    lines ending)
    (feed_from-first sheet proofs events lines ending)
    (entry_in sheet (season_after sheet events) (epoch_of events) proofs line.1)

pub feed_of-first : (sheet : Sheet) (proofs : Bool) (contents : Contents) (events : List Event)
    → feed_of sheet proofs contents events
    ≡ feed_after sheet proofs events
    (entry_reading_of (entry_in sheet (season_after sheet events) (epoch_of events) proofs)
    contents).rest
    (entry_reading_of (entry_in sheet (season_after sheet events) (epoch_of events) proofs)
    contents).gives
feed_of-first sheet proofs contents events =
    feed_from-first sheet proofs events contents.lines contents.ending

-- season and number of events after an entry
pub season_after-entry : (sheet : Sheet) (events : List Event) (entry : Entry)
    → (season_after sheet (events_with events entry)
    ≡ season_with (season_after sheet events) entry)
    × (epoch_of (events_with events entry) ≡ count_with (epoch_of events) entry)
season_after-entry sheet events (Change event) =
    (season_after-push sheet events event, length_push events event)
season_after-entry sheet events Ask = (refl, refl)
season_after-entry sheet events Proofs = (refl, refl)
season_after-entry sheet events End = (refl, refl)

-- events of the sheet, and not too many, are so with one that may come
log-with : (sheet : Sheet) (events : List Event) (proofs : Bool) (event : Event)
    → AreEventsOf sheet events
    → IsEntryAt (season_after sheet events) (epoch_of events) proofs (Change event)
    → AreEventsOf sheet (events ++ event ∷ []) × (epoch_of (events ++ event ∷ []) ≤ most_events)
log-with sheet events proofs event events_of may_come =
    let more = length_push events event in
    let room = may_come.1 in
    (AreEventsOf-push sheet events event events_of may_come.0, omega arith)

-- a line more
feed_by-log : (sheet : Sheet) (proofs : Bool) (number : ℕ) (rest : Contents) (content : List ℕ)
    (events : List Event) → AreEventsOf sheet events → epoch_of events ≤ most_events
    → ((more : List Event) → AreEventsOf sheet more → epoch_of more ≤ most_events
    → KeepsLog sheet more (feed_from sheet proofs rest.lines rest.ending more))
    → (found : Result (Option Entry) FeedFault)
    → entry_in sheet (season_after sheet events) (epoch_of events) proofs content ≡ found
    → KeepsLog sheet events
    (feed_by number rest (feed_from sheet proofs rest.lines rest.ending) events found)
feed_by-log sheet proofs number rest content events events_of room behind
    (Ok None) is =
    behind events events_of room
feed_by-log sheet proofs number rest content events events_of room behind
    (Ok (Some (Change event))) is =
    let log = log-with sheet events proofs event events_of
    (line_may_come sheet (season_after sheet events) (epoch_of events) proofs content (Change event)
    (season_after_of sheet events) is) in
    behind (events ++ event ∷ []) log.0 log.1
feed_by-log sheet proofs number rest content events events_of room behind
    (Ok (Some Ask)) is =
    behind events events_of room
feed_by-log sheet proofs number rest content events events_of room behind
    (Ok (Some Proofs)) is =
    (events_of, room)
feed_by-log sheet proofs number rest content events events_of room behind
    (Ok (Some End)) is =
    (events_of, room)
feed_by-log sheet proofs number rest content events events_of room behind
    (Err fault) is =
    (events_of, room)

feed_from-log : (sheet : Sheet) (proofs : Bool) (lines : List (ℕ × List ℕ))
    (ending : Result ℕ ReadStop) (events : List Event)
    → AreEventsOf sheet events → epoch_of events ≤ most_events
    → KeepsLog sheet events (feed_from sheet proofs lines ending events)
feed_from-log sheet proofs [] ending events events_of room = (events_of, room)
feed_from-log sheet proofs (line ∷ lines) ending events events_of room =
    feed_by-log sheet proofs line.0 (record { lines = lines; ending = ending }) line.1 events
    events_of room (feed_from-log sheet proofs lines ending)
    (entry_in sheet (season_after sheet events) (epoch_of events) proofs line.1) refl

-- a feed's events are events of the sheet, and not too many
pub feed_of-log : (sheet : Sheet) (proofs : Bool) (contents : Contents) (events : List Event)
    → AreEventsOf sheet events → epoch_of events ≤ most_events
    → KeepsLog sheet events (feed_of sheet proofs contents events)
feed_of-log sheet proofs contents events events_of room =
    feed_from-log sheet proofs contents.lines contents.ending events events_of room
