-- Where the reading of an entry stops: at the read that completes it. The way there is over lines
-- that hold no record; in a round it is over lines that tell events too.
use Rattle.std.specs.Prelude.{◌≡◌, ℕ, List, All, Option, None, Some, option_map, Result, Ok, Err}
use Rattle.league_core.specs.declared.season.Event.{Event}
use Rattle.port_core.specs.declared.line.ReadStop.TheVariants.{ReadFault}
use Rattle.port_core.specs.Contents.{Contents, with_lines}
use Rattle.port_core.specs.Readers.{LineReaderView}
use Rattle.port_core.specs.inside.ReaderCalls.{ReadsInNeed}
use Rattle.fixture_sheet.specs.LastReads.{ReadsOnWay}
use Rattle.result_log.specs.declared.entry.Entry.{Entry}
use Rattle.result_log.specs.declared.fault.FeedStop.{FeedStop}
use Rattle.result_log.specs.declared.fault.FeedStop.TheVariants.{Read}
use Rattle.result_log.specs.inside.FeedParts.{LineEntry, LiveReading}
use Rattle.result_log.specs.inside.Rounds.{ReadsEvents}

-- ---- an entry

-- lines were given, and none of them holds a record
abbrev pub GivesBlank : LineEntry → Option Contents → Option Contents → Type 0
GivesBlank entry before after =
    (blank : List (ℕ × List ℕ)) × All (λ line. entry line.1 ≡ Ok None) blank
    × (before ≡ option_map (with_lines blank) after)

-- reading stops at the read that completes the entry, the line that is refused, the end or the
-- stop, unless the source failed
abbrev pub StopsAtEntry : {S : Type 0} → (S → Option (List ℕ)) → (S → List ℕ → S → Type 0)
    → LineEntry → LineReaderView → LineReaderView → S → S → Result Entry FeedStop → Type 0
StopsAtEntry left reads entry old new before after (Err (Read ReadFault)) = Unit {0}
StopsAtEntry left reads entry old new before after _ =
    ReadsOnWay left reads (GivesBlank entry) old new before after

-- the same of one line
abbrev pub StopsAtRecord : {S : Type 0} → (S → Option (List ℕ)) → (S → List ℕ → S → Type 0)
    → LineReaderView → LineReaderView → S → S → Option (Result Entry FeedStop) → Type 0
StopsAtRecord left reads old new before after (Some (Err (Read ReadFault))) = Unit {0}
StopsAtRecord left reads old new before after _ = ReadsInNeed left reads old new before after

-- ---- a round

-- lines were given that tell some events, and nothing else
abbrev pub GivesEvents : LiveReading → List Event → Option Contents → Option Contents → Type 0
GivesEvents live log before after =
    (lines : List (ℕ × List ℕ)) × (log' : List Event) × ReadsEvents live log lines log'
    × (before ≡ option_map (with_lines lines) after)

-- reading stops at the read that completes what ends the round, unless the source failed
abbrev pub StopsAtClose : {S : Type 0} → (S → Option (List ℕ)) → (S → List ℕ → S → Type 0)
    → LiveReading → List Event → LineReaderView → LineReaderView → S → S
    → Result Entry FeedStop → Type 0
StopsAtClose left reads live log old new before after (Err (Read ReadFault)) = Unit {0}
StopsAtClose left reads live log old new before after _ =
    ReadsOnWay left reads (GivesEvents live log) old new before after
