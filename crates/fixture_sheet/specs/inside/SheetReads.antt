-- Where reading stops in the calls that read a sheet.
use Rattle.std.specs.Prelude.{ℕ, List, Option, Result, Err}
use Rattle.port_core.specs.declared.line.ReadStop.TheVariants.{ReadFault}
use Rattle.port_core.specs.Contents.{Contents}
use Rattle.port_core.specs.Readers.{LineReaderView}
use Rattle.port_core.specs.inside.ReaderCalls.{ReadsInNeed}
use Rattle.fixture_sheet.specs.declared.fault.ReadingStop.{ReadingStop}
use Rattle.fixture_sheet.specs.declared.fault.ReadingStop.TheVariants.{Read}
use Rattle.fixture_sheet.specs.inside.Calls.{Leads}
use Rattle.fixture_sheet.specs.LastReads.{ReadsOnWay}
use Rattle.fixture_sheet.specs.Readings.{SheetRules}

-- lines led to some sheet so far, and not to the sheet
abbrev pub LeadsToDraft : {D W F : Type 0} → SheetRules D W F → Option Contents
    → Option Contents → Type 0
LeadsToDraft {D} rules before after = (draft : Option D) × Leads rules before after draft

-- reading stops at the read that completes the record `season`, the line that is refused, the end
-- or the stop, unless the source failed
abbrev pub StopsAtSheet : {S D W F : Type 0} → SheetRules D W F → (S → Option (List ℕ))
    → (S → List ℕ → S → Type 0) → LineReaderView → LineReaderView → S → S
    → Result W (ReadingStop F) → Type 0
StopsAtSheet rules left reads old new before after (Err (Read ReadFault)) = Unit {0}
StopsAtSheet rules left reads old new before after _ =
    ReadsOnWay left reads (LeadsToDraft rules) old new before after

-- the same of one record
abbrev pub StopsAtLine : {S A F : Type 0} → (S → Option (List ℕ)) → (S → List ℕ → S → Type 0)
    → LineReaderView → LineReaderView → S → S → Result A (ReadingStop F) → Type 0
StopsAtLine left reads old new before after (Err (Read ReadFault)) = Unit {0}
StopsAtLine left reads old new before after _ = ReadsInNeed left reads old new before after
