-- The cup that an input's contents are, or what comes in its place: the first refusal of the first
-- line that is refused, with its number, or the stop of the input.
use Rattle.std.specs.Prelude.{ℕ, List, Option, Result}
use Rattle.port_core.specs.declared.line.ReadStop.{ReadStop}
use Rattle.port_core.specs.Contents.{Contents}
use Rattle.fixture_sheet.specs.declared.fault.ReadingStop.{ReadingStop}
use Rattle.fixture_sheet.specs.Readings.{ReadingOf, reading_from, reading_of}
use Rattle.cup_sheet.specs.declared.cup.Cup.{Cup}
use Rattle.cup_sheet.specs.declared.cup.CupDraft.{CupDraft}
use Rattle.cup_sheet.specs.declared.fault.CupFault.{CupFault}
use Rattle.cup_sheet.specs.CupRecords.{cup_rules}

-- why a cup is not given
abbrev pub CupStop : Type 0
CupStop = ReadingStop CupFault

-- a reading of a cup
abbrev pub CupReading : Type 0
CupReading = ReadingOf Cup CupFault

-- the reading of these lines and this ending, from a cup so far on
abbrev pub cup_reading_from : List (ℕ × List ℕ) → Result ℕ ReadStop → Option CupDraft → CupReading
cup_reading_from = reading_from cup_rules

-- the same of contents
abbrev pub cup_reading_of : Contents → Option CupDraft → CupReading
cup_reading_of = reading_of cup_rules
