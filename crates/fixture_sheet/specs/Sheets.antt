-- The sheet of a league that an input's contents are, or what comes in its place: the first refusal
-- of the first line that is refused, with its number, or the stop of the input.
use Rattle.std.specs.Prelude.{ℕ, List, Option, Result}
use Rattle.league_core.specs.declared.sheet.Sheet.{Sheet}
use Rattle.port_core.specs.declared.line.ReadStop.{ReadStop}
use Rattle.port_core.specs.Contents.{Contents}
use Rattle.fixture_sheet.specs.declared.fault.SheetFault.{SheetFault}
use Rattle.fixture_sheet.specs.declared.fault.ReadingStop.{ReadingStop}
use Rattle.fixture_sheet.specs.Readings.{ReadingOf, reading_from, reading_of}
use Rattle.fixture_sheet.specs.Records.{sheet_rules}

-- why a league's sheet is not given
abbrev pub SheetStop : Type 0
SheetStop = ReadingStop SheetFault

-- a reading of a league's sheet
abbrev pub SheetReading : Type 0
SheetReading = ReadingOf Sheet SheetFault

-- the reading of these lines and this ending, from a sheet so far on
abbrev pub sheet_reading_from : List (ℕ × List ℕ) → Result ℕ ReadStop → Option Sheet → SheetReading
sheet_reading_from = reading_from sheet_rules

-- the same of contents
abbrev pub sheet_reading_of : Contents → Option Sheet → SheetReading
sheet_reading_of = reading_of sheet_rules
