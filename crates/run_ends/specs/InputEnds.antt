-- How an input ends: why it is read no further, and the status of that.
use Rattle.std.specs.Prelude.{ℕ}
use Rattle.port_core.specs.declared.line.ReadStop.{ReadStop}
use Rattle.port_core.specs.declared.line.ReadStop.TheVariants as stop
use Rattle.fixture_sheet.specs.Sheets.{SheetStop}
use Rattle.fixture_sheet.specs.declared.fault.ReadingStop.TheVariants as sheet_stop
use Rattle.cup_sheet.specs.CupReadings.{CupStop}
use Rattle.run_ends.specs.declared.status.Status.{Status}
use Rattle.run_ends.specs.declared.status.Status.TheVariants.{Done, BadSheet, BadFeed, TooLong}
use Rattle.run_ends.specs.declared.run_end.Cause.{Cause}
use Rattle.run_ends.specs.declared.run_end.Cause.TheVariants as cause
use Rattle.run_ends.specs.declared.run_end.Fault.{Fault}
use Rattle.run_ends.specs.declared.run_end.RunEnd.{RunEnd}
use Rattle.run_ends.specs.declared.run_end.RunEnd.TheVariants.{Complete, Refused}

-- ---- why it is read no further

-- the fault of a line that is too long
abbrev pub line_fault : ℕ → Fault
line_fault number = record { number = number; cause = cause.LineTooLong }

-- the fault of an input that is too long
abbrev pub input_fault : ℕ → Fault
input_fault number = record { number = number; cause = cause.InputTooLong }

-- the fault of a line that no saved text has there, or of an end before it is whole
abbrev pub save_fault : ℕ → Fault
save_fault number = record { number = number; cause = cause.BadSave }

-- where reading stops because a line, or all of the input, is too long; that the source failed, no
-- input says
abbrev pub outcome_at_stop : ReadStop → RunEnd
outcome_at_stop (stop.LineTooLong number) = Refused (line_fault number)
outcome_at_stop (stop.InputTooLong number) = Refused (input_fault number)
outcome_at_stop stop.ReadFault = Complete

-- where no sheet comes; that memory ran out, no input says
abbrev pub outcome_at_sheet : SheetStop → RunEnd
outcome_at_sheet (sheet_stop.Fault number fault) =
    Refused (record { number = number; cause = cause.Sheet fault })
outcome_at_sheet (sheet_stop.Read stop) = outcome_at_stop stop
outcome_at_sheet sheet_stop.OutOfMemory = Complete

-- where no cup comes
abbrev pub outcome_at_cup : CupStop → RunEnd
outcome_at_cup (sheet_stop.Fault number fault) =
    Refused (record { number = number; cause = cause.Cup fault })
outcome_at_cup (sheet_stop.Read stop) = outcome_at_stop stop
outcome_at_cup sheet_stop.OutOfMemory = Complete

-- ---- the status

-- the status of a session that a fault ends
abbrev pub status_of_cause : Cause → Status
status_of_cause (cause.Sheet fault) = BadSheet
status_of_cause (cause.Cup fault) = BadSheet
status_of_cause (cause.Feed fault) = BadFeed
status_of_cause cause.LineTooLong = TooLong
status_of_cause cause.InputTooLong = TooLong
status_of_cause cause.BadSave = BadFeed

-- the status of a session that ends so
abbrev pub status_of_outcome : RunEnd → Status
status_of_outcome Complete = Done
status_of_outcome (Refused fault) = status_of_cause fault.cause
