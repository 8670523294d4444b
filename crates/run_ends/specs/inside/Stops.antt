-- Why an input is read no further, as one plain word for the sheet and the feed, and how that
-- ends a run: what it leaves of the sink's bytes, and of its count of faults.
use Rattle.std.specs.Prelude.{◌≡◌, ℕ, List, Option}
use Rattle.std.specs.Io.KnownBytes.{append_known}
use Rattle.port_core.specs.Ports.{AppendsPrefix, Rose}
use Rattle.port_core.specs.declared.line.ReadStop.{ReadStop}
use Rattle.port_core.specs.declared.line.ReadStop.TheVariants as read_stop
use Rattle.fixture_sheet.specs.Sheets.{SheetStop}
use Rattle.fixture_sheet.specs.declared.fault.ReadingStop.TheVariants as sheet_stop
use Rattle.cup_sheet.specs.CupReadings.{CupStop}
use Rattle.result_log.specs.declared.fault.FeedStop.{FeedStop}
use Rattle.result_log.specs.declared.fault.FeedStop.TheVariants as feed_stop
use Rattle.run_ends.specs.declared.status.Status.{Status}
use Rattle.run_ends.specs.declared.status.Status.TheVariants as status
use Rattle.run_ends.specs.declared.run_end.Cause.TheVariants as cause
use Rattle.run_ends.specs.declared.run_end.Fault.{Fault}
use Rattle.run_ends.specs.declared.refuse.InputStop.{InputStop}
use Rattle.run_ends.specs.declared.refuse.InputStop.TheVariants.{Refused, ReadFault, OutOfMemory}
use Rattle.run_ends.specs.InputEnds.{input_fault, line_fault, status_of_cause}
use Rattle.run_ends.specs.Rows.{fault_row}

-- ---- why it is read no further

-- the reader stopped
abbrev pub stop_of_read : ReadStop → InputStop
stop_of_read read_stop.ReadFault = ReadFault
stop_of_read (read_stop.LineTooLong number) = Refused (line_fault number)
stop_of_read (read_stop.InputTooLong number) = Refused (input_fault number)

-- no sheet is given
abbrev pub stop_of_sheet : SheetStop → InputStop
stop_of_sheet (sheet_stop.Fault number fault) =
    Refused (record { number = number; cause = cause.Sheet fault })
stop_of_sheet (sheet_stop.Read stop) = stop_of_read stop
stop_of_sheet sheet_stop.OutOfMemory = OutOfMemory

-- no cup is given
abbrev pub stop_of_cup : CupStop → InputStop
stop_of_cup (sheet_stop.Fault number fault) =
    Refused (record { number = number; cause = cause.Cup fault })
stop_of_cup (sheet_stop.Read stop) = stop_of_read stop
stop_of_cup sheet_stop.OutOfMemory = OutOfMemory

-- the feed stopped
abbrev pub stop_of_feed : FeedStop → InputStop
stop_of_feed (feed_stop.Fault number fault) =
    Refused (record { number = number; cause = cause.Feed fault })
stop_of_feed (feed_stop.Read stop) = stop_of_read stop
stop_of_feed feed_stop.OutOfMemory = OutOfMemory

-- ---- how that ends a run

-- how a fault ends a run: its row is written and its status is the run's, or a device or memory
-- fails
abbrev pub FaultEnds : Fault → Option (List ℕ) → Option (List ℕ) → Status → Type 0
FaultEnds fault old now status.OutOfMemory = now ≡ old
FaultEnds fault old now status.WriteFault = AppendsPrefix old now (fault_row fault)
FaultEnds fault old now status =
    (status_of_cause fault.cause ≡ status) × (now ≡ append_known old (fault_row fault))

-- how a stop ends it
abbrev pub StopEnds : InputStop → Option (List ℕ) → Option (List ℕ) → Status → Type 0
StopEnds (Refused fault) old now status = FaultEnds fault old now status
StopEnds ReadFault old now end = (end ≡ status.ReadFault) × (now ≡ old)
StopEnds OutOfMemory old now end = (end ≡ status.OutOfMemory) × (now ≡ old)

-- what it leaves of the sink's count of faults, if only the sink may fail
abbrev pub CountsEnd : ℕ → ℕ → Status → Type 0
CountsEnd writes writes' status.ReadFault = ⊥
CountsEnd writes writes' status.BadWords = ⊥
CountsEnd writes writes' status.NotProved = ⊥
CountsEnd writes writes' status.WriteFault = Rose writes writes'
CountsEnd writes writes' status = writes' ≡ writes

-- the same after a stop: a run fails by the source if the source failed
abbrev pub CountsStop : InputStop → ℕ → ℕ → Status → Type 0
CountsStop ReadFault writes writes' end = (end ≡ status.ReadFault) × (writes' ≡ writes)
CountsStop stop writes writes' status = CountsEnd writes writes' status
