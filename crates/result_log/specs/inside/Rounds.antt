-- A round of a live input: lines are passed one after another, and each event that one of them
-- tells comes after the events before it, up to what ends the round. What a line is as an entry
-- depends on the events before it, so that what is told at once is what a reader of the whole feed
-- is told. Which lines are entries is left open here: a feed is one reading of them.
use Rattle.std.specs.Prelude.{◌≡◌, ◌≤◌, ℕ, Bool, false, List, [], ◌∷◌, ◌++◌, Option, None, Some}
use Rattle.std.specs.Prelude.{IfSome, Result, Ok, Err}
use Rattle.league_core.specs.declared.sheet.Sheet.{Sheet}
use Rattle.league_core.specs.declared.season.Event.{Event}
use Rattle.port_core.specs.declared.line.ReadStop.TheVariants as stop
use Rattle.port_core.specs.Contents.{Contents, ended}
use Rattle.port_core.specs.Readers.{LineReaderView, TakesInput, contents_to_come}
use Rattle.port_core.specs.inside.ReaderCalls.{LeavesReader, PassesTo, given_by}
use Rattle.result_log.specs.declared.entry.Entry.{Entry}
use Rattle.result_log.specs.declared.entry.Entry.TheVariants as entry
use Rattle.result_log.specs.declared.fault.FeedFault.{FeedFault}
use Rattle.result_log.specs.declared.fault.FeedStop.{FeedStop}
use Rattle.result_log.specs.declared.fault.FeedStop.TheVariants as feed_stop
use Rattle.result_log.specs.inside.Calls.{ComesOf, CountsEntry, MovesToEntry, PassesToEntry}
use Rattle.result_log.specs.inside.Calls.{entry_answer_after}
use Rattle.result_log.specs.inside.FeedParts.{LineEntry, LiveReading, entry_after}

-- ---- what lines tell

-- a feed that is live is read so: no proofs follow it
abbrev pub live_entry : Sheet → LiveReading
live_entry sheet = entry_after sheet false

-- the events after a line: one more if it tells one; a line that asks, that is refused or that ends
-- the feed tells none
abbrev pub read_on : Result (Option Entry) FeedFault → (List Event → Type 0) → List Event → Type 0
read_on (Ok None) onward log = onward log
read_on (Ok (Some (entry.Change event))) onward log = onward (log ++ event ∷ [])
read_on (Ok (Some entry.Ask)) onward log = ⊥
read_on (Ok (Some entry.Proofs)) onward log = ⊥
read_on (Ok (Some entry.End)) onward log = ⊥
read_on (Err fault) onward log = ⊥

-- each of these lines tells an event, or holds no record, and after all of them these are the
-- events
abbrev pub ReadsEvents : LiveReading → List Event → List (ℕ × List ℕ) → List Event → Type 0
ReadsEvents live log [] log' = log' ≡ log
ReadsEvents live log (line ∷ lines) log' =
    read_on (live log line.1) (λ next. ReadsEvents live next lines log') log

-- ---- what a round passes

-- where a round stands: the reader; the bytes that the source has left, if it shows them; whether
-- it has shown its end; its count of faults
pub record Spot : Type 0 where
  pub reader : LineReaderView
  pub left : Option (List ℕ)
  pub ended : Bool
  pub faults : ℕ

-- the spot of this reader, at a source of which this is known
abbrev pub spot_of : LineReaderView → Option (List ℕ) → Bool → ℕ → Spot
spot_of reader left ended faults =
    record { reader = reader; left = left; ended = ended; faults = faults }

-- a reader went from one spot to another, over lines that give these contents
abbrev pub Crosses : Spot → Spot → List (ℕ × List ℕ) → Type 0
Crosses old new lines =
    PassesTo old.reader new.reader old.left new.left old.ended new.ended lines

-- it took bytes of the source on the way
abbrev pub TakesAlong : Spot → Spot → Type 0
TakesAlong old new = TakesInput old.reader new.reader old.left new.left

-- a round goes on: the lines passed tell these events, and nothing else, and no read failed
pub record IsUnderWay (live : LiveReading) (log log' : List Event) (old new : Spot) : Type 0 where
  pub lines : List (ℕ × List ℕ)
  pub tells : ReadsEvents live log lines log'
  pub passes : Crosses old new lines
  pub takes : TakesAlong old new
  pub forth : old.reader.position.bytes ≤ new.reader.position.bytes
  pub counts : new.faults ≡ old.faults

-- lines were passed that tell some events, and nothing else
abbrev pub BreaksOff : LiveReading → List Event → Spot → Spot → Type 0
BreaksOff live log old new = (log' : List Event) × IsUnderWay live log log' old new

-- if reading stopped for good, nothing is to come but that stop
abbrev pub StopsThere : Result Entry FeedStop → Option Contents → Type 0
StopsThere (Ok told) after = Unit {0}
StopsThere (Err (feed_stop.Fault number fault)) after = Unit {0}
StopsThere (Err (feed_stop.Read stop.ReadFault)) after = Unit {0}
StopsThere (Err (feed_stop.Read (stop.LineTooLong number))) after =
    IfSome after (λ contents. contents ≡ ended (Err (stop.LineTooLong number)))
StopsThere (Err (feed_stop.Read (stop.InputTooLong number))) after =
    IfSome after (λ contents. contents ≡ ended (Err (stop.InputTooLong number)))
StopsThere (Err feed_stop.OutOfMemory) after = Unit {0}

-- a round is over. The contents passed: all but the last tell these events, and nothing else; the
-- last is what the end of the round says, read after all of them. Then where the reader is left,
-- what is to come after a stop, what it took, that an ask moves it on, and that a read failed only
-- if the source counted a fault
pub record EndsRound (live : LiveReading) (log log' : List Event) (old new : Spot)
    (close : Result Entry FeedStop) : Type 0 where
  pub lines : List (ℕ × List ℕ)
  pub tells : ReadsEvents live log lines log'
  pub passes : Crosses old new
      (lines ++ given_by (entry_answer_after new.reader close) new.reader.text)
  pub comes : ComesOf (live log') new.reader.text close
  pub leaves : LeavesReader new.reader new.left (entry_answer_after new.reader close)
  pub stops : StopsThere close (contents_to_come new.reader new.left)
  pub takes : TakesAlong old new
  pub moves : MovesToEntry old.reader new.reader close
  pub cause : CountsEntry old.faults new.faults close

-- the next entry was read, or there is none: all that is known of the reader and the source
pub record IsNextEntry (found : LineEntry) (old new : Spot) (result : Result Entry FeedStop)
    : Type 0 where
  pub passes : PassesToEntry found old.reader new.reader old.left new.left old.ended new.ended
      result
  pub leaves : LeavesReader new.reader new.left (entry_answer_after new.reader result)
  pub stops : StopsThere result (contents_to_come new.reader new.left)
  pub takes : TakesAlong old new
  pub moves : MovesToEntry old.reader new.reader result
  pub cause : CountsEntry old.faults new.faults result
