-- Where the reading of an entry stops for good, nothing is to come but that stop.
use Rattle.std.proofs.Common.{◌≡◌, ℕ, List, [], ◌∷◌, Option, None, Some, IfSome, Result, Ok, Err}
use Rattle.std.proofs.Common.{sym, ap, ◌∙◌}
use Rattle.port_core.specs.declared.line.ReadStop.{ReadStop}
use Rattle.port_core.specs.declared.line.ReadStop.TheVariants.{ReadFault, LineTooLong, InputTooLong}
use Rattle.port_core.specs.Contents.{Contents, ended}
use Rattle.result_log.specs.declared.entry.Entry.{Entry}
use Rattle.result_log.specs.declared.fault.FeedFault.{FeedFault}
use Rattle.result_log.specs.declared.fault.FeedStop.{FeedStop}
use Rattle.result_log.specs.declared.fault.FeedStop.TheVariants.{Fault, Read, OutOfMemory}
use Rattle.result_log.specs.inside.FeedParts.{EntryReading, LineEntry, entry_reading_by}
use Rattle.result_log.specs.inside.FeedParts.{entry_reading_from, entry_reading_of}
use Rattle.result_log.specs.inside.Calls.{ReadsEntry, ReadsEntryAs}
use Rattle.result_log.specs.inside.Rounds.{StopsThere}

stops-by : (number : ℕ) (rest : Contents) (onward : EntryReading) (stop : ReadStop)
    (found : Result (Option Entry) FeedFault)
    → (onward.gives ≡ Err (Read stop) → onward.rest ≡ ended (Err stop))
    → (entry_reading_by number rest onward found).gives ≡ Err (Read stop)
    → (entry_reading_by number rest onward found).rest ≡ ended (Err stop)
stops-by number rest onward stop (Ok None) behind is = behind is
stops-by number rest onward stop (Ok (Some entry)) behind is = cc
stops-by number rest onward stop (Err fault) behind is = cc

stops-from : (entry : LineEntry) (lines : List (ℕ × List ℕ)) (ending : Result ℕ ReadStop)
    (stop : ReadStop) → (entry_reading_from entry lines ending).gives ≡ Err (Read stop)
    → (entry_reading_from entry lines ending).rest ≡ ended (Err stop)
stops-from entry [] (Ok number) stop is = cc
stops-from entry [] (Err own) stop is =
    let same : own ≡ stop = cc in ap (λ (s : ReadStop). ended (Err s)) same
stops-from entry (line ∷ lines) ending stop is =
    stops-by line.0 (record { lines = lines; ending = ending })
    (entry_reading_from entry lines ending) stop (entry line.1)
    (stops-from entry lines ending stop) is

stops-as : (entry : LineEntry) (stop : ReadStop) (before after : Option Contents)
    → ReadsEntryAs entry before after (Err (Read stop))
    → IfSome after (λ contents. contents ≡ ended (Err stop))
stops-as entry stop before None reads = tt
stops-as entry stop None (Some contents) reads = cc
stops-as entry stop (Some from) (Some contents) reads =
    let whole : entry_reading_of entry from
    ≡ record { gives = Err (Read stop); rest = contents } = cc in
    sym (ap (λ (r : EntryReading). r.rest) whole)
    ∙ stops-from entry from.lines from.ending stop (ap (λ (r : EntryReading). r.gives) whole)

-- what a call for the next entry read says so
pub stops-there : (entry : LineEntry) (before after : Option Contents)
    (result : Result Entry FeedStop) → ReadsEntry entry before after result
    → StopsThere result after
stops-there entry before after (Ok told) reads = tt
stops-there entry before after (Err (Fault number fault)) reads = tt
stops-there entry before after (Err (Read ReadFault)) reads = tt
stops-there entry before after (Err (Read (LineTooLong number))) reads =
    stops-as entry (LineTooLong number) before after reads
stops-there entry before after (Err (Read (InputTooLong number))) reads =
    stops-as entry (InputTooLong number) before after reads
stops-there entry before after (Err OutOfMemory) reads = tt
