-- What the one row of a check or of a sample leaves of the sink.
use Rattle.std.specs.Prelude.{◌≡◌, ℕ, List, Option}
use Rattle.std.specs.Io.KnownBytes.{append_known}
use Rattle.port_core.specs.Ports.{AppendsPrefix, Rose}
use Rattle.run_ends.specs.declared.status.Status.{Status}
use Rattle.run_ends.specs.declared.status.Status.TheVariants.{BadWords, ReadFault, WriteFault}
use Rattle.run_ends.specs.declared.status.Status.TheVariants.{OutOfMemory}

-- a status that what an input comes to has: neither a device nor memory failed, and the words fit
abbrev pub IsStatusOfCheck : Status → Type 0
IsStatusOfCheck ReadFault = ⊥
IsStatusOfCheck BadWords = ⊥
IsStatusOfCheck WriteFault = ⊥
IsStatusOfCheck OutOfMemory = ⊥
IsStatusOfCheck status = Unit {0}

-- the row is written and the status is that of a check, or a device or memory fails
abbrev pub JudgedEnds : List ℕ → Status → Option (List ℕ) → Option (List ℕ) → Status → Type 0
JudgedEnds row judged old now OutOfMemory = now ≡ old
JudgedEnds row judged old now WriteFault = AppendsPrefix old now row
JudgedEnds row judged old now status = (judged ≡ status) × (now ≡ append_known old row)

-- what it leaves of the count of faults: it never fails by the source, nor for the words
abbrev pub CountsJudged : ℕ → ℕ → Status → Type 0
CountsJudged writes writes' ReadFault = ⊥
CountsJudged writes writes' BadWords = ⊥
CountsJudged writes writes' WriteFault = Rose writes writes'
CountsJudged writes writes' status = writes' ≡ writes
