-- Sources and sinks: what a read or a write does to the bytes that a device shows, and to its count
-- of faults.
use Rattle.std.specs.Prelude.{◌≡◌, ℕ, ◌+◌, ◌-◌, ◌^◌, ◌<◌, ◌≤◌, ◌==◌, Bool, ◌||◌, min, List, ◌++◌}
use Rattle.std.specs.Prelude.{length, take, Option}
use mathlib.Core.List.{IsPrefix}
use Rattle.std.specs.Io.KnownBytes.{prepend_known, append_known, IsAtEnd}
use Rattle.port_core.specs.declared.ports.Got.{Got}
use Rattle.port_core.specs.declared.ports.Got.TheVariants.{Bytes}
use Rattle.port_core.specs.declared.ports.Got.TheVariants as got
use Rattle.port_core.specs.declared.ports.Put.{Put}
use Rattle.port_core.specs.declared.ports.Put.TheVariants.{Took}
use Rattle.port_core.specs.declared.ports.Put.TheVariants as put

-- the next number of a count that stays at the last value of a u64
abbrev pub next_count : ℕ → ℕ
next_count count = min (count + 1) (2 ^ 64 - 1)

-- a count of faults rose: it is greater than before, or stands at its last value
abbrev pub Rose : ℕ → ℕ → Type 0
Rose before now = (before ≤ now) × (next_count before ≤ now)

-- a read hands on the first of the bytes that were left, none only at their end; a failed one loses
-- none
abbrev pub Reads : Option (List ℕ) → Option (List ℕ) → Got → List ℕ → Type 0
Reads old new (Bytes n) into =
    (n ≤ length into) × (old ≡ prepend_known (take n into) new) × (n ≡ 0 → IsAtEnd new)
Reads old new got.Failed into = old ≡ new

-- a read fails only if the count of faults rose; one that does not fail leaves the count
abbrev pub CountsRead : ℕ → ℕ → Got → Type 0
CountsRead before now (Bytes n) = now ≡ before
CountsRead before now got.Failed = Rose before now

-- this holds of the bytes that a read gave, if it did not fail
abbrev pub HoldsOfRead : (List ℕ → Type 0) → Got → List ℕ → Type 0
HoldsOfRead fact (Bytes n) into = fact (take n into)
HoldsOfRead fact got.Failed into = Unit {0}

-- the first read that gives no byte marks the end, and it stays marked
abbrev pub TellsEnd : Bool → Bool → Got → Type 0
TellsEnd before now (Bytes n) = now ≡ (before || n == 0)
TellsEnd before now got.Failed = now ≡ before

-- a write takes a byte at least, and puts what it takes after the bytes that the sink holds; a
-- failed one takes none
abbrev pub Writes : Option (List ℕ) → Option (List ℕ) → Put → List ℕ → Type 0
Writes old new (Took n) piece =
    (0 < n) × (n ≤ length piece) × (new ≡ append_known old (take n piece))
Writes old new put.Failed piece = new ≡ old

-- a write fails only if the count of faults rose; one that does not fail leaves the count
abbrev pub CountsWrite : ℕ → ℕ → Put → Type 0
CountsWrite before now (Took n) = now ≡ before
CountsWrite before now put.Failed = Rose before now

-- a text begins with these bytes
abbrev pub IsBytePrefix : List ℕ → List ℕ → Type 0
IsBytePrefix part text = IsPrefix part text

-- a sink took some prefix of a text, perhaps none of it
abbrev pub AppendsPrefix : Option (List ℕ) → Option (List ℕ) → List ℕ → Type 0
AppendsPrefix old new text = (part : List ℕ) × IsBytePrefix part text
    × (new ≡ append_known old part)

-- two texts put after known bytes one after the other are their joined text put there at once
abbrev pub AppendsInTurn : Type 0
AppendsInTurn = (known : Option (List ℕ)) (first second : List ℕ)
    → append_known (append_known known first) second ≡ append_known known (first ++ second)
