-- std's readers and writers as devices: what becomes of the bytes of the reader or writer itself,
-- if those are known.
use Rattle.std.specs.Prelude.{◌≡◌, ℕ, Bool, List, take, Option}
use Rattle.std.specs.Io.KnownBytes.{Appends, Consumes, IsAtEnd, Keeps}
use Rattle.port_core.specs.declared.ports.Got.{Got}
use Rattle.port_core.specs.declared.ports.Got.TheVariants.{Bytes}
use Rattle.port_core.specs.declared.ports.Got.TheVariants as got
use Rattle.port_core.specs.declared.ports.Put.{Put}
use Rattle.port_core.specs.declared.ports.Put.TheVariants.{Took}
use Rattle.port_core.specs.declared.ports.Put.TheVariants as put
use Rattle.port_core.specs.declared.std_ports.StdSource.{StdSource}
use Rattle.port_core.specs.declared.std_ports.StdSink.{StdSink}
use Rattle.port_core.specs.Ports.{IsBytePrefix}

-- the reader of a source over std
abbrev pub reader_of : {I : Type 0} → StdSource I → I
reader_of source = source.input

-- the errors that it gave so far, which stay at the last value of a u64
abbrev pub read_faults : {I : Type 0} → StdSource I → ℕ
read_faults source = source.faults

-- whether a read of it gave no byte so far
abbrev pub has_ended : {I : Type 0} → StdSource I → Bool
has_ended source = source.ended

-- the writer of a sink over std
abbrev pub writer_of : {O : Type 0} → StdSink O → O
writer_of sink = sink.output

-- the calls of it that failed so far, which stay at the last value of a u64
abbrev pub write_faults : {O : Type 0} → StdSink O → ℕ
write_faults sink = sink.faults

-- a read hands on all that the reader gave, and a failed one took nothing from it
abbrev pub HandsOn : Option (List ℕ) → Option (List ℕ) → Got → List ℕ → Type 0
HandsOn old new (Bytes n) into = Consumes old new (take n into) × (n ≡ 0 → IsAtEnd new)
HandsOn old new got.Failed into = Keeps old new

-- a write counts all that the writer took; a failed one may have left it a prefix of the piece
abbrev pub PassesOn : Option (List ℕ) → Option (List ℕ) → Put → List ℕ → Type 0
PassesOn old new (Took n) piece = Appends old new (take n piece)
PassesOn old new put.Failed piece = (part : List ℕ) × IsBytePrefix part piece × Appends old new part
