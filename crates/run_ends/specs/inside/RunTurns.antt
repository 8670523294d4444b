-- What a turn of a session leaves: of the sink's bytes, at an ask that ends it and at the end of
-- its input, and of the counts of faults.
use Rattle.std.specs.Prelude.{◌≡◌, ◌⊎◌, ℕ, List, Option}
use Rattle.std.specs.Io.KnownBytes.{append_known}
use Rattle.answer_rows.specs.inside.Outputs.{PutsSomePrefix}
use Rattle.run_ends.specs.declared.status.Status.{Status}
use Rattle.run_ends.specs.declared.status.Status.TheVariants.{Done, BadWords}
use Rattle.run_ends.specs.declared.status.Status.TheVariants.{WriteFault, OutOfMemory, NotProved}

-- how an ask ends a run, if it does: by a prefix of an answer, or, if memory ran out, nothing
abbrev pub AskEnds : (List ℕ → Type 0) → Option (List ℕ) → Option (List ℕ) → Status → Type 0
AskEnds IsAnswer old now OutOfMemory = (now ≡ old) ⊎ PutsSomePrefix IsAnswer old now
AskEnds IsAnswer old now WriteFault = PutsSomePrefix IsAnswer old now
AskEnds IsAnswer old now status = ⊥

-- how the end of the input ends a run: what is written last is written, or a prefix of it
abbrev pub EndGives : (List ℕ → Type 0) → Option (List ℕ) → Option (List ℕ) → Status → Type 0
EndGives IsLast old now Done = (last : List ℕ) × IsLast last × (now ≡ append_known old last)
EndGives IsLast old now WriteFault = PutsSomePrefix IsLast old now
EndGives IsLast old now OutOfMemory = (now ≡ old) ⊎ PutsSomePrefix IsLast old now
EndGives IsLast old now status = ⊥

-- a session does not end so that the words fit no mode, nor so that a report is no proof
abbrev pub MayEndSession : Status → Type 0
MayEndSession BadWords = ⊥
MayEndSession NotProved = ⊥
MayEndSession status = Unit {0}
