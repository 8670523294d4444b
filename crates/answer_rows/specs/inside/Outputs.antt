-- What calls leave of the sink's bytes that write an answer row by row.
use Rattle.std.specs.Prelude.{◌≡◌, ◌⊎◌, ℕ, List, Option, Result, Ok, Err}
use Rattle.std.specs.Io.KnownBytes.{append_known}
use Rattle.port_core.specs.Ports.{AppendsPrefix, Rose}
use Rattle.answer_rows.specs.declared.output.OutputStop.{OutputStop}
use Rattle.answer_rows.specs.declared.output.OutputStop.TheVariants.{WriteFault, OutOfMemory}

-- a text was written, or a prefix of it, perhaps nothing
abbrev pub Puts : {A : Type 0} → List ℕ → Option (List ℕ) → Option (List ℕ) → Result A OutputStop
    → Type 0
Puts text old now (Ok done) = now ≡ append_known old text
Puts text old now (Err stop) = AppendsPrefix old now text

-- a fault of the sink is returned only if its count rose, and else that count stays
abbrev pub CountsPut : {A : Type 0} → ℕ → ℕ → Result A OutputStop → Type 0
CountsPut before now (Ok done) = now ≡ before
CountsPut before now (Err WriteFault) = Rose before now
CountsPut before now (Err OutOfMemory) = now ≡ before

-- a prefix of some text of this kind was written
abbrev pub PutsSomePrefix : (List ℕ → Type 0) → Option (List ℕ) → Option (List ℕ) → Type 0
PutsSomePrefix IsText old now = (text : List ℕ) × IsText text × AppendsPrefix old now text

-- a text of this kind was written; or a prefix of one, or, if memory ran out, nothing
abbrev pub PutsSomeText : {A : Type 0} → (List ℕ → Type 0) → Option (List ℕ) → Option (List ℕ)
    → Result A OutputStop → Type 0
PutsSomeText IsText old now (Ok done) =
    (text : List ℕ) × IsText text × (now ≡ append_known old text)
PutsSomeText IsText old now (Err WriteFault) = PutsSomePrefix IsText old now
PutsSomeText IsText old now (Err OutOfMemory) = (now ≡ old) ⊎ PutsSomePrefix IsText old now
