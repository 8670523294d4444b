-- What the mode `sample` leaves: one row, which no input changes.
use Rattle.std.specs.Prelude.{◌≡◌, ℕ, List, [], ◌∷◌, Option, codes, decimal}
use Rattle.std.specs.Io.KnownBytes.{append_known}
use Rattle.port_core.specs.Ports.{AppendsPrefix, Rose}
use Rattle.cert_text.specs.Rows.{text_of_row}
use Rattle.sample_counts.specs.declared.counts.Counts.{Counts}
use Rattle.sample_counts.specs.SampleCounts.{IsCountOfSample}
use Rattle.run_ends.specs.declared.status.Status.{Status}
use Rattle.run_ends.specs.declared.status.Status.TheVariants.{Done, WriteFault, OutOfMemory}

-- `sample,SEED,CLINCHED,LOST,POSSIBLE,UNSETTLED`
abbrev pub sample_row : ℕ → Counts → List ℕ
sample_row seed counts =
    text_of_row (codes "sample" ∷ decimal seed ∷ decimal counts.clinched ∷ decimal counts.lost
    ∷ decimal counts.possible ∷ decimal counts.unsettled ∷ [])

-- the row of the league that a number gives, with the words of some answer to it counted
abbrev pub IsSampleText : ℕ → List ℕ → Type 0
IsSampleText seed text =
    (counts : Counts) × IsCountOfSample seed counts × (text ≡ sample_row seed counts)

-- the sink's bytes before and after the sample of a number, by the status: the row is written, or a
-- prefix of it, or, if memory ran out, nothing
abbrev pub ServesSample : ℕ → Option (List ℕ) → Option (List ℕ) → Status → Type 0
ServesSample seed old new Done =
    (text : List ℕ) × IsSampleText seed text × (new ≡ append_known old text)
ServesSample seed old new WriteFault =
    (text : List ℕ) × IsSampleText seed text × AppendsPrefix old new text
ServesSample seed old new OutOfMemory = new ≡ old
ServesSample seed old new status = ⊥

-- a fault of the sink comes only if its count rose, and else that count stays
abbrev pub CountsSample : ℕ → ℕ → Status → Type 0
CountsSample writes writes' Done = writes' ≡ writes
CountsSample writes writes' OutOfMemory = writes' ≡ writes
CountsSample writes writes' WriteFault = Rose writes writes'
CountsSample writes writes' status = ⊥
