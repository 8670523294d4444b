-- A reading of a cup's sheet is by the lines that it read: whatever follows them, it is the same.
use Rattle.std.proofs.Common.{◌≡◌, ℕ, List, [], ◌∷◌, ◌++◌, Option, None, Result, Ok, Err}
use Rattle.std.proofs.Common.{refl, ap, ◌∙◌}
use Rattle.port_core.specs.declared.line.ReadStop.{ReadStop}
use Rattle.port_core.specs.Contents.{Contents, with_lines}
use Rattle.fixture_sheet.specs.declared.progress.Progress.TheVariants.{SoFar, Whole}
use Rattle.fixture_sheet.specs.Readings.{reading_by}
use Rattle.cup_sheet.specs.declared.cup.Cup.{Cup}
use Rattle.cup_sheet.specs.declared.cup.CupDraft.{CupDraft}
use Rattle.cup_sheet.specs.declared.fault.CupFault.{CupFault}
use Rattle.cup_sheet.specs.CupRecords.{CupProgress, cup_content_taken}
use Rattle.cup_sheet.specs.CupReadings.{CupReading, cup_reading_from, cup_reading_of}

-- lines that are a whole cup, and what comes after them
pub IsCupBefore : List (ℕ × List ℕ) → Result ℕ ReadStop → Option CupDraft → Cup → Contents
    → Type 0
IsCupBefore lines ending draft cup rest =
    (front : List (ℕ × List ℕ))
    × (record { lines = lines; ending = ending } ≡ with_lines front rest)
    × ((other : Contents) → cup_reading_from (front ++ other.lines) other.ending draft
    ≡ record { gives = Ok cup; rest = other })

-- a line before them that goes on
cup-more : (line : ℕ × List ℕ) (lines : List (ℕ × List ℕ)) (ending : Result ℕ ReadStop)
    (draft next : Option CupDraft) (cup : Cup) (rest : Contents)
    → cup_content_taken draft line.1 ≡ Ok (SoFar next) → IsCupBefore lines ending next cup rest
    → IsCupBefore (line ∷ lines) ending draft cup rest
unfolding IsCupBefore
cup-more line lines ending draft next cup rest made behind = (
  line ∷ behind.0,
  ap (λ (c : Contents). record { lines = line ∷ c.lines; ending = c.ending }) behind.1,
  λ other.
      ap (reading_by line.0
      (record { lines = behind.0 ++ other.lines; ending = other.ending })
      (cup_reading_from (behind.0 ++ other.lines) other.ending)) made ∙ behind.2 other,
)

-- the line that ends it
cup-last : (line : ℕ × List ℕ) (lines : List (ℕ × List ℕ)) (ending : Result ℕ ReadStop)
    (draft : Option CupDraft) (found cup : Cup) (rest : Contents)
    → cup_content_taken draft line.1 ≡ Ok (Whole found) → found ≡ cup
    → record { lines = lines; ending = ending } ≡ rest
    → IsCupBefore (line ∷ lines) ending draft cup rest
unfolding IsCupBefore
cup-last line lines ending draft found cup rest made same is = (
  line ∷ [],
  ap (λ (c : Contents). record { lines = line ∷ c.lines; ending = c.ending }) is,
  λ other.
      ap (reading_by line.0 other (cup_reading_from other.lines other.ending)) made
      ∙ ap (λ (it : Cup). record { gives = Ok it; rest = other }) same,
)

-- what gives a cup is lines that are one
cup_of_reading : (lines : List (ℕ × List ℕ)) (ending : Result ℕ ReadStop)
    (draft : Option CupDraft) (cup : Cup) (rest : Contents)
    → cup_reading_from lines ending draft ≡ record { gives = Ok cup; rest = rest }
    → IsCupBefore lines ending draft cup rest
cup_of_reading [] (Ok number) draft cup rest is =
    let gives = ap (λ (r : CupReading). r.gives) is in absurd cc
cup_of_reading [] (Err stop) draft cup rest is =
    let gives = ap (λ (r : CupReading). r.gives) is in absurd cc
cup_of_reading (line ∷ lines) ending draft cup rest is =
    by_made (cup_content_taken draft line.1) refl
    (λ next. cup_of_reading lines ending next cup rest) is
  where
    by_made : (made : Result CupProgress CupFault) → cup_content_taken draft line.1 ≡ made
        → ((next : Option CupDraft)
        → cup_reading_from lines ending next ≡ record { gives = Ok cup; rest = rest }
        → IsCupBefore lines ending next cup rest)
        → reading_by line.0 (record { lines = lines; ending = ending })
        (cup_reading_from lines ending) made ≡ record { gives = Ok cup; rest = rest }
        → IsCupBefore (line ∷ lines) ending draft cup rest
    by_made (Ok (SoFar next)) made onward is =
        cup-more line lines ending draft next cup rest made (onward next is)
    by_made (Ok (Whole found)) made onward is =
        let gives = ap (λ (r : CupReading). r.gives) is in
        let same : found ≡ cup = cc in
        cup-last line lines ending draft found cup rest made same
        (ap (λ (r : CupReading). r.rest) is)
    by_made (Err fault) made onward is =
        let gives = ap (λ (r : CupReading). r.gives) is in absurd cc

-- the same of contents
pub cup_read : (contents : Contents) (cup : Cup) (rest : Contents)
    → cup_reading_of contents None ≡ record { gives = Ok cup; rest = rest }
    → (front : List (ℕ × List ℕ)) × (contents ≡ with_lines front rest)
    × ((other : Contents) → cup_reading_of (with_lines front other) None
    ≡ record { gives = Ok cup; rest = other })
unfolding IsCupBefore
cup_read contents cup rest is = cup_of_reading contents.lines contents.ending None cup rest is
