-- A reading is by the lines that it read: whatever follows them, it is the same.
use Rattle.std.proofs.Common.{◌≡◌, ℕ, List, [], ◌∷◌, ◌++◌, Option, None, Some, option_map, Result}
use Rattle.std.proofs.Common.{Ok, Err, refl, sym, ap, ◌∙◌}
use Rattle.league_core.specs.declared.sheet.Sheet.{Sheet}
use Rattle.port_core.specs.declared.line.ReadStop.{ReadStop}
use Rattle.port_core.specs.Contents.{Contents, with_lines}
use Rattle.port_core.proofs.ContentLemmas.{with_lines-append}
use Rattle.fixture_sheet.specs.declared.fault.SheetFault.{SheetFault}
use Rattle.fixture_sheet.specs.Records.{SheetProgress}
use Rattle.fixture_sheet.specs.declared.progress.Progress.TheVariants.{SoFar, Whole}
use Rattle.fixture_sheet.specs.Records.{content_taken}
use Rattle.fixture_sheet.specs.Readings.{reading_by}
use Rattle.fixture_sheet.specs.Sheets.{SheetReading, sheet_reading_from}
use Rattle.result_log.specs.declared.entry.Entry.{Entry}
use Rattle.result_log.specs.declared.entry.Entry.TheVariants.{End}
use Rattle.result_log.specs.declared.fault.FeedFault.{FeedFault}
use Rattle.result_log.specs.inside.FeedParts.{EntryReading, entry_reading_by, entry_reading_from}
use Rattle.result_log.specs.inside.FeedParts.{LineEntry}

-- ---- what is known

-- two looks at what is known agree if the first one knows something
pub read_after : {A : Type 0} (f g : Contents → A) (before after : Option Contents)
    (contents : Contents) → before ≡ Some contents → option_map f before ≡ option_map g after
    → (rest : Contents) × (after ≡ Some rest) × (f contents ≡ g rest)
read_after f g before None contents is same =
    let none : Some (f contents) ≡ None = sym (ap (option_map f) is) ∙ same in absurd cc
read_after f g before (Some rest) contents is same =
    let both : Some (f contents) ≡ Some (g rest) = sym (ap (option_map f) is) ∙ same in
    (rest, refl, cc)

-- if the lines before it are known, it is known
pub told_after : (lines : List (ℕ × List ℕ)) (known : Option Contents) (contents : Contents)
    → Some contents ≡ option_map (with_lines lines) known
    → (rest : Contents) × (known ≡ Some rest) × (contents ≡ with_lines lines rest)
told_after lines None contents is = absurd cc
told_after lines (Some rest) contents is = (rest, refl, cc)

-- some lines and then others at the front are all of them, if it is known
pub told_both : (first second : List (ℕ × List ℕ)) (known : Option Contents)
    → option_map (with_lines first) (option_map (with_lines second) known)
    ≡ option_map (with_lines (first ++ second)) known
told_both first second None = refl
told_both first second (Some rest) = ap Some (sym (with_lines-append first second rest))

-- ---- a sheet

-- lines that are a whole sheet, and what comes after them
pub IsSheetOf : List (ℕ × List ℕ) → Result ℕ ReadStop → Option Sheet → Sheet → Contents → Type 0
IsSheetOf lines ending draft sheet rest =
    (front : List (ℕ × List ℕ))
    × (record { lines = lines; ending = ending } ≡ with_lines front rest)
    × ((other : Contents) → sheet_reading_from (front ++ other.lines) other.ending draft
    ≡ record { gives = Ok sheet; rest = other })

-- a line before them that goes on
sheet-more : (line : ℕ × List ℕ) (lines : List (ℕ × List ℕ)) (ending : Result ℕ ReadStop)
    (draft next : Option Sheet) (sheet : Sheet) (rest : Contents)
    → content_taken draft line.1 ≡ Ok (SoFar next) → IsSheetOf lines ending next sheet rest
    → IsSheetOf (line ∷ lines) ending draft sheet rest
unfolding IsSheetOf
sheet-more line lines ending draft next sheet rest made behind = (
  line ∷ behind.0,
  ap (λ (c : Contents). record { lines = line ∷ c.lines; ending = c.ending }) behind.1,
  λ other.
      ap (reading_by line.0
      (record { lines = behind.0 ++ other.lines; ending = other.ending })
      (sheet_reading_from (behind.0 ++ other.lines) other.ending)) made ∙ behind.2 other,
)

-- the line that ends it
sheet-last : (line : ℕ × List ℕ) (lines : List (ℕ × List ℕ)) (ending : Result ℕ ReadStop)
    (draft : Option Sheet) (found sheet : Sheet) (rest : Contents)
    → content_taken draft line.1 ≡ Ok (Whole found) → found ≡ sheet
    → record { lines = lines; ending = ending } ≡ rest
    → IsSheetOf (line ∷ lines) ending draft sheet rest
unfolding IsSheetOf
sheet-last line lines ending draft found sheet rest made same is = (
  line ∷ [],
  ap (λ (c : Contents). record { lines = line ∷ c.lines; ending = c.ending }) is,
  λ other.
      ap (reading_by line.0 other (sheet_reading_from other.lines other.ending)) made
      ∙ ap (λ (it : Sheet). record { gives = Ok it; rest = other }) same,
)

-- what gives a sheet is lines that are one
sheet_of_reading : (lines : List (ℕ × List ℕ)) (ending : Result ℕ ReadStop) (draft : Option Sheet)
    (sheet : Sheet) (rest : Contents)
    → sheet_reading_from lines ending draft ≡ record { gives = Ok sheet; rest = rest }
    → IsSheetOf lines ending draft sheet rest
sheet_of_reading [] (Ok number) draft sheet rest is =
    let gives = ap (λ (r : SheetReading). r.gives) is in absurd cc
sheet_of_reading [] (Err stop) draft sheet rest is =
    let gives = ap (λ (r : SheetReading). r.gives) is in absurd cc
sheet_of_reading (line ∷ lines) ending draft sheet rest is =
    by_made (content_taken draft line.1) refl
    (λ next. sheet_of_reading lines ending next sheet rest) is
  where
    by_made : (made : Result SheetProgress SheetFault) → content_taken draft line.1 ≡ made
        → ((next : Option Sheet)
        → sheet_reading_from lines ending next ≡ record { gives = Ok sheet; rest = rest }
        → IsSheetOf lines ending next sheet rest)
        → reading_by line.0 (record { lines = lines; ending = ending })
        (sheet_reading_from lines ending) made ≡ record { gives = Ok sheet; rest = rest }
        → IsSheetOf (line ∷ lines) ending draft sheet rest
    by_made (Ok (SoFar next)) made onward is =
        sheet-more line lines ending draft next sheet rest made (onward next is)
    by_made (Ok (Whole found)) made onward is =
        let gives = ap (λ (r : SheetReading). r.gives) is in
        let same : found ≡ sheet = cc in
        sheet-last line lines ending draft found sheet rest made same
        (ap (λ (r : SheetReading). r.rest) is)
    by_made (Err fault) made onward is =
        let gives = ap (λ (r : SheetReading). r.gives) is in absurd cc

-- the same of contents
pub sheet_read : (contents : Contents) (sheet : Sheet) (rest : Contents)
    → sheet_reading_from contents.lines contents.ending None
    ≡ record { gives = Ok sheet; rest = rest }
    → (front : List (ℕ × List ℕ)) × (contents ≡ with_lines front rest)
    × ((other : Contents) → sheet_reading_from (front ++ other.lines) other.ending None
    ≡ record { gives = Ok sheet; rest = other })
unfolding IsSheetOf
sheet_read contents sheet rest is =
    sheet_of_reading contents.lines contents.ending None sheet rest is

-- ---- an entry

-- lines up to an entry, and what comes after them
pub IsEntryIn : LineEntry → List (ℕ × List ℕ) → Result ℕ ReadStop → Entry → Contents → Type 0
IsEntryIn entry lines ending told rest =
    (front : List (ℕ × List ℕ))
    × (record { lines = lines; ending = ending } ≡ with_lines front rest)
    × ((other : Contents) → entry_reading_from entry (front ++ other.lines) other.ending
    ≡ record { gives = Ok told; rest = other })

-- a line before them that holds no record
entry-more : (entry : LineEntry) (line : ℕ × List ℕ) (lines : List (ℕ × List ℕ))
    (ending : Result ℕ ReadStop) (told : Entry) (rest : Contents) → entry line.1 ≡ Ok None
    → IsEntryIn entry lines ending told rest → IsEntryIn entry (line ∷ lines) ending told rest
unfolding IsEntryIn
entry-more entry line lines ending told rest made behind = (
  line ∷ behind.0,
  ap (λ (c : Contents). record { lines = line ∷ c.lines; ending = c.ending }) behind.1,
  λ other.
      ap (entry_reading_by line.0
      (record { lines = behind.0 ++ other.lines; ending = other.ending })
      (entry_reading_from entry (behind.0 ++ other.lines) other.ending)) made ∙ behind.2 other,
)

-- the line that holds it
entry-last : (entry : LineEntry) (line : ℕ × List ℕ) (lines : List (ℕ × List ℕ))
    (ending : Result ℕ ReadStop) (found told : Entry) (rest : Contents)
    → entry line.1 ≡ Ok (Some found) → found ≡ told
    → record { lines = lines; ending = ending } ≡ rest
    → IsEntryIn entry (line ∷ lines) ending told rest
unfolding IsEntryIn
entry-last entry line lines ending found told rest made same is = (
  line ∷ [],
  ap (λ (c : Contents). record { lines = line ∷ c.lines; ending = c.ending }) is,
  λ other.
      ap (entry_reading_by line.0 other (entry_reading_from entry other.lines other.ending)) made
      ∙ ap (λ (it : Entry). record { gives = Ok it; rest = other }) same,
)

-- what gives an entry that is not the input's end is lines up to it
entry_of_reading : (entry : LineEntry) (lines : List (ℕ × List ℕ)) (ending : Result ℕ ReadStop)
    (told : Entry) (rest : Contents) → (End ≡ told → ⊥)
    → entry_reading_from entry lines ending ≡ record { gives = Ok told; rest = rest }
    → IsEntryIn entry lines ending told rest
entry_of_reading entry [] (Ok number) told rest other is =
    let gives = ap (λ (r : EntryReading). r.gives) is in
    let same : End ≡ told = cc in absurd (other same)
entry_of_reading entry [] (Err stop) told rest other is =
    let gives = ap (λ (r : EntryReading). r.gives) is in absurd cc
entry_of_reading entry (line ∷ lines) ending told rest other is =
    by_made (entry line.1) refl (entry_of_reading entry lines ending told rest other) is
  where
    by_made : (made : Result (Option Entry) FeedFault) → entry line.1 ≡ made
        → (entry_reading_from entry lines ending ≡ record { gives = Ok told; rest = rest }
        → IsEntryIn entry lines ending told rest)
        → entry_reading_by line.0 (record { lines = lines; ending = ending })
        (entry_reading_from entry lines ending) made ≡ record { gives = Ok told; rest = rest }
        → IsEntryIn entry (line ∷ lines) ending told rest
    by_made (Ok None) made onward is =
        entry-more entry line lines ending told rest made (onward is)
    by_made (Ok (Some found)) made onward is =
        let gives = ap (λ (r : EntryReading). r.gives) is in
        let same : found ≡ told = cc in
        entry-last entry line lines ending found told rest made same
        (ap (λ (r : EntryReading). r.rest) is)
    by_made (Err fault) made onward is =
        let gives = ap (λ (r : EntryReading). r.gives) is in absurd cc

-- the same of contents
pub entry_read : (entry : LineEntry) (contents : Contents) (told : Entry) (rest : Contents)
    → (End ≡ told → ⊥)
    → entry_reading_from entry contents.lines contents.ending
    ≡ record { gives = Ok told; rest = rest }
    → (front : List (ℕ × List ℕ)) × (contents ≡ with_lines front rest)
    × ((other : Contents) → entry_reading_from entry (front ++ other.lines) other.ending
    ≡ record { gives = Ok told; rest = other })
unfolding IsEntryIn
entry_read entry contents told rest other is =
    entry_of_reading entry contents.lines contents.ending told rest other is
