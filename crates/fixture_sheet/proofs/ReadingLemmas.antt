-- Lemmas on the reading of a sheet, line by line.
use Rattle.std.proofs.Common.{◌≡◌, ℕ, List, [], ◌∷◌, ◌++◌, Option, Some, None, option_map, IfSome}
use Rattle.std.proofs.Common.{Result, Ok, Err, refl, sym, ap, subst, ◌∙◌, append_assoc}
use Rattle.port_core.specs.declared.line.ReadStop.{ReadStop}
use Rattle.port_core.specs.declared.line.ReadStop.TheVariants.{ReadFault, LineTooLong}
use Rattle.port_core.specs.declared.line.ReadStop.TheVariants.{InputTooLong}
use Rattle.port_core.specs.Contents.{Contents, ended, with_line, with_lines}
use Rattle.port_core.specs.inside.ReaderCalls.{NextGives}
use Rattle.fixture_sheet.specs.declared.fault.ReadingStop.{ReadingStop}
use Rattle.fixture_sheet.specs.declared.fault.ReadingStop.TheVariants.{Fault, Read}
use Rattle.fixture_sheet.specs.declared.progress.Progress.{Progress}
use Rattle.fixture_sheet.specs.declared.progress.Progress.TheVariants.{SoFar, Whole}
use Rattle.fixture_sheet.specs.Readings.{SheetRules, content_taken_by, reading_by, reading_from}
use Rattle.fixture_sheet.specs.Readings.{reading_of}
use Rattle.fixture_sheet.specs.inside.Calls.{Leads, ReadsSheetAs, ReadsSheet, StepReads, TakesLines}

-- nothing was read yet
pub leads-nothing : {D W F : Type 0} (rules : SheetRules D W F) (start : Option Contents)
    → Leads rules start start None
leads-nothing rules None = ([], refl, λ rest. refl)
leads-nothing rules (Some contents) = ([], refl, λ rest. refl)

-- one line more goes after those before
with_lines-push : (lines : List (ℕ × List ℕ)) (number : ℕ) (text : List ℕ) (rest : Contents)
    → with_lines lines (with_line number text rest)
    ≡ with_lines (lines ++ (number, text) ∷ []) rest
with_lines-push lines number text rest =
    ap (λ all. record { lines = all; ending = rest.ending })
    (sym (append_assoc lines ((number, text) ∷ []) rest.lines))

-- the same if the contents are known
told-push : (lines : List (ℕ × List ℕ)) (number : ℕ) (text : List ℕ) (after : Option Contents)
    → option_map (with_lines lines) (option_map (with_line number text) after)
    ≡ option_map (with_lines (lines ++ (number, text) ∷ [])) after
told-push lines number text None = refl
told-push lines number text (Some rest) = ap Some (with_lines-push lines number text rest)

-- a line's reading, by what its content makes of the sheet so far
line-reading : {D W F : Type 0} (rules : SheetRules D W F) (draft : Option D) (number : ℕ)
    (text : List ℕ) (made : Result (Progress D W) F) (rest : Contents)
    → content_taken_by rules draft text ≡ made
    → reading_of rules (with_line number text rest) draft
    ≡ reading_by number rest (reading_from rules rest.lines rest.ending) made
line-reading rules draft number text made rest is =
    ap (reading_by number rest (reading_from rules rest.lines rest.ending)) is

module _ {D W F : Type 0} (rules : SheetRules D W F) (start before after : Option Contents)
    (draft : Option D) (number : ℕ) (text : List ℕ) (leads : Leads rules start before draft)
    (gives : before ≡ option_map (with_line number text) after) where
  -- the way to where one line more was read
  way : start ≡ option_map (with_lines (leads.0 ++ (number, text) ∷ [])) after
  way =
      leads.1 ∙ ap (option_map (with_lines leads.0)) gives
      ∙ told-push leads.0 number text after

  -- one line more was read
  pub line-taken : TakesLines start after
  line-taken = (leads.0 ++ (number, text) ∷ [], way)

  -- the reading goes on
  line-leads : (next : Option D) → content_taken_by rules draft text ≡ Ok (SoFar next)
      → Leads rules start after next
  line-leads next is = (
    leads.0 ++ (number, text) ∷ [],
    way,
    λ rest.
        ap (λ contents. reading_of rules contents None)
        (sym (with_lines-push leads.0 number text rest))
        ∙ leads.2 (with_line number text rest)
        ∙ line-reading rules draft number text (Ok (SoFar next)) rest is,
  )

  -- the reading is over with this line
  line-reads : (result : Result W (ReadingStop F)) (made : Result (Progress D W) F)
      → content_taken_by rules draft text ≡ made
      → ((rest : Contents)
      → reading_by number rest (reading_from rules rest.lines rest.ending) made
      ≡ record { gives = result; rest = rest })
      → ReadsSheetAs rules start after result
  line-reads result made is over =
      ap (option_map (λ contents. reading_of rules contents None))
      (leads.1 ∙ ap (option_map (with_lines leads.0)) gives) ∙ each after
    where
      each : (told : Option Contents)
          → option_map (λ contents. reading_of rules contents None)
          (option_map (with_lines leads.0) (option_map (with_line number text) told))
          ≡ option_map (λ rest. record { gives = result; rest = rest }) told
      each None = refl
      each (Some rest) =
          ap Some (leads.2 (with_line number text rest)
          ∙ line-reading rules draft number text made rest is ∙ over rest)

  -- a line that is taken: the reading goes on, or it is over
  pub line-steps : (progress : Progress D W) → content_taken_by rules draft text ≡ Ok progress
      → StepReads rules start after (Ok progress)
  line-steps (SoFar next) is = line-leads next is
  line-steps (Whole sheet) is = line-reads (Ok sheet) (Ok (Whole sheet)) is (λ rest. refl)

  -- a line that is refused
  pub line-refused : (fault : F) → content_taken_by rules draft text ≡ Err fault
      → ReadsSheetAs rules start after (Err (Fault number fault))
  line-refused fault is =
      line-reads (Err (Fault number fault)) (Err fault) is (λ rest. refl)

-- the contents are nothing but their ending
ended-reads : {D W F : Type 0} (rules : SheetRules D W F) (start before after : Option Contents)
    (draft : Option D) (ending : Result ℕ ReadStop) (result : Result W (ReadingStop F))
    → Leads rules start before draft
    → IfSome before (λ contents. contents ≡ ended ending) × (before ≡ after)
    → reading_of rules (ended ending) draft ≡ record { gives = result; rest = ended ending }
    → ReadsSheetAs rules start after result
ended-reads rules start None after draft ending result leads over made =
    ap (option_map (λ contents. reading_of rules contents None)) leads.1
    ∙ ap (option_map (λ rest. record { gives = result; rest = rest })) over.1
ended-reads rules start (Some contents) after draft ending result leads over made =
    ap (option_map (λ whole. reading_of rules whole None)) leads.1
    ∙ ap Some (leads.2 contents ∙ ap (λ whole. reading_of rules whole draft) over.0 ∙ made
    ∙ ap (λ rest. record { gives = result; rest = rest }) (sym over.0))
    ∙ ap (option_map (λ rest. record { gives = result; rest = rest })) over.1

-- the input stopped, or the source failed
pub stop-reads : {D W F : Type 0} (rules : SheetRules D W F) (start before after : Option Contents)
    (draft : Option D) (text : List ℕ) (stop : ReadStop) → Leads rules start before draft
    → NextGives before after text (Err stop)
    → ReadsSheet rules start after (Err (Read stop))
stop-reads rules start before after draft text ReadFault leads gives =
    let P : Option Contents → Type 0 = λ told. Leads rules start told draft in
    (draft, subst P gives leads)
stop-reads rules start before after draft text (LineTooLong number) leads gives =
    ended-reads rules start before after draft (Err (LineTooLong number))
    (Err (Read (LineTooLong number))) leads gives refl
stop-reads rules start before after draft text (InputTooLong number) leads gives =
    ended-reads rules start before after draft (Err (InputTooLong number))
    (Err (Read (InputTooLong number))) leads gives refl
