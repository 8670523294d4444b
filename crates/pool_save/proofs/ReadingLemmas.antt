-- A saved text that is read line by line: what is known of it after each line, and where it ends.
use Rattle.std.proofs.Common.{◌≡◌, ℕ, Bool, true, false, List, [], ◌∷◌, ◌++◌, Option, Some, None}
use Rattle.std.proofs.Common.{option_map, IfSome, Result, Ok, Err, refl, sym, ap, subst, ◌∙◌}
use Rattle.std.proofs.Common.{append_assoc}
use Rattle.league_core.specs.declared.sheet.Sheet.{Sheet}
use Rattle.league_core.specs.declared.question.Question.{Question}
use Rattle.league_core.specs.search.Trees.{Tree}
use Rattle.port_core.specs.declared.line.ReadStop.{ReadStop}
use Rattle.port_core.specs.declared.line.ReadStop.TheVariants.{ReadFault, LineTooLong}
use Rattle.port_core.specs.declared.line.ReadStop.TheVariants.{InputTooLong}
use Rattle.port_core.specs.Contents.{Contents, ended, with_line, with_lines}
use Rattle.port_core.specs.inside.ReaderCalls.{NextGives}
use Rattle.fixture_sheet.specs.inside.Calls.{TakesLines}
use Rattle.line_tokens.specs.Tokens.{token_of}
use Rattle.pool_save.specs.declared.stop.SaveStop.{SaveStop}
use Rattle.pool_save.specs.declared.stop.SaveStop.TheVariants.{BadSave, Read}
use Rattle.pool_save.specs.declared.taken.Taken.{Taken}
use Rattle.pool_save.specs.declared.taken.Taken.TheVariants.{On, Whole, Bad}
use Rattle.pool_save.specs.SavedReadings.{SaveState, SaveStep, goes_on, whole, bad}
use Rattle.pool_save.specs.SavedReadings.{nothing_saved}
use Rattle.pool_save.specs.SavedReadings.{save_taken, saved_reading_by, saved_reading_from}
use Rattle.pool_save.specs.SavedReadings.{saved_reading_of}
use Rattle.pool_save.specs.inside.Calls.{LeadsSaved, ReadsSavedAs, ReadsSaved}

-- nothing was read yet
pub leads-nothing : (sheet : Sheet) (asked : List Question) (start : Option Contents)
    → LeadsSaved sheet asked start start nothing_saved
leads-nothing sheet asked None = ([], refl, λ rest. refl)
leads-nothing sheet asked (Some contents) = ([], refl, λ rest. refl)

-- no line was taken
pub no_line_taken : (start : Option Contents) → TakesLines start start
no_line_taken None = ([], refl)
no_line_taken (Some contents) = ([], refl)

-- one line more goes after those before
with_lines-push : (lines : List (ℕ × List ℕ)) (number : ℕ) (text : List ℕ) (rest : Contents)
    → with_lines lines (with_line number text rest)
    ≡ with_lines (lines ++ (number, text) ∷ []) rest
with_lines-push lines number text rest =
    ap (λ all. record { lines = all; ending = rest.ending })
    (sym (append_assoc lines ((number, text) ∷ []) rest.lines))

-- the same if the contents are known
told-push : (lines : List (ℕ × List ℕ)) (number : ℕ) (text : List ℕ) (after : Option Contents)
    → option_map (with_lines lines) (option_map (with_line number text) after)
    ≡ option_map (with_lines (lines ++ (number, text) ∷ [])) after
told-push lines number text None = refl
told-push lines number text (Some rest) = ap Some (with_lines-push lines number text rest)

module _ (sheet : Sheet) (asked : List Question) (start before after : Option Contents)
    (state : SaveState) (number : ℕ) (text : List ℕ)
    (leads : LeadsSaved sheet asked start before state)
    (gives : before ≡ option_map (with_line number text) after) where
  -- the way to where one line more was read
  way : start ≡ option_map (with_lines (leads.0 ++ (number, text) ∷ [])) after
  way =
      leads.1 ∙ ap (option_map (with_lines leads.0)) gives
      ∙ told-push leads.0 number text after

  -- one line more was read
  pub line-taken : TakesLines start after
  line-taken = (leads.0 ++ (number, text) ∷ [], way)

  -- a line's reading, by what it makes of what is read so far
  line-reading : (step : SaveStep) (rest : Contents)
      → step ≡ save_taken sheet asked state (token_of text)
      → saved_reading_of sheet asked (with_line number text rest) state
      ≡ saved_reading_by number rest (saved_reading_from sheet asked rest.lines rest.ending) step
  line-reading step rest is =
      ap (saved_reading_by number rest (saved_reading_from sheet asked rest.lines rest.ending))
      (sym is)

  -- the reading goes on
  pub line-leads : (next : SaveState) → goes_on next ≡ save_taken sheet asked state (token_of text)
      → LeadsSaved sheet asked start after next
  line-leads next is = (
    leads.0 ++ (number, text) ∷ [],
    way,
    λ rest.
        ap (λ contents. saved_reading_of sheet asked contents nothing_saved)
        (sym (with_lines-push leads.0 number text rest))
        ∙ leads.2 (with_line number text rest)
        ∙ line-reading (goes_on next) rest is,
  )

  -- the reading is over with this line
  line-reads : (given : Result (List (Option Tree)) SaveStop) (step : SaveStep)
      → step ≡ save_taken sheet asked state (token_of text)
      → ((rest : Contents)
      → saved_reading_by number rest (saved_reading_from sheet asked rest.lines rest.ending) step
      ≡ record { gives = given; rest = rest })
      → ReadsSavedAs sheet asked start after given
  line-reads given step is over =
      ap (option_map (λ contents. saved_reading_of sheet asked contents nothing_saved))
      (leads.1 ∙ ap (option_map (with_lines leads.0)) gives) ∙ each after
    where
      each : (told : Option Contents)
          → option_map (λ contents. saved_reading_of sheet asked contents nothing_saved)
          (option_map (with_lines leads.0) (option_map (with_line number text) told))
          ≡ option_map (λ rest. record { gives = given; rest = rest }) told
      each None = refl
      each (Some rest) =
          ap Some (leads.2 (with_line number text rest) ∙ line-reading step rest is ∙ over rest)

  -- a line with which it is over
  pub line-whole : (trees : List (Option Tree))
      → whole trees ≡ save_taken sheet asked state (token_of text)
      → ReadsSavedAs sheet asked start after (Ok trees)
  line-whole trees is = line-reads (Ok trees) (whole trees) is (λ rest. refl)

  -- a line that no saved text has there
  pub line-bad : bad ≡ save_taken sheet asked state (token_of text)
      → ReadsSavedAs sheet asked start after (Err (BadSave number))
  line-bad is = line-reads (Err (BadSave number)) bad is (λ rest. refl)

module _ (sheet : Sheet) (asked : List Question) (start before after : Option Contents)
    (state : SaveState) (leads : LeadsSaved sheet asked start before state) where
  -- the contents are nothing but their ending
  ended-reads : (ending : Result ℕ ReadStop) (given : Result (List (Option Tree)) SaveStop)
      → IfSome before (λ contents. contents ≡ ended ending) × (before ≡ after)
      → saved_reading_of sheet asked (ended ending) state
      ≡ record { gives = given; rest = ended ending }
      → ReadsSavedAs sheet asked start after given
  ended-reads ending given over made = by before leads.1 over
    where
      by : (known : Option Contents) → start ≡ option_map (with_lines leads.0) known
          → IfSome known (λ contents. contents ≡ ended ending) × (known ≡ after)
          → ReadsSavedAs sheet asked start after given
      by None way over =
          ap (option_map (λ contents. saved_reading_of sheet asked contents nothing_saved)) way
          ∙ ap (option_map (λ rest. record { gives = given; rest = rest })) over.1
      by (Some contents) way over =
          ap (option_map (λ all. saved_reading_of sheet asked all nothing_saved)) way
          ∙ ap Some (leads.2 contents ∙ ap (λ all. saved_reading_of sheet asked all state) over.0
          ∙ made ∙ ap (λ rest. record { gives = given; rest = rest }) (sym over.0))
          ∙ ap (option_map (λ rest. record { gives = given; rest = rest })) over.1

  -- the input ended
  pub end-reads : (number : ℕ)
      → IfSome before (λ contents. contents ≡ ended (Ok number)) × (before ≡ after)
      → ReadsSavedAs sheet asked start after (Err (BadSave number))
  end-reads number over = ended-reads (Ok number) (Err (BadSave number)) over refl

  -- it stopped, or the source failed
  pub stop-reads : (text : List ℕ) (stop : ReadStop) → NextGives before after text (Err stop)
      → ReadsSaved sheet asked start after (Err (Read stop))
  stop-reads text ReadFault gives =
      let P : Option Contents → Type 0 = λ told. LeadsSaved sheet asked start told state in
      (state, subst P gives leads)
  stop-reads text (LineTooLong number) gives =
      ended-reads (Err (LineTooLong number)) (Err (Read (LineTooLong number))) gives refl
  stop-reads text (InputTooLong number) gives =
      ended-reads (Err (InputTooLong number)) (Err (Read (InputTooLong number))) gives refl
