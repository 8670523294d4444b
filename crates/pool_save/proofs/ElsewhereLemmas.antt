-- The reading of a saved text, where what is still to come is known: it is the same whatever
-- follows the lines that it took.
use Rattle.std.proofs.Common.{◌≡◌, ℕ, suc, ◌<◌, List, [], ◌∷◌, ◌++◌, length, Option, Some, None}
use Rattle.std.proofs.Common.{option_map, Result, Ok, Err, refl, ap, ap₂, sym, ◌∙◌, arith}
use Rattle.std.proofs.lemmas.Option.{none-some, same_Some}
use Rattle.league_core.specs.declared.sheet.Sheet.{Sheet}
use Rattle.league_core.specs.declared.question.Question.{Question}
use Rattle.league_core.specs.search.Trees.{Tree}
use Rattle.league_core.proofs.plain.Parts.{none-left}
use Rattle.port_core.specs.declared.line.ReadStop.{ReadStop}
use Rattle.port_core.specs.declared.line.ReadStop.TheVariants.{ReadFault, LineTooLong}
use Rattle.port_core.specs.declared.line.ReadStop.TheVariants.{InputTooLong}
use Rattle.port_core.specs.Contents.{Contents, with_lines}
use Rattle.line_tokens.specs.Tokens.{token_of}
use Rattle.pool_save.specs.declared.stop.SaveStop.{SaveStop}
use Rattle.pool_save.specs.declared.stop.SaveStop.TheVariants.{BadSave, Read, OutOfMemory}
use Rattle.pool_save.specs.SavedReadings.{SaveState, SaveStep, goes_on, whole, bad}
use Rattle.pool_save.specs.SavedReadings.{SavedReading, nothing_saved, save_taken}
use Rattle.pool_save.specs.SavedReadings.{saved_reading_by, saved_reading_from}
use Rattle.pool_save.specs.SavedReadings.{saved_reading_of}
use Rattle.pool_save.specs.inside.Calls.{LeadsToState, ReadsSaved, ReadsSavedAs}

-- the trees were read, and these contents come after them
abbrev pub saved_up_to : List (Option Tree) → Contents → SavedReading
saved_up_to trees rest = record { gives = Ok trees; rest = rest }

-- ---- a whole saved text takes a line

-- from a line on
by-shorter : (number : ℕ) (lines : List (ℕ × List ℕ)) (ending : Result ℕ ReadStop)
    (onward : SaveState → SavedReading) (trees : List (Option Tree)) (rest : Contents)
    → ((state : SaveState) → onward state ≡ saved_up_to trees rest
    → length rest.lines < length lines)
    → (step : SaveStep)
    → saved_reading_by number (record { lines = lines; ending = ending }) onward step
    ≡ saved_up_to trees rest
    → length rest.lines < suc (length lines)
by-shorter number lines ending onward trees rest behind (goes_on state) is =
    omega (arith, behind state is)
by-shorter number lines ending onward trees rest behind (whole given) is =
    let same = ap (λ (r : SavedReading). length r.rest.lines) is in omega (arith, same)
by-shorter number lines ending onward trees rest behind bad is =
    let wrong = ap (λ (r : SavedReading). r.gives) is in cc

-- from these lines on
shorter : (sheet : Sheet) (asked : List Question) (lines : List (ℕ × List ℕ))
    (ending : Result ℕ ReadStop) (state : SaveState) (trees : List (Option Tree)) (rest : Contents)
    → saved_reading_from sheet asked lines ending state ≡ saved_up_to trees rest
    → length rest.lines < length lines
shorter sheet asked [] (Ok number) state trees rest is =
    let wrong = ap (λ (r : SavedReading). r.gives) is in cc
shorter sheet asked [] (Err stop) state trees rest is =
    let wrong = ap (λ (r : SavedReading). r.gives) is in cc
shorter sheet asked (line ∷ lines) ending state trees rest is =
    by-shorter line.0 lines ending (saved_reading_from sheet asked lines ending) trees rest
    (λ next. shorter sheet asked lines ending next trees rest)
    (save_taken sheet asked state (token_of line.1)) is

-- ---- the same reading before other contents

-- from a line on
by-elsewhere : (number : ℕ) (given : List (ℕ × List ℕ)) (there rest : Contents)
    (trees : List (Option Tree)) (onward onward' : SaveState → SavedReading)
    → ((state : SaveState) → onward state ≡ saved_up_to trees there
    → onward' state ≡ saved_up_to trees rest)
    → (step : SaveStep)
    → saved_reading_by number (with_lines given there) onward step ≡ saved_up_to trees there
    → saved_reading_by number (with_lines given rest) onward' step ≡ saved_up_to trees rest
by-elsewhere number given there rest trees onward onward' behind (goes_on state) is =
    behind state is
by-elsewhere number given there rest trees onward onward' behind (whole all) is =
    let none = none-left given there.lines (ap (λ (r : SavedReading). r.rest.lines) is) in
    let gives = ap (λ (r : SavedReading). r.gives) is in
    ap₂ (λ (g : Result (List (Option Tree)) SaveStop) (taken : List (ℕ × List ℕ)).
    record { gives = g; rest = with_lines taken rest }) gives none
by-elsewhere number given there rest trees onward onward' behind bad is =
    let wrong = ap (λ (r : SavedReading). r.gives) is in cc

-- from these lines on
elsewhere-from : (sheet : Sheet) (asked : List Question) (given : List (ℕ × List ℕ))
    (state : SaveState) (there rest : Contents) (trees : List (Option Tree))
    → saved_reading_of sheet asked (with_lines given there) state ≡ saved_up_to trees there
    → saved_reading_of sheet asked (with_lines given rest) state ≡ saved_up_to trees rest
elsewhere-from sheet asked [] state there rest trees is =
    absurd (omega (arith, shorter sheet asked there.lines there.ending state trees there is))
elsewhere-from sheet asked (line ∷ given) state there rest trees is =
    by-elsewhere line.0 given there rest trees
    (saved_reading_from sheet asked (given ++ there.lines) there.ending)
    (saved_reading_from sheet asked (given ++ rest.lines) rest.ending)
    (λ next. elsewhere-from sheet asked given next there rest trees)
    (save_taken sheet asked state (token_of line.1)) is

-- the trees that were read of these lines are read of them whatever follows
pub saved-elsewhere : (sheet : Sheet) (asked : List Question) (given : List (ℕ × List ℕ))
    (before after : Contents) (trees : List (Option Tree))
    → before ≡ with_lines given after
    → saved_reading_of sheet asked before nothing_saved ≡ saved_up_to trees after
    → (rest : Contents)
    → saved_reading_of sheet asked (with_lines given rest) nothing_saved ≡ saved_up_to trees rest
saved-elsewhere sheet asked given before after trees is read rest =
    elsewhere-from sheet asked given nothing_saved after rest trees
    (ap (λ contents. saved_reading_of sheet asked contents nothing_saved) (sym is) ∙ read)

-- ---- what was said of contents that are known

-- the trees, a bad line or a stop for good
pub saved-reading : (sheet : Sheet) (asked : List Question) (before after : Contents)
    (given : Result (List (Option Tree)) SaveStop)
    → ReadsSavedAs sheet asked (Some before) (Some after) given
    → saved_reading_of sheet asked before nothing_saved ≡ record { gives = given; rest = after }
saved-reading sheet asked before after given reads =
    same_Some (saved_reading_of sheet asked before nothing_saved)
    (record { gives = given; rest = after }) reads

-- the lines that were taken
pub taken-lines : (lines : List (ℕ × List ℕ)) (before after : Contents)
    → Some before ≡ option_map (with_lines lines) (Some after) → before ≡ with_lines lines after
taken-lines lines before after way = same_Some before (with_lines lines after) way

-- the lines that led to a state, whatever follows them
pub saved-leads : (sheet : Sheet) (asked : List Question) (before after : Contents)
    → LeadsToState sheet asked (Some before) (Some after)
    → (state : SaveState) × (lines : List (ℕ × List ℕ)) × (before ≡ with_lines lines after)
    × ((rest : Contents) → saved_reading_of sheet asked (with_lines lines rest) nothing_saved
    ≡ saved_reading_of sheet asked rest state)
saved-leads sheet asked before after leads =
    let led = leads.1 in
    (leads.0, led.0, taken-lines led.0 before after led.1, led.2)

-- ---- what comes after known contents is known

-- after lines
pub lines-told : (lines : List (ℕ × List ℕ)) (before : Contents) (after : Option Contents)
    → Some before ≡ option_map (with_lines lines) after
    → (told : Contents) × (after ≡ Some told)
lines-told lines before None way = absurd (none-some before (sym way))
lines-told lines before (Some after) way = (after, refl)

-- after a reading
pub reading-told : (sheet : Sheet) (asked : List Question) (before : Contents)
    (after : Option Contents) (given : Result (List (Option Tree)) SaveStop)
    → ReadsSavedAs sheet asked (Some before) after given
    → (told : Contents) × (after ≡ Some told)
reading-told sheet asked before None given reads =
    absurd (none-some (saved_reading_of sheet asked before nothing_saved) (sym reads))
reading-told sheet asked before (Some after) given reads = (after, refl)

-- after a call, whatever it answers
pub saved-told : (sheet : Sheet) (asked : List Question) (before : Contents)
    (after : Option Contents) (result : Result (List (Option Tree)) SaveStop)
    → ReadsSaved sheet asked (Some before) after result
    → (told : Contents) × (after ≡ Some told)
saved-told sheet asked before after (Ok trees) reads =
    reading-told sheet asked before after (Ok trees) reads
saved-told sheet asked before after (Err (BadSave number)) reads =
    reading-told sheet asked before after (Err (BadSave number)) reads
saved-told sheet asked before after (Err (Read ReadFault)) reads =
    let led = reads.1 in lines-told led.0 before after led.1
saved-told sheet asked before after (Err (Read (LineTooLong number))) reads =
    reading-told sheet asked before after (Err (Read (LineTooLong number))) reads
saved-told sheet asked before after (Err (Read (InputTooLong number))) reads =
    reading-told sheet asked before after (Err (Read (InputTooLong number))) reads
saved-told sheet asked before after (Err OutOfMemory) reads =
    lines-told reads.0 before after reads.1
