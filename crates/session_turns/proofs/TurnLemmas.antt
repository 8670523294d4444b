-- The reading of the sheet: what it gives, from what the reader gave and what was written.
use Rattle.std.proofs.Common.{◌≡◌, ℕ, Bool, List, [], ◌∷◌, ◌++◌, Option, Some, None, Result, Ok}
use Rattle.std.proofs.Common.{Err, refl, ap, sym, ◌∙◌, subst, inl, inr}
use Rattle.std.specs.Io.KnownBytes.{prepend_known}
use Rattle.league_core.specs.declared.sheet.Sheet.{Sheet}
use Rattle.port_core.specs.declared.line.Line.TheVariants as line
use Rattle.port_core.specs.declared.line.ReadStop.TheVariants as stop
use Rattle.port_core.specs.Lines.{lines_of, HasNoLineFeed}
use Rattle.port_core.specs.Contents.{Position, start, number_at, Contents, ended, with_lines}
use Rattle.port_core.specs.Contents.{contents_from, contents_of}
use Rattle.port_core.specs.Readers.{LineReaderView, contents_after, contents_to_come, stream_of}
use Rattle.port_core.specs.inside.ReaderCalls.{Passes, LeavesReader, PassesKnown}
use Rattle.port_core.specs.inside.ReaderCalls.{given_by}
use Rattle.fixture_sheet.specs.Sheets.{SheetStop}
use Rattle.fixture_sheet.specs.declared.fault.ReadingStop.TheVariants as sheet_stop
use Rattle.fixture_sheet.specs.inside.Calls.{Leads, PassesUpTo, ReadsSheet, ReadsSheetAs}
use Rattle.fixture_sheet.specs.inside.Calls.{sheet_answer_after}
use Rattle.fixture_sheet.specs.Records.{sheet_rules}
use Rattle.fixture_sheet.specs.Sheets.{sheet_reading_of}
use Rattle.run_ends.specs.declared.status.Status.{Status}
use Rattle.run_ends.specs.declared.status.Status.TheVariants.{ReadFault, OutOfMemory}
use Rattle.command_words.specs.declared.command.Mode.{Mode}
use Rattle.run_ends.specs.declared.run_end.Cause.TheVariants as cause
use Rattle.run_ends.specs.declared.run_end.Fault.{Fault}
use Rattle.run_ends.specs.declared.run_end.RunEnd.{RunEnd}
use Rattle.run_ends.specs.declared.run_end.RunEnd.TheVariants.{Refused}
use Rattle.session_turns.specs.Plays.{Played}
use Rattle.session_turns.specs.Courses.{Course, course_from, course_of}
use Rattle.session_turns.specs.Courses.{course_of_reading, first_origin}
use Rattle.run_ends.specs.InputEnds.{input_fault, line_fault}
use Rattle.run_ends.specs.InputEnds.{outcome_at_sheet}
use Rattle.run_ends.specs.inside.Stops.{FaultEnds, StopEnds, stop_of_sheet}
use Rattle.session_turns.proofs.SheetLemmas.{same-lines, sheet-elsewhere, sheet-reading}
use Rattle.league_core.proofs.plain.Streams.{append_known-nothing}
use Rattle.run_ends.proofs.RunEndLemmas.{fault-serves, serves-nothing}
use Rattle.run_ends.proofs.RunTextLemmas.{reached-start}
use Rattle.run_ends.proofs.WayLemmas.{all-contents, fails-unasked, first-path, fresh-contents}
use Rattle.run_ends.proofs.WayLemmas.{fresh-passes}
use Rattle.run_ends.specs.Courses.{course_ended}
use Rattle.run_ends.specs.Runs.{Serves}
use Rattle.run_ends.specs.inside.Ways.{Path}
use Rattle.session_turns.proofs.AnsweredLemmas.{session-answered}
use Rattle.session_turns.specs.Texts.{session_kind}

-- ---- the sheet

-- the way to the feed
pub way-sheet : (mode : Mode) (input after : Option (List ℕ)) (told told' : Bool)
    (to : Position) (given : List (ℕ × List ℕ)) (sheet : Sheet) (old : Option (List ℕ))
    → PassesKnown start input told to after told' given
    → ReadsSheetAs sheet_rules (contents_after start input) (contents_after to after) (Ok sheet)
    → Path (session_kind mode) input told after told' to (course_from mode (first_origin sheet) [])
    old old
way-sheet mode None after told told' to given sheet old passed reads = tt
way-sheet mode (Some input) None told told' to given sheet old passed reads = absurd passed
way-sheet mode (Some input) (Some after) told told' to given sheet old passed reads =
    let elsewhere = sheet-elsewhere given (contents_of input) (contents_from to (lines_of after))
    sheet (all-contents input after told told' to given passed) reads in
    first-path (session_kind mode) input after told told' to given
    (course_from mode (first_origin sheet) []) old passed
    (λ rest. ap (course_of_reading mode) (elsewhere rest))

-- a course that is ended so
pub ended-as : {one other : RunEnd} → one ≡ other → course_ended {Play = Played} one ≡ course_ended
    other
ended-as is =
    let P : RunEnd → Course = λ outcome. course_ended outcome in
    ap P is

-- a turn in which no sheet came, for this fault
pub turn-no_sheet : (mode : Mode) (input after : Option (List ℕ)) (told told' : Bool)
    (to : Position) (given : List (ℕ × List ℕ)) (stop : SheetStop) (fault : Fault)
    (left old now : Option (List ℕ)) (status : Status)
    → PassesKnown start input told to after told' given
    → ReadsSheetAs sheet_rules (contents_after start input) (contents_after to after) (Err stop)
    → outcome_at_sheet stop ≡ Refused fault → FaultEnds fault old now status
    → Serves (session_kind mode) input left told' old now status
turn-no_sheet mode None after told told' to given stop fault left old now status passed reads
    is ends = tt
turn-no_sheet mode (Some input) None told told' to given stop fault left old now status passed
    reads is ends = absurd passed
turn-no_sheet mode (Some input) (Some after) told told' to given stop fault left old now status
    passed reads is ends =
    let read = sheet-reading (contents_of input) (contents_from to (lines_of after)) (Err stop)
    reads in
    fault-serves (session_kind mode) (session-answered mode) input [] left told' old old now fault
    status
    (reached-start (session_kind mode) input (course_ended (Refused fault))
    (ap (course_of_reading mode) read ∙ ended-as is)) (append_known-nothing old) ends

-- ---- a fault of the source

-- the source failed before the sheet was whole
fails-early : (mode : Mode) (input held left : List ℕ) (told told' : Bool) (to : Position)
    (given : List (ℕ × List ℕ)) (old : Option (List ℕ))
    → Passes start input told to (held ++ left) told' given
    → (draft : Option Sheet)
    → Leads sheet_rules (Some (contents_of input))
    (Some (contents_from to (lines_of (held ++ left)))) draft
    → HasNoLineFeed held
    → Serves (session_kind mode) (Some input) (Some left) told' old old ReadFault
fails-early mode input held left told told' to given old passed draft leads no_feed =
    let after = held ++ left in
    let there = contents_from to (lines_of after) in
    let some : contents_of input ≡ with_lines leads.0 there =
    ap (λ (o : Option Contents). elim o [ None ↦ contents_of input | Some c ↦ c ]) leads.1 in
    let same : given ≡ leads.0 =
    same-lines given leads.0 there
    (sym (all-contents input after told told' to given passed) ∙ some) in
    let number = number_at to in
    let read : course_of mode (with_lines given (ended (Ok number)))
    ≡ course_of_reading mode (sheet_reading_of (ended (Ok number)) draft) =
    ap (λ lines. course_of mode (with_lines lines (ended (Ok number)))) same
    ∙ ap (course_of_reading mode) (leads.2 (ended (Ok number))) in
    fails-unasked (session_kind mode) input held left told told' to given old
    (course_of_reading mode (sheet_reading_of (ended (Ok number)) draft)) passed no_feed read refl
    (inr (inl (_, refl)))

pub turn-fails_early : (mode : Mode) (input : Option (List ℕ)) (held : List ℕ)
    (left : Option (List ℕ)) (told told' : Bool) (to : Position) (given : List (ℕ × List ℕ))
    (old : Option (List ℕ))
    → PassesKnown start input told to (prepend_known held left) told' given
    → (draft : Option Sheet)
    → Leads sheet_rules (contents_after start input) (contents_after to (prepend_known held left))
    draft
    → HasNoLineFeed held
    → Serves (session_kind mode) input left told' old old ReadFault
turn-fails_early mode None held left told told' to given old passed draft leads no_feed = tt
turn-fails_early mode (Some input) held None told told' to given old passed draft leads no_feed
    = absurd passed
turn-fails_early mode (Some input) held (Some left) told told' to given old passed draft leads
    no_feed =
    fails-early mode input held left told told' to given old passed draft leads no_feed

-- ---- a reader that has given nothing

-- what it reads of a sheet is read of the whole input
pub fresh-reads : (reader : LineReaderView) (input : Option (List ℕ)) (after : Option Contents)
    (result : Result Sheet SheetStop)
    → reader ≡ record { held = []; text = []; position = start }
    → ReadsSheetAs sheet_rules (contents_to_come reader input) after result
    → ReadsSheetAs sheet_rules (contents_after start input) after result
fresh-reads reader input after result is reads =
    let P : Option Contents → Type 0 = λ before. ReadsSheetAs sheet_rules before after result in
    subst P (fresh-contents reader input is) reads

-- and so far
pub fresh-leads : (reader : LineReaderView) (input : Option (List ℕ)) (after : Option Contents)
    (draft : Option Sheet) → reader ≡ record { held = []; text = []; position = start }
    → Leads sheet_rules (contents_to_come reader input) after draft
    → Leads sheet_rules (contents_after start input) after draft
fresh-leads reader input after draft is leads =
    let P : Option Contents → Type 0 = λ before. Leads sheet_rules before after draft in
    subst P (fresh-contents reader input is) leads

-- ---- what came of the reading

-- a stop in place of a sheet
abbrev pub no_sheet : SheetStop → Result Sheet SheetStop
no_sheet stop = Err stop

-- a refusal, or a stop for good
refused-serves : (mode : Mode) (reader new : LineReaderView) (input left : Option (List ℕ))
    (told told' : Bool) (found : SheetStop) (fault : Fault) (old now : Option (List ℕ))
    (status : Status) → reader ≡ record { held = []; text = []; position = start }
    → outcome_at_sheet found ≡ Refused fault
    → ReadsSheetAs sheet_rules (contents_to_come reader input) (contents_to_come new left)
    (no_sheet found)
    → PassesUpTo reader new input left told told' (sheet_answer_after new (no_sheet found))
    → FaultEnds fault old now status → Serves (session_kind mode) input left told' old now status
refused-serves mode reader new input left told told' found fault old now status fresh is reads
    passes ends =
    let given : List (ℕ × List ℕ) =
    passes.0 ++ given_by (sheet_answer_after new (no_sheet found)) new.text in
    turn-no_sheet mode input (stream_of new left) told told' new.position given found fault left
    old now status (fresh-passes reader new input left told told' given fresh passes.1)
    (fresh-reads reader input (contents_to_come new left) (no_sheet found) fresh reads) is ends

-- what came in place of a sheet
pub sheet-stops : (mode : Mode) (reader new : LineReaderView) (input left : Option (List ℕ))
    (told told' : Bool) (found : SheetStop) (old now : Option (List ℕ)) (status : Status)
    → reader ≡ record { held = []; text = []; position = start }
    → ReadsSheet sheet_rules (contents_to_come reader input) (contents_to_come new left)
    (no_sheet found)
    → PassesUpTo reader new input left told told' (sheet_answer_after new (no_sheet found))
    → LeavesReader new left (sheet_answer_after new (no_sheet found))
    → StopEnds (stop_of_sheet found) old now status
    → Serves (session_kind mode) input left told' old now status
sheet-stops mode reader new input left told told' (sheet_stop.Fault number fault) old now status
    fresh reads passes leaves ends =
    refused-serves mode reader new input left told told' (sheet_stop.Fault number fault)
    (record { number = number; cause = cause.Sheet fault }) old now status fresh refl reads passes
    ends
sheet-stops mode reader new input left told told' (sheet_stop.Read (stop.LineTooLong number)) old
    now status fresh reads passes leaves ends =
    refused-serves mode reader new input left told told' (sheet_stop.Read (stop.LineTooLong number))
    (line_fault number) old now status fresh refl reads passes ends
sheet-stops mode reader new input left told told' (sheet_stop.Read (stop.InputTooLong number)) old
    now status fresh reads passes leaves ends =
    refused-serves mode reader new input left told told'
    (sheet_stop.Read (stop.InputTooLong number)) (input_fault number) old now status fresh refl
    reads passes ends
sheet-stops mode reader new input left told told' (sheet_stop.Read stop.ReadFault) old now status
    fresh reads passes leaves ends =
    let P : Status → Type 0 = λ s. Serves (session_kind mode) input left told' old now s in
    let Q : Option (List ℕ) → Type 0 = λ n. Serves (session_kind mode) input left told' old n
    ReadFault in
    subst P (sym ends.0) (subst Q (sym ends.1)
    (turn-fails_early mode input new.held left told told' new.position (passes.0 ++ []) old
    (fresh-passes reader new input left told told' (passes.0 ++ []) fresh passes.1) reads.0
    (fresh-leads reader input (contents_to_come new left) reads.0 fresh reads.1) leaves.0))
sheet-stops mode reader new input left told told' sheet_stop.OutOfMemory old now status fresh reads
    passes leaves ends =
    let P : Status → Type 0 = λ s. Serves (session_kind mode) input left told' old now s in
    let Q : Option (List ℕ) → Type 0 = λ n. Serves (session_kind mode) input left told' old n
    OutOfMemory in
    subst P (sym ends.0) (subst Q (sym ends.1) (serves-nothing (session_kind mode)
    (session-answered mode) input left told' old))

-- the sheet, and the way to the feed after it
pub sheet-comes : (mode : Mode) (reader new : LineReaderView)
    (input left : Option (List ℕ)) (told told' : Bool) (sheet : Sheet) (old : Option (List ℕ))
    → reader ≡ record { held = []; text = []; position = start }
    → ReadsSheet sheet_rules (contents_to_come reader input) (contents_to_come new left) (Ok sheet)
    → PassesUpTo reader new input left told told' (Ok (line.Text new.position.lines))
    → Path (session_kind mode) input told (stream_of new left) told' new.position
    (course_from mode (first_origin sheet) []) old old
sheet-comes mode reader new input left told told' sheet old fresh reads passes =
    let given : List (ℕ × List ℕ) = passes.0 ++ (new.position.lines, new.text) ∷ [] in
    way-sheet mode input (stream_of new left) told told' new.position given sheet old
    (fresh-passes reader new input left told told' given fresh passes.1)
    (fresh-reads reader input (contents_to_come new left) (Ok sheet) fresh reads)
