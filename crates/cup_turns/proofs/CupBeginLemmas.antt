-- The reading of a cup's sheet, from a reader that has given nothing: the way to the feed after it,
-- or what comes in its place.
use Rattle.std.proofs.Common.{◌≡◌, ℕ, Bool, List, [], ◌∷◌, ◌++◌, Option, Some, None, Result, Ok}
use Rattle.std.proofs.Common.{Err}
use Rattle.std.proofs.Common.{refl, ap, sym, ◌∙◌, subst, inl, inr}
use Rattle.std.specs.Prelude.{option_map}
use Rattle.std.specs.Io.KnownBytes.{prepend_known}
use Rattle.std.proofs.lemmas.List.{append_cancel_right}
use Rattle.port_core.specs.declared.line.Line.TheVariants as line
use Rattle.port_core.specs.declared.line.ReadStop.TheVariants as stop
use Rattle.port_core.specs.Lines.{lines_of, HasNoLineFeed}
use Rattle.port_core.specs.Contents.{Position, start, number_at, Contents, ended, with_lines}
use Rattle.port_core.specs.Contents.{contents_from, contents_of}
use Rattle.port_core.specs.Readers.{LineReaderView, TakesInput, contents_after, contents_to_come}
use Rattle.port_core.specs.Readers.{stream_of}
use Rattle.port_core.specs.inside.ReaderCalls.{Passes, LeavesReader, PassesKnown, PassesTo}
use Rattle.port_core.specs.inside.ReaderCalls.{given_by}
use Rattle.fixture_sheet.specs.LastReads.{ReadsOnWay}
use Rattle.fixture_sheet.specs.inside.Calls.{CountsSheet, Leads, PassesUpTo, ReadsSheet}
use Rattle.fixture_sheet.specs.inside.Calls.{ReadsSheetAs, sheet_answer_after}
use Rattle.fixture_sheet.specs.inside.SheetReads.{LeadsToDraft, StopsAtSheet}
use Rattle.fixture_sheet.proofs.LastReadLemmas.{passed-to-come}
use Rattle.cup_sheet.specs.declared.cup.Cup.{Cup}
use Rattle.cup_sheet.specs.declared.cup.CupDraft.{CupDraft}
use Rattle.fixture_sheet.specs.declared.fault.ReadingStop.TheVariants as cup_stop
use Rattle.cup_sheet.specs.CupRecords.{cup_rules}
use Rattle.cup_sheet.specs.CupReadings.{CupStop, cup_reading_of}
use Rattle.run_ends.specs.declared.status.Status.{Status}
use Rattle.run_ends.specs.declared.status.Status.TheVariants.{ReadFault, OutOfMemory}
use Rattle.run_ends.specs.declared.run_end.Cause.TheVariants as cause
use Rattle.run_ends.specs.declared.run_end.Fault.{Fault}
use Rattle.run_ends.specs.declared.run_end.RunEnd.{RunEnd}
use Rattle.run_ends.specs.declared.run_end.RunEnd.TheVariants.{Refused}
use Rattle.run_ends.specs.InputEnds.{input_fault, line_fault, outcome_at_cup}
use Rattle.run_ends.specs.Courses.{CourseOf, course_ended}
use Rattle.run_ends.specs.LastReads.{Stands, StopsSession, fresh_reader}
use Rattle.run_ends.specs.Runs.{Counts, Serves}
use Rattle.run_ends.specs.inside.RunTurns.{MayEndSession}
use Rattle.run_ends.specs.inside.Stops.{CountsStop, FaultEnds, StopEnds, stop_of_cup}
use Rattle.run_ends.specs.inside.Ways.{HasCome, Path}
use Rattle.run_ends.proofs.RunTextLemmas.{IsAnswered, reached-start}
use Rattle.run_ends.proofs.RunEndLemmas.{counts-end, fault-serves, serves-nothing}
use Rattle.run_ends.proofs.StandLemmas.{fresh-way, stops-any, told-front, told-nothing}
use Rattle.run_ends.proofs.WayLemmas.{all-contents, fails-unasked, first-path, fresh-contents}
use Rattle.run_ends.proofs.WayLemmas.{fresh-passes}
use Rattle.league_core.proofs.plain.Streams.{append_known-nothing}
use Rattle.cup_turns.specs.CupCourses.{CupPlayed, cup_course_from, cup_course_of}
use Rattle.cup_turns.specs.CupCourses.{cup_course_of_reading, cup_kind}
use Rattle.cup_turns.specs.CupLastReads.{LeadCup, LeadToCupFeed}
use Rattle.cup_turns.proofs.CupElsewhereLemmas.{cup-elsewhere, cup-reading}

-- a course that is ended so
ended-so : {one other : RunEnd} → one ≡ other
    → course_ended {Play = CupPlayed} one ≡ course_ended other
ended-so is =
    let P : RunEnd → CourseOf CupPlayed = λ outcome. course_ended outcome in
    ap P is

module _ (IsAnswer : CupPlayed → List ℕ → Type 0) (answered : IsAnswered (cup_kind IsAnswer)) where
  -- the way to the feed
  way-cup : (input after : Option (List ℕ)) (told told' : Bool)
      (to : Position) (given : List (ℕ × List ℕ)) (cup : Cup) (old : Option (List ℕ))
      → PassesKnown start input told to after told' given
      → ReadsSheetAs cup_rules (contents_after start input) (contents_after to after) (Ok cup)
      → Path (cup_kind IsAnswer) input told after told' to (cup_course_from cup []) old old
  way-cup None after told told' to given cup old passed reads = tt
  way-cup (Some input) None told told' to given cup old passed reads = absurd passed
  way-cup (Some input) (Some after) told told' to given cup old passed reads =
      let elsewhere = cup-elsewhere given (contents_of input) (contents_from to (lines_of after))
      cup (all-contents input after told told' to given passed) reads in
      first-path (cup_kind IsAnswer) input after told told' to given (cup_course_from cup []) old
      passed (λ rest. ap cup_course_of_reading (elsewhere rest))

  -- no cup came, for this fault
  turn-no_cup : (input after : Option (List ℕ)) (told told' : Bool)
      (to : Position) (given : List (ℕ × List ℕ)) (found : CupStop) (fault : Fault)
      (left old now : Option (List ℕ)) (status : Status)
      → PassesKnown start input told to after told' given
      → ReadsSheetAs cup_rules (contents_after start input) (contents_after to after) (Err found)
      → outcome_at_cup found ≡ Refused fault → FaultEnds fault old now status
      → Serves (cup_kind IsAnswer) input left told' old now status
  turn-no_cup None after told told' to given found fault left old now status passed reads is ends =
      tt
  turn-no_cup (Some input) None told told' to given found fault left old now status passed reads is
      ends = absurd passed
  turn-no_cup (Some input) (Some after) told told' to given found fault left old now status passed
      reads is ends =
      let read = cup-reading (contents_of input) (contents_from to (lines_of after)) (Err found)
      reads in
      fault-serves (cup_kind IsAnswer) answered input [] left told' old old now fault status
      (reached-start (cup_kind IsAnswer) input (course_ended (Refused fault))
      (ap cup_course_of_reading read ∙ ended-so is)) (append_known-nothing old) ends

  -- the source failed before the cup was whole
  fails-early : (input held left : List ℕ) (told told' : Bool) (to : Position)
      (given : List (ℕ × List ℕ)) (old : Option (List ℕ))
      → Passes start input told to (held ++ left) told' given
      → (draft : Option CupDraft)
      → Leads cup_rules (Some (contents_of input))
      (Some (contents_from to (lines_of (held ++ left)))) draft
      → HasNoLineFeed held
      → Serves (cup_kind IsAnswer) (Some input) (Some left) told' old old ReadFault
  fails-early input held left told told' to given old passed draft leads no_feed =
      let after = held ++ left in
      let there = contents_from to (lines_of after) in
      let some : contents_of input ≡ with_lines leads.0 there =
      told-front leads.0 (contents_of input) there leads.1 in
      let same : given ≡ leads.0 =
      append_cancel_right given leads.0 there.lines
      (ap (λ (c : Contents). c.lines)
      (sym (all-contents input after told told' to given passed) ∙ some)) in
      let number = number_at to in
      let reading = cup_reading_of (ended (Ok number)) draft in
      let read : cup_course_of (with_lines given (ended (Ok number)))
      ≡ cup_course_of_reading reading =
      ap (λ lines. cup_course_of (with_lines lines (ended (Ok number)))) same
      ∙ ap cup_course_of_reading (leads.2 (ended (Ok number))) in
      fails-unasked (cup_kind IsAnswer) input held left told told' to given old
      (cup_course_of_reading reading) passed no_feed read refl (inr (inr (inl (_, refl))))

  turn-fails_early : (input : Option (List ℕ)) (held : List ℕ)
      (left : Option (List ℕ)) (told told' : Bool) (to : Position) (given : List (ℕ × List ℕ))
      (old : Option (List ℕ))
      → PassesKnown start input told to (prepend_known held left) told' given
      → (draft : Option CupDraft)
      → Leads cup_rules (contents_after start input) (contents_after to (prepend_known held left))
      draft
      → HasNoLineFeed held
      → Serves (cup_kind IsAnswer) input left told' old old ReadFault
  turn-fails_early None held left told told' to given old passed draft leads no_feed = tt
  turn-fails_early (Some input) held None told told' to given old passed draft leads no_feed =
      absurd passed
  turn-fails_early (Some input) held (Some left) told told' to given old passed draft leads
      no_feed =
      fails-early input held left told told' to given old passed draft leads no_feed

  module _ (reader new : LineReaderView) (input left : Option (List ℕ)) (told told' : Bool)
      (fresh : reader ≡ fresh_reader) where
    -- what is read of the cup is read of the whole input
    fresh-reads : (after : Option Contents) (result : Result Cup CupStop)
        → ReadsSheetAs cup_rules (contents_to_come reader input) after result
        → ReadsSheetAs cup_rules (contents_after start input) after result
    fresh-reads after result reads =
        let P : Option Contents → Type 0 = λ before. ReadsSheetAs cup_rules before after result in
        subst P (fresh-contents reader input fresh) reads

    -- and so far
    fresh-leads : (after : Option Contents) (draft : Option CupDraft)
        → Leads cup_rules (contents_to_come reader input) after draft
        → Leads cup_rules (contents_after start input) after draft
    fresh-leads after draft leads =
        let P : Option Contents → Type 0 = λ before. Leads cup_rules before after draft in
        subst P (fresh-contents reader input fresh) leads

    -- ---- what came of the reading

    -- a refusal, or a stop for good
    refused-serves : (found : CupStop) (fault : Fault) (old now : Option (List ℕ))
        (status : Status) → outcome_at_cup found ≡ Refused fault
        → ReadsSheetAs cup_rules (contents_to_come reader input) (contents_to_come new left)
        (Err found)
        → PassesUpTo reader new input left told told' (sheet_answer_after {A = Cup} new (Err found))
        → FaultEnds fault old now status
        → Serves (cup_kind IsAnswer) input left told' old now status
    refused-serves found fault old now status is reads passes ends =
        let given : List (ℕ × List ℕ) =
        passes.0 ++ given_by (sheet_answer_after {A = Cup} new (Err found)) new.text in
        turn-no_cup input (stream_of new left) told told' new.position given found fault left old
        now status (fresh-passes reader new input left told told' given fresh passes.1)
        (fresh-reads (contents_to_come new left) (Err found) reads) is ends

    -- what came in place of a cup
    pub cup-refuses : (found : CupStop) (old now : Option (List ℕ)) (status : Status)
        → ReadsSheet cup_rules (contents_to_come reader input) (contents_to_come new left)
        (Err found)
        → PassesUpTo reader new input left told told' (sheet_answer_after {A = Cup} new (Err found))
        → LeavesReader new left (sheet_answer_after {A = Cup} new (Err found))
        → StopEnds (stop_of_cup found) old now status
        → Serves (cup_kind IsAnswer) input left told' old now status
    cup-refuses (cup_stop.Fault number fault) old now status reads passes leaves ends =
        refused-serves (cup_stop.Fault number fault)
        (record { number = number; cause = cause.Cup fault }) old now status refl reads passes ends
    cup-refuses (cup_stop.Read (stop.LineTooLong number)) old now status reads passes leaves ends =
        refused-serves (cup_stop.Read (stop.LineTooLong number)) (line_fault number) old now status
        refl reads passes ends
    cup-refuses (cup_stop.Read (stop.InputTooLong number)) old now status reads passes leaves ends
        =
        refused-serves (cup_stop.Read (stop.InputTooLong number)) (input_fault number) old now
        status refl reads passes ends
    cup-refuses (cup_stop.Read stop.ReadFault) old now status reads passes leaves ends =
        let P : Status → Type 0 = λ s. Serves (cup_kind IsAnswer) input left told' old now s in
        let Q : Option (List ℕ) → Type 0 =
        λ n. Serves (cup_kind IsAnswer) input left told' old n ReadFault in
        subst P (sym ends.0) (subst Q (sym ends.1)
        (turn-fails_early input new.held left told told' new.position (passes.0 ++ []) old
        (fresh-passes reader new input left told told' (passes.0 ++ []) fresh passes.1) reads.0
        (fresh-leads (contents_to_come new left) reads.0 reads.1) leaves.0))
    cup-refuses cup_stop.OutOfMemory old now status reads passes leaves ends =
        let P : Status → Type 0 = λ s. Serves (cup_kind IsAnswer) input left told' old now s in
        let Q : Option (List ℕ) → Type 0 =
        λ n. Serves (cup_kind IsAnswer) input left told' old n OutOfMemory in
        subst P (sym ends.0) (subst Q (sym ends.1)
        (serves-nothing (cup_kind IsAnswer) answered input left told' old))

    -- the cup, and the way to the feed after it
    pub cup-comes : (cup : Cup) (old : Option (List ℕ))
        → ReadsSheet cup_rules (contents_to_come reader input) (contents_to_come new left) (Ok cup)
        → PassesUpTo reader new input left told told' (Ok (line.Text new.position.lines))
        → Path (cup_kind IsAnswer) input told (stream_of new left) told' new.position
        (cup_course_from cup []) old old
    cup-comes cup old reads passes =
        let given : List (ℕ × List ℕ) = passes.0 ++ (new.position.lines, new.text) ∷ [] in
        way-cup input (stream_of new left) told told' new.position given cup old
        (fresh-passes reader new input left told told' given fresh passes.1)
        (fresh-reads (contents_to_come new left) (Ok cup) reads)

-- ---- the last read

-- the way to a cup is on the course
draft-course : (before after : Option Contents) → LeadsToDraft cup_rules before after
    → Stands LeadCup before after
draft-course None after leads = tt
draft-course (Some before) None leads = absurd (told-nothing leads.1.0 before leads.1.1)
draft-course (Some before) (Some after) leads =
    (leads.1.0, told-front leads.1.0 before after leads.1.1, inl (leads.0, leads.1.2))

-- where a session stands after its cup
cup-stands : (before after : Option Contents) (given : List (ℕ × List ℕ)) (cup : Cup)
    → before ≡ option_map (with_lines given) after → ReadsSheetAs cup_rules before after (Ok cup)
    → Stands (λ taken. LeadToCupFeed taken cup []) before after
cup-stands None after given cup is reads = tt
cup-stands (Some before) None given cup is reads = absurd (told-nothing given before is)
cup-stands (Some before) (Some after) given cup is reads =
    let front = told-front given before after is in
    let elsewhere = cup-elsewhere given before after cup front reads in
    (given, front, ([], λ rest. ap cup_course_of_reading (elsewhere rest)))

module _ {S : Type 0} (left : S → Option (List ℕ)) (reads : S → List ℕ → S → Type 0)
    (reader new : LineReaderView) (before after : S) (fresh : reader ≡ fresh_reader) where
  -- what came in place of a cup
  pub cup-last : (found : CupStop) (old now : Option (List ℕ)) (status : Status)
      → StopsAtSheet cup_rules left reads reader new before after (Err found)
      → StopEnds (stop_of_cup found) old now status
      → StopsSession left reads LeadCup before after status
  cup-last (cup_stop.Read stop.ReadFault) old now status ways ends =
      let P : Status → Type 0 = λ s. StopsSession left reads LeadCup before after s in
      subst P (sym ends.0) tt
  cup-last found old now status ways ends =
      stops-any left reads LeadCup new before after status
      (fresh-way left reads LeadCup (LeadsToDraft cup_rules) reader new before after fresh
      draft-course ways)

  -- the cup
  pub cup-come : (x y : Bool) (given : List (ℕ × List ℕ)) (cup : Cup)
      → TakesInput reader new (left before) (left after)
      → PassesTo reader new (left before) (left after) x y given
      → ReadsSheetAs cup_rules (contents_to_come reader (left before))
      (contents_to_come new (left after))
      (Ok cup)
      → ReadsOnWay left reads (LeadsToDraft cup_rules) reader new before after
      → HasCome left reads LeadCup before new after (λ taken. LeadToCupFeed taken cup [])
  cup-come x y given cup takes passes read ways =
      let P : LineReaderView → Type 0 =
      λ r. PassesTo r new (left before) (left after) x y given in
      let Q : LineReaderView → Type 0 =
      λ r. ReadsSheetAs cup_rules (contents_to_come r (left before))
      (contents_to_come new (left after))
      (Ok cup) in
      let R : LineReaderView → Type 0 = λ r. TakesInput r new (left before) (left after) in
      record {
        way = cup-stands (contents_to_come fresh_reader (left before))
            (contents_to_come new (left after)) given cup
            (passed-to-come fresh_reader new (left before) (left after) x y given
            (subst P fresh passes))
            (subst Q fresh read);
        takes = subst R fresh takes;
        last = fresh-way left reads LeadCup (LeadsToDraft cup_rules) reader new before after fresh
            draft-course ways;
      }

-- ---- the counts of faults

-- after a stop in place of a cup
pub cup-counts : (reads reads' writes writes' : ℕ) (found : CupStop) (status : Status)
    → CountsSheet {A = Cup} reads reads' (Err found)
    → CountsStop (stop_of_cup found) writes writes' status
    → Counts reads reads' writes writes' status × MayEndSession status
cup-counts reads reads' writes writes' (cup_stop.Read stop.ReadFault) status rose counts =
    let P : Status → Type 0 =
    λ s. Counts reads reads' writes writes' s × MayEndSession s in
    subst P (sym counts.0) ((rose, counts.1), tt)
cup-counts reads reads' writes writes' found status same counts =
    counts-end reads reads' writes writes' status same counts
