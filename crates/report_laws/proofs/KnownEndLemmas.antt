-- How the session of an input that has bytes ends: no device fails and no memory runs out there. So
-- where it is complete, its sheet is whole and no line of its feed is refused. So it is of a cup.
use Rattle.std.proofs.Common.{◌≡◌, ℕ, Bool, true, false, ◌&&◌, cond, List, [], ◌∷◌, ◌++◌, Option}
use Rattle.std.proofs.Common.{length, Some, None, Result, Ok, Err, refl, sym, subst}
use Rattle.league_core.specs.declared.sheet.Sheet.{Sheet}
use Rattle.league_core.specs.declared.season.Event.{Event}
use Rattle.league_core.specs.game.Seasons.{epoch_of, season_after}
use Rattle.port_core.specs.declared.line.ReadStop.{ReadStop}
use Rattle.port_core.specs.declared.line.ReadStop.TheVariants as read_stop
use Rattle.port_core.specs.Contents.{Contents, Position, contents_by, contents_from, content_at}
use Rattle.port_core.specs.Contents.{is_line_limit_first, is_long_line, is_past_limit}
use Rattle.port_core.specs.Contents.{number_at, position_after, with_content}
use Rattle.port_core.specs.Lines.{text_of_line}
use Rattle.fixture_sheet.specs.declared.fault.SheetFault.{SheetFault}
use Rattle.fixture_sheet.specs.Sheets.{SheetStop}
use Rattle.fixture_sheet.specs.declared.fault.ReadingStop.TheVariants as sheet_stop
use Rattle.fixture_sheet.specs.Records.{SheetProgress}
use Rattle.fixture_sheet.specs.declared.progress.Progress.TheVariants.{SoFar, Whole}
use Rattle.fixture_sheet.specs.Records.{content_taken}
use Rattle.fixture_sheet.specs.Readings.{reading_by}
use Rattle.fixture_sheet.specs.Sheets.{sheet_reading_from}
use Rattle.cup_sheet.specs.declared.cup.Cup.{Cup}
use Rattle.cup_sheet.specs.declared.cup.CupDraft.{CupDraft}
use Rattle.cup_sheet.specs.declared.fault.CupFault.{CupFault}
use Rattle.cup_sheet.specs.CupReadings.{CupStop}
use Rattle.cup_sheet.specs.CupRecords.{CupProgress}
use Rattle.cup_sheet.specs.CupRecords.{cup_content_taken}
use Rattle.cup_sheet.specs.CupReadings.{cup_reading_from}
use Rattle.result_log.specs.declared.entry.Entry.{Entry}
use Rattle.result_log.specs.declared.entry.Entry.TheVariants.{Change, Ask, Proofs, End}
use Rattle.result_log.specs.declared.fault.FeedFault.{FeedFault}
use Rattle.result_log.specs.declared.fault.FeedStop.{FeedStop}
use Rattle.result_log.specs.declared.fault.FeedStop.TheVariants as feed_stop
use Rattle.result_log.specs.Feeds.{entry_in, feed_by, feed_from}
use Rattle.run_ends.specs.declared.run_end.Cause.{Cause}
use Rattle.run_ends.specs.declared.run_end.Cause.TheVariants as cause
use Rattle.run_ends.specs.declared.run_end.RunEnd.{RunEnd}
use Rattle.run_ends.specs.declared.run_end.RunEnd.TheVariants.{Complete, Refused}
use Rattle.run_ends.specs.declared.status.Status.TheVariants.{Done}
use Rattle.run_ends.specs.InputEnds.{outcome_at_cup, outcome_at_sheet}
use Rattle.run_ends.specs.InputEnds.{status_of_cause, status_of_outcome}
use Rattle.session_turns.specs.inside.FeedCourses.{outcome_at_feed}
use Rattle.report_laws.proofs.FeedProofsLemmas.{IsUnrefused}
use Rattle.report_laws.proofs.LineReadLemmas.{ending-with}

-- ---- the input

-- bytes end so
abbrev IsKnownEnding : Result ℕ ReadStop → Type 0
IsKnownEnding (Ok number) = Unit {0}
IsKnownEnding (Err read_stop.ReadFault) = ⊥
IsKnownEnding (Err (read_stop.LineTooLong number)) = Unit {0}
IsKnownEnding (Err (read_stop.InputTooLong number)) = Unit {0}

ending-known : (position : Position) (lines : List (List ℕ))
    → IsKnownEnding (contents_from position lines).ending
ending-known position [] = tt
ending-known position (line ∷ lines) =
    by_tests (is_long_line line && is_line_limit_first position) (is_past_limit position line)
    (ending-known (position_after position (length line)) lines)
  where
    content : List ℕ
    content = content_at position (text_of_line line)

    rest : Contents
    rest = contents_from (position_after position (length line)) lines

    by_tests : (long past : Bool) → IsKnownEnding rest.ending
        → IsKnownEnding (contents_by (cond long
        (Some (read_stop.LineTooLong (number_at position)))
        (cond past (Some (read_stop.InputTooLong (number_at position))) None))
        (with_content (number_at position) content rest)).ending
    by_tests true past known = tt
    by_tests false true known = tt
    by_tests false false known =
        subst IsKnownEnding (sym (ending-with (number_at position) content rest)) known

-- ---- the sheet

-- what comes of the sheet
abbrev IsKnownSheet : Result Sheet SheetStop → Type 0
IsKnownSheet (Ok sheet) = Unit {0}
IsKnownSheet (Err (sheet_stop.Fault number fault)) = Unit {0}
IsKnownSheet (Err (sheet_stop.Read stop)) = IsKnownEnding (Err stop)
IsKnownSheet (Err sheet_stop.OutOfMemory) = ⊥

sheet-known : (lines : List (ℕ × List ℕ)) (ending : Result ℕ ReadStop) (draft : Option Sheet)
    → IsKnownEnding ending → IsKnownSheet (sheet_reading_from lines ending draft).gives
sheet-known [] (Ok number) draft known = tt
sheet-known [] (Err stop) draft known = known
sheet-known (line ∷ lines) ending draft known =
    by_made (content_taken draft line.1) (λ next. sheet-known lines ending next known)
  where
    by_made : (made : Result SheetProgress SheetFault)
        → ((next : Option Sheet) → IsKnownSheet (sheet_reading_from lines ending next).gives)
        → IsKnownSheet (reading_by line.0 (record { lines = lines; ending = ending })
        (sheet_reading_from lines ending) made).gives
    by_made (Ok (SoFar next)) onward = onward next
    by_made (Ok (Whole sheet)) onward = tt
    by_made (Err fault) onward = tt

-- a session that is complete has its sheet
pub sheet-refused : (lines : List (List ℕ)) (position : Position) (stop : SheetStop)
    → (sheet_reading_from (contents_from position lines).lines
    (contents_from position lines).ending None).gives ≡ Err stop
    → outcome_at_sheet stop ≡ Complete → ⊥
sheet-refused lines position stop gives complete =
    by_stop stop (subst IsKnownSheet gives
    (sheet-known (contents_from position lines).lines (contents_from position lines).ending None
    (ending-known position lines))) complete
  where
    by_stop : (stop : SheetStop) → IsKnownSheet (Err stop) → outcome_at_sheet stop ≡ Complete → ⊥
    by_stop (sheet_stop.Fault number fault) known is = cc
    by_stop (sheet_stop.Read read_stop.ReadFault) known is = known
    by_stop (sheet_stop.Read (read_stop.LineTooLong number)) known is = cc
    by_stop (sheet_stop.Read (read_stop.InputTooLong number)) known is = cc
    by_stop sheet_stop.OutOfMemory known is = known

-- ---- the sheet of a cup

-- what comes of it
abbrev IsKnownCup : Result Cup CupStop → Type 0
IsKnownCup (Ok cup) = Unit {0}
IsKnownCup (Err (sheet_stop.Fault number fault)) = Unit {0}
IsKnownCup (Err (sheet_stop.Read stop)) = IsKnownEnding (Err stop)
IsKnownCup (Err sheet_stop.OutOfMemory) = ⊥

cup-known : (lines : List (ℕ × List ℕ)) (ending : Result ℕ ReadStop) (draft : Option CupDraft)
    → IsKnownEnding ending → IsKnownCup (cup_reading_from lines ending draft).gives
cup-known [] (Ok number) draft known = tt
cup-known [] (Err stop) draft known = known
cup-known (line ∷ lines) ending draft known =
    by_made (cup_content_taken draft line.1) (λ next. cup-known lines ending next known)
  where
    by_made : (made : Result CupProgress CupFault)
        → ((next : Option CupDraft) → IsKnownCup (cup_reading_from lines ending next).gives)
        → IsKnownCup (reading_by line.0 (record { lines = lines; ending = ending })
        (cup_reading_from lines ending) made).gives
    by_made (Ok (SoFar next)) onward = onward next
    by_made (Ok (Whole cup)) onward = tt
    by_made (Err fault) onward = tt

-- a session of a cup that is complete has its sheet
pub cup-refused : (lines : List (List ℕ)) (position : Position) (stop : CupStop)
    → (cup_reading_from (contents_from position lines).lines
    (contents_from position lines).ending None).gives ≡ Err stop
    → outcome_at_cup stop ≡ Complete → ⊥
cup-refused lines position stop gives complete =
    by_stop stop (subst IsKnownCup gives
    (cup-known (contents_from position lines).lines (contents_from position lines).ending None
    (ending-known position lines))) complete
  where
    by_stop : (stop : CupStop) → IsKnownCup (Err stop) → outcome_at_cup stop ≡ Complete → ⊥
    by_stop (sheet_stop.Fault number fault) known is = cc
    by_stop (sheet_stop.Read read_stop.ReadFault) known is = known
    by_stop (sheet_stop.Read (read_stop.LineTooLong number)) known is = cc
    by_stop (sheet_stop.Read (read_stop.InputTooLong number)) known is = cc
    by_stop sheet_stop.OutOfMemory known is = known

-- ---- the feed

-- what ends the feed
abbrev IsKnownClose : Result Entry FeedStop → Type 0
IsKnownClose (Ok entry) = Unit {0}
IsKnownClose (Err (feed_stop.Fault number fault)) = Unit {0}
IsKnownClose (Err (feed_stop.Read stop)) = IsKnownEnding (Err stop)
IsKnownClose (Err feed_stop.OutOfMemory) = ⊥

feed-known : (sheet : Sheet) (lines : List (ℕ × List ℕ)) (ending : Result ℕ ReadStop)
    (events : List Event) → IsKnownEnding ending
    → IsKnownClose (feed_from sheet false lines ending events).close
feed-known sheet [] (Ok number) events known = tt
feed-known sheet [] (Err stop) events known = known
feed-known sheet (line ∷ lines) ending events known =
    by_line (entry_in sheet (season_after sheet events) (epoch_of events) false line.1)
    (λ next. feed-known sheet lines ending next known)
  where
    by_line : (found : Result (Option Entry) FeedFault)
        → ((next : List Event) → IsKnownClose (feed_from sheet false lines ending next).close)
        → IsKnownClose (feed_by line.0 (record { lines = lines; ending = ending })
        (feed_from sheet false lines ending) events found).close
    by_line (Ok None) onward = onward events
    by_line (Ok (Some (Change event))) onward = onward (events ++ event ∷ [])
    by_line (Ok (Some Ask)) onward = onward events
    by_line (Ok (Some Proofs)) onward = tt
    by_line (Ok (Some End)) onward = tt
    by_line (Err fault) onward = tt

-- in a session that is complete nothing refuses it
pub feed-unrefused : (sheet : Sheet) (lines : List (ℕ × List ℕ)) (position : Position)
    (bytes : List (List ℕ)) (ending : Result ℕ ReadStop)
    → (contents_from position bytes).ending ≡ ending
    → outcome_at_feed (feed_from sheet false lines ending []).close ≡ Complete
    → IsUnrefused (feed_from sheet false lines ending []).close
feed-unrefused sheet lines position bytes ending same complete =
    by_close (feed_from sheet false lines ending []).close
    (feed-known sheet lines ending [] (subst IsKnownEnding same (ending-known position bytes)))
    complete
  where
    by_close : (close : Result Entry FeedStop) → IsKnownClose close
        → outcome_at_feed close ≡ Complete → IsUnrefused close
    by_close (Ok entry) known is = tt
    by_close (Err (feed_stop.Fault number fault)) known is = cc
    by_close (Err (feed_stop.Read read_stop.ReadFault)) known is = known
    by_close (Err (feed_stop.Read (read_stop.LineTooLong number))) known is = cc
    by_close (Err (feed_stop.Read (read_stop.InputTooLong number))) known is = cc
    by_close (Err feed_stop.OutOfMemory) known is = known

-- ---- the status

-- a session whose status is this is complete
pub done-complete : (outcome : RunEnd) → status_of_outcome outcome ≡ Done → outcome ≡ Complete
done-complete Complete is = refl
done-complete (Refused fault) is = absurd (by_cause fault.cause is)
  where
    by_cause : (why : Cause) → status_of_cause why ≡ Done → ⊥
    by_cause (cause.Sheet fault) is = cc
    by_cause (cause.Cup fault) is = cc
    by_cause (cause.Feed fault) is = cc
    by_cause cause.LineTooLong is = cc
    by_cause cause.InputTooLong is = cc
    by_cause cause.BadSave is = cc
