-- Whole sessions of cups: what the mode `groups` with proofs writes for an input makes, with that
-- input, a report that the mode `groups_check` accepts.
use Rattle.std.specs.Prelude.{◌≡◌, ◌≤◌, ℕ, ◌+◌, true, List, [], ◌∷◌, length}
use Rattle.port_core.specs.Contents.{contents_of, input_limit}
use Rattle.answer_rows.specs.Parts.{IsMadeOf}
use Rattle.cup_sheet.specs.Cups.{clubs_together}
use Rattle.cup_turns.specs.CupCourses.{CupPlayed, cup_course_of}
use Rattle.run_ends.specs.declared.status.Status.TheVariants.{Done}
use Rattle.run_ends.specs.Runs.{IsText, session_status}
use Rattle.futmax_main.specs.Checks.{IsCheckText, accepted_row}
use Rattle.futmax_main.specs.CupModes.{IsGroupsAnswer, cup_judge, groups_kind}
use Rattle.report_laws.specs.inside.AcceptedTexts.{input_with_answers}
use Rattle.report_laws.specs.inside.WrittenCupReports.{unsettled_in_answer}

-- a row for each club of the cup at each of these asks
abbrev pub rows_of_cup_asks : List CupPlayed → ℕ
rows_of_cup_asks [] = 0
rows_of_cup_asks (asked ∷ asks) = clubs_together asked.cup.groups + rows_of_cup_asks asks

-- how many clubs a text leaves unsettled that is an answer to each of these asks
abbrev pub unsettled_in_cup_text : (asks : List CupPlayed) (text : List ℕ)
    → IsMadeOf (IsGroupsAnswer true) asks text → ℕ
unsettled_in_cup_text [] text made = 0
unsettled_in_cup_text (asked ∷ asks) text made =
    unsettled_in_answer asked.cup asked.seasons asked.epoch made.0 made.3
    + unsettled_in_cup_text asks made.1 made.4

-- if the session of an input is complete, then a check of that input with a text that the session
-- may write ends well, and its row is `accepted`, with all rows of the asks and as many unsettled
-- ones as the text has, if all that is checked is not longer than an input may be
abbrev pub CupTextsAreAccepted : Type 0
CupTextsAreAccepted =
    (input text : List ℕ) → session_status (groups_kind true) input ≡ Done
    → (told : IsText (groups_kind true) input text)
    → length (input_with_answers input text) ≤ input_limit
    → let asks = (cup_course_of (contents_of input)).asks in
    IsCheckText cup_judge (input_with_answers input text) Done
    (accepted_row (rows_of_cup_asks asks) (unsettled_in_cup_text asks told.0 told.2))
