-- Whole sessions: what the modes `verdicts` and `decide` with proofs write for an input makes, with
-- that input, a report that the modes `check` and `decide_check` accept.
use Rattle.std.specs.Prelude.{◌≡◌, ◌≤◌, ℕ, ◌+◌, ◌*◌, true, ◌==◌, List, [], ◌∷◌, ◌++◌, length}
use Rattle.std.specs.Prelude.{if◌then◌else◌, codes, None}
use Rattle.port_core.specs.Lines.{line_feed}
use Rattle.port_core.specs.Contents.{contents_of, input_limit}
use Rattle.answer_rows.specs.declared.word.Word.{Word}
use Rattle.answer_rows.specs.Items.{AnswerRow, answer_rows}
use Rattle.answer_rows.specs.Parts.{IsMadeOf}
use Rattle.command_words.specs.declared.command.Mode.{Mode}
use Rattle.command_words.specs.declared.command.Mode.TheVariants.{Verdicts, Decide}
use Rattle.cert_check.specs.declared.expected.ReportKind.{ReportKind}
use Rattle.cert_check.specs.declared.expected.ReportKind.TheVariants.{Plain, Wide}
use Rattle.pool_save.specs.SavedAnswers.{IsItemText}
use Rattle.decide_run.specs.DecidedTexts.{IsDecidedItemText}
use Rattle.run_ends.specs.declared.status.Status.TheVariants.{Done}
use Rattle.session_turns.specs.Plays.{Played}
use Rattle.session_turns.specs.Answers.{IsAnswerTo}
use Rattle.session_turns.specs.Courses.{course_of}
use Rattle.futmax_main.specs.Checks.{IsCheckText, accepted_row, report_judge}
use Rattle.session_turns.specs.Texts.{AreAnswers}
use Rattle.report_laws.specs.inside.AcceptedAnswers.{unsettled_one}
use Rattle.run_ends.specs.Runs.{IsText, session_status}
use Rattle.session_turns.specs.Texts.{session_kind}

-- the mode whose answers with proofs are reports of this kind
abbrev pub mode_of_kind : ReportKind → Mode
mode_of_kind Plain = Verdicts true
mode_of_kind Wide = Decide true

-- an input with an LF at its end: one more if its last line has none
abbrev pub line_ended : List ℕ → List ℕ
line_ended [] = []
line_ended (byte ∷ []) = if byte == line_feed then byte ∷ [] else byte ∷ line_feed ∷ []
line_ended (byte ∷ next ∷ bytes) = byte ∷ line_ended (next ∷ bytes)

-- what is checked: an input, the record `proofs` on a line of its own, and the answers
abbrev pub input_with_answers : List ℕ → List ℕ → List ℕ
input_with_answers input answers = line_ended input ++ (codes "proofs" ++ line_feed ∷ answers)

-- a row for each line and each club of the sheet at each of these asks
abbrev pub rows_of_asks : List Played → ℕ
rows_of_asks [] = 0
rows_of_asks (asked ∷ asks) =
    length asked.sheet.lines * length asked.sheet.clubs + rows_of_asks asks

-- how many of the items that a text is made of are unsettled, if each of them is a text of this
-- form, and has this word
abbrev pub unsettled_made : (IsItem : AnswerRow → List ℕ → Type 0)
    → ((about : AnswerRow) (text : List ℕ) → IsItem about text → Word)
    → (rows : List AnswerRow) (text : List ℕ) → IsMadeOf IsItem rows text → ℕ
unsettled_made IsItem word_of [] text made = 0
unsettled_made IsItem word_of (about ∷ rows) text made =
    unsettled_one (word_of about made.0 made.3)
    + unsettled_made IsItem word_of rows made.1 made.4

-- the same of an answer to an ask
abbrev pub unsettled_answered : (kind : ReportKind) (asked : Played) (text : List ℕ)
    → IsAnswerTo (mode_of_kind kind) asked text → ℕ
unsettled_answered Plain asked text told =
    unsettled_made (IsItemText true asked.sheet asked.season None) (λ about part item. item.0)
    (answer_rows asked.sheet) told.0 told.2
unsettled_answered Wide asked text told =
    unsettled_made (IsDecidedItemText true asked.sheet asked.season) (λ about part item. item.0)
    (answer_rows asked.sheet) told.0 told.2

-- the same of all answers that a text is
abbrev pub unsettled_told : (kind : ReportKind) (asks : List Played) (text : List ℕ)
    → AreAnswers (mode_of_kind kind) asks text → ℕ
unsettled_told kind [] text told = 0
unsettled_told kind (asked ∷ asks) text told =
    unsettled_answered kind asked told.0 told.3 + unsettled_told kind asks told.1 told.4

-- if the session of an input is complete, then a check of that input with a text that the session
-- may write ends well, and its row is `accepted`, with all rows of the asks and as many unsettled
-- ones as the text has, if all that is checked is not longer than an input may be
abbrev pub TextsAreAccepted : Type 0
TextsAreAccepted =
    (kind : ReportKind) (input text : List ℕ) → session_status (session_kind (mode_of_kind kind))
    input ≡ Done
    → (told : IsText (session_kind (mode_of_kind kind)) input text)
    → length (input_with_answers input text) ≤ input_limit
    → let asks = (course_of (mode_of_kind kind) (contents_of input)).asks in
    IsCheckText (report_judge kind) (input_with_answers input text) Done
    (accepted_row (rows_of_asks asks) (unsettled_told kind asks told.0 told.2))
