-- The texts of a session: an answer to each ask, and a saved text where its end has one written.
use Rattle.std.specs.Prelude.{ℕ, List}
use Rattle.answer_rows.specs.Parts.{IsMadeOf}
use Rattle.pool_save.specs.SavedItems.{IsSavedOf}
use Rattle.command_words.specs.declared.command.Mode.{Mode}
use Rattle.run_ends.specs.Texts.{SessionKind}
use Rattle.session_turns.specs.Plays.{Played}
use Rattle.session_turns.specs.Courses.{course_of}
use Rattle.session_turns.specs.Answers.{IsAnswerTo}

-- whole answers to these asks, in their order
abbrev pub AreAnswers : Mode → List Played → List ℕ → Type 0
AreAnswers mode asks text = IsMadeOf (IsAnswerTo mode) asks text

-- the text is a saved text of what was played
abbrev pub IsSavedText : Played → List ℕ → Type 0
IsSavedText played text = IsSavedOf played.sheet played.season text

-- the session of a mode: the course of its input, the answers of its asks, and a saved text if its
-- end has one written
abbrev pub session_kind : Mode → SessionKind Played
session_kind mode =
    record { course = course_of mode; IsAnswer = IsAnswerTo mode; IsClosing = IsSavedText }
