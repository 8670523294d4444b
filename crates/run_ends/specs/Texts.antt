-- The texts of a course: an answer to each ask, and then what is written last.
use Rattle.std.specs.Prelude.{◌≡◌, ℕ, ◌⊎◌, List, [], ◌++◌, Option, None, Some}
use Rattle.port_core.specs.Ports.{IsBytePrefix}
use Rattle.port_core.specs.Contents.{Contents}
use Rattle.fixture_sheet.specs.declared.fault.SheetFault.{SheetFault}
use Rattle.cup_sheet.specs.declared.fault.CupFault.{CupFault}
use Rattle.answer_rows.specs.Parts.{IsMadeOf}
use Rattle.run_ends.specs.declared.run_end.Cause.TheVariants as cause
use Rattle.run_ends.specs.declared.run_end.RunEnd.{RunEnd}
use Rattle.run_ends.specs.declared.run_end.RunEnd.TheVariants.{Complete, Refused}
use Rattle.run_ends.specs.InputEnds.{save_fault}
use Rattle.run_ends.specs.Rows.{fault_row}
use Rattle.run_ends.specs.Courses.{CourseOf}

-- a kind of session: the course of an input's contents, which texts answer an ask about a play, and
-- which are written last if the input's end has a play answered
pub record SessionKind (Play : Type 0) : Type 1 where
  pub course : Contents → CourseOf Play
  pub IsAnswer : Play → List ℕ → Type 0
  pub IsClosing : Play → List ℕ → Type 0

-- the text is what is written last if a session ends so: the row of a fault; or, if its end has
-- something answered, the answer of that; or nothing
abbrev pub IsLastText : {Play : Type 0} → (Play → List ℕ → Type 0) → RunEnd → Option Play → List ℕ
    → Type 0
IsLastText IsClosing (Refused fault) closing text = text ≡ fault_row fault
IsLastText IsClosing Complete None text = text ≡ []
IsLastText IsClosing Complete (Some play) text = IsClosing play text

-- the text is one that a session of this kind and course writes
abbrev pub IsTextOf : {Play : Type 0} → SessionKind Play → CourseOf Play → List ℕ → Type 0
IsTextOf kind course text =
    (answers : List ℕ) × (last : List ℕ) × IsMadeOf kind.IsAnswer course.asks answers
    × IsLastText kind.IsClosing course.outcome course.closing last × (text ≡ answers ++ last)

-- the text is a prefix of one that a session of this kind and course writes
abbrev pub IsPrefixOf : {Play : Type 0} → SessionKind Play → CourseOf Play → List ℕ → Type 0
IsPrefixOf kind course text =
    (whole : List ℕ) × IsTextOf kind course whole × IsBytePrefix text whole

-- no line is refused if the input ends at this number: it is complete there, or its sheet is not,
-- or that of its cup, or its saved text
abbrev pub IsRefusedAtEnd : ℕ → RunEnd → Type 0
IsRefusedAtEnd number outcome =
    (outcome ≡ Complete)
    ⊎ ((fault : SheetFault)
    × (outcome ≡ Refused (record { number = number; cause = cause.Sheet fault })))
    ⊎ ((fault : CupFault)
    × (outcome ≡ Refused (record { number = number; cause = cause.Cup fault })))
    ⊎ (outcome ≡ Refused (save_fault number))

-- the text is the answers of all asks of this course, whose input ends at this number
abbrev pub AreAllAnswers : {Play : Type 0} → SessionKind Play → ℕ → CourseOf Play → List ℕ → Type 0
AreAllAnswers kind number course text =
    IsMadeOf kind.IsAnswer course.asks text × IsRefusedAtEnd number course.outcome
