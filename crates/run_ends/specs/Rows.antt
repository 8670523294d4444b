-- The rows that end a run: each has a cause of its own, and ends with LF.
use Rattle.std.specs.Prelude.{ℕ, List, [], ◌∷◌, codes, decimal}
use Rattle.cert_text.specs.Rows.{text_of_row}
use Rattle.cup_sheet.specs.CupFaults.{cup_code_of}
use Rattle.fixture_sheet.specs.Faults.{sheet_code_of}
use Rattle.result_log.specs.Faults.{feed_code_of}
use Rattle.run_ends.specs.declared.run_end.Cause.{Cause}
use Rattle.run_ends.specs.declared.run_end.Cause.TheVariants as cause
use Rattle.run_ends.specs.declared.run_end.Fault.{Fault}

-- `usage,..`, for words that fit no mode
abbrev pub usage_row : List ℕ
usage_row =
    text_of_row (codes "usage" ∷ codes "futmax MODE [--workers N] [--proofs] [--seed N]" ∷ [])

-- the code of a refusal
abbrev pub cause_text : Cause → List ℕ
cause_text (cause.Sheet fault) = sheet_code_of fault
cause_text (cause.Cup fault) = cup_code_of fault
cause_text (cause.Feed fault) = feed_code_of fault
cause_text cause.LineTooLong = codes "line_too_long"
cause_text cause.InputTooLong = codes "input_too_long"
cause_text cause.BadSave = codes "bad_save"

-- `fault,LINE,CODE`
abbrev pub fault_row : Fault → List ℕ
fault_row fault =
    text_of_row (codes "fault" ∷ decimal fault.number ∷ cause_text fault.cause ∷ [])
