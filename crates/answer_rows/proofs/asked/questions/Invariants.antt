use Rattle.std.proofs.Common.{◌≡◌, take, length}
use Rattle.std.specs.List.{flat_map}
use Rattle.answer_rows.specs.AskedQuestions.{questions_of_line}
use Rattle.answer_rows.proofs.asked.questions.Given as goal

-- the questions about the lines so far
abbrev pub invariant-loop-line : goal.invariant-loop-line
invariant-loop-line l =
    l.asked.items
    ≡ flat_map (questions_of_line (length l.sheet.clubs)) (take l.line-index l.sheet.lines)
