use Rattle.std.proofs.Common.{◌≡◌, ◌++◌}
use Rattle.answer_rows.specs.AskedQuestions.{questions_of_line}
use Rattle.answer_rows.proofs.asked.push_line.Given as goal

-- the questions about the clubs so far come after those before
abbrev pub invariant-loop-club : goal.invariant-loop-club
invariant-loop-club l =
    l.asked.items ≡ l.fn.asked.items ++ questions_of_line l.club l.line
