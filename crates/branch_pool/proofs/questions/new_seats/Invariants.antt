use Rattle.std.proofs.Common.{◌≡◌, map, take}
use Rattle.branch_pool.specs.inside.States.{new_seat}
use Rattle.branch_pool.proofs.questions.new_seats.Given as goal

-- one seat for each question so far
abbrev pub invariant-loop-question : goal.invariant-loop-question
invariant-loop-question l = l.seats.items ≡ map new_seat (take l.question-index l.questions)
