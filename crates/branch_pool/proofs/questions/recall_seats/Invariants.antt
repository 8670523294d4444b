use Rattle.std.proofs.Common.{◌≡◌, ◌++◌, map, take, drop}
use Rattle.branch_pool.specs.inside.Steps.{seat_recalled}
use Rattle.branch_pool.proofs.questions.recall_seats.Given as goal

-- the seats before this place are recalled, the others as they were
abbrev pub invariant-loop-place : goal.invariant-loop-place
invariant-loop-place l =
    l.seats.items ≡ map seat_recalled (take l.place l.fn.seats.items) ++ drop l.place
    l.fn.seats.items
