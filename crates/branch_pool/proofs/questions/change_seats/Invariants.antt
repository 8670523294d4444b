use Rattle.std.proofs.Common.{◌≡◌, ◌++◌, map, take, drop}
use Rattle.branch_pool.specs.inside.QuestionStates.{tree_for}
use Rattle.branch_pool.specs.inside.Steps.{seat_changed}
use Rattle.branch_pool.proofs.questions.change_seats.Given as goal

-- the seats before this place are changed, the others and their trees as they were
abbrev pub invariant-loop-place : goal.invariant-loop-place
invariant-loop-place l =
    (l.seats.items ≡ map (seat_changed l.sheet l.season) (take l.place l.fn.seats.items)
    ++ drop l.place l.fn.seats.items)
    × (drop l.place l.trees.items
    ≡ map (tree_for l.sheet l.season) (drop l.place l.fn.seats.items))
