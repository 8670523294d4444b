use Rattle.std.proofs.Common.{◌≡◌, ◌+◌, map, take}
use Rattle.cup_rows.proofs.node_line.numbers_in_cup.Given as goal

-- the clubs so far
abbrev pub invariant-loop-club : goal.invariant-loop-club
invariant-loop-club l =
    l.numbers.items ≡ map (λ club. l.fn.first + club) (take l.club-index l.clubs)
