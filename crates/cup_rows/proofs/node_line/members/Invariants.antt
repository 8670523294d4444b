use Rattle.std.proofs.Common.{◌≡◌}
use Rattle.cup_rows.proofs.node_line.members.Given as goal

-- the list has the clubs so far
abbrev pub invariant-loop-club : goal.invariant-loop-club
invariant-loop-club l = l.clubs.items ≡ l.yielded
