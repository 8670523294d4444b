use Rattle.std.proofs.Common.{◌≡◌, ◌≤◌}
use Rattle.cup_groups.specs.GroupStarts.{clubs_before}
use Rattle.cup_groups.proofs.seat.seat_of.Given as goal

-- the clubs of the groups so far are before the club
abbrev pub invariant-loop-group : goal.invariant-loop-group
invariant-loop-group l =
    (l.first ≡ clubs_before l.cup.groups l.group) × (l.first ≤ l.club)
