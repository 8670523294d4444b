use Rattle.std.proofs.Common.{◌≡◌}
use Rattle.cup_groups.specs.GroupStarts.{start_of_group}
use Rattle.cup_groups.proofs.start.group_start.Given as goal

-- the start of the next group
abbrev pub invariant-loop-group : goal.invariant-loop-group
invariant-loop-group l = l.start ≡ start_of_group l.cup.groups l.group
