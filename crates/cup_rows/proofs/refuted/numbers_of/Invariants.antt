use Rattle.std.proofs.Common.{◌≡◌, take}
use Rattle.runners_up.specs.inside.GroupSurveys.{group_numbers}
use Rattle.cup_rows.proofs.refuted.numbers_of.Given as goal

-- the groups so far
abbrev pub invariant-loop-group : goal.invariant-loop-group
invariant-loop-group l = l.numbers.items ≡ group_numbers (take l.group-index l.listed)
