use Rattle.std.proofs.Common.{◌≡◌, drop}
use Rattle.cup_grammar.specs.PlacedGroups.{group_with, placed_groups}
use Rattle.cup_check.proofs.report.CupReport.group_with.Given as goal

-- the groups so far do not have the club
abbrev pub invariant-loop-number : goal.invariant-loop-number
invariant-loop-number l =
    group_with (placed_groups l.self.basis) l.club
    ≡ group_with (drop l.number (placed_groups l.self.basis)) l.club
