use Rattle.std.proofs.Common.{◌≤◌, drop, length}
use Rattle.std.specs.List.{flat_map}
use Rattle.club_keys.specs.inside.KeyEnds.{key_parts}
use Rattle.cup_grammar.specs.PlacedGroups.{groups_at, placed_groups}
use Rattle.cup_grammar.specs.CupDues.{others_due}
use Rattle.cup_check.specs.inside.CupGoes.{ReachesInCup}
use Rattle.cup_check.proofs.report.CupReport.other_trees.Given as goal

abbrev pub invariant-loop-number : goal.invariant-loop-number
invariant-loop-number l =
    (l.at ≤ length l.self.tokens)
    × ReachesInCup l.self l.from (flat_map (others_due l.claim (key_parts l.key))
    (groups_at (placed_groups l.self.basis) l.numbers)) l.at
    (flat_map (others_due l.claim (key_parts l.key))
    (groups_at (placed_groups l.self.basis) (drop l.number-index l.numbers))) 0
