use Rattle.std.proofs.Common.{◌≤◌, drop, length, map}
use Rattle.std.specs.List.{range_with_len}
use Rattle.cup_sheet.specs.Cups.{clubs_together}
use Rattle.cup_grammar.specs.CupDues.{club_row}
use Rattle.cup_check.specs.inside.CupGoes.{ReachesInCup}
use Rattle.cup_check.proofs.report.CupReport.items.Given as goal

abbrev pub invariant-loop-club : goal.invariant-loop-club
invariant-loop-club l =
    (l.found.next ≤ length l.self.tokens) × (l.found.unsettled ≤ l.club)
    × ReachesInCup l.self l.from
    (map club_row (range_with_len 0 (clubs_together l.self.basis.cup.groups))) l.found.next
    (map club_row (drop l.club (range_with_len 0 (clubs_together l.self.basis.cup.groups))))
    l.found.unsettled
