use Rattle.std.proofs.Common.{◌≡◌, drop}
use Rattle.cup_check.specs.inside.CupSideCalls.{are_others}
use Rattle.cup_check.proofs.report.CupReport.are_others.Given as goal

-- it comes down to the numbers that are left
abbrev pub invariant-loop-number : goal.invariant-loop-number
invariant-loop-number l =
    are_others l.self.basis l.mine l.numbers
    ≡ are_others l.self.basis l.mine (drop l.number-index l.numbers)
