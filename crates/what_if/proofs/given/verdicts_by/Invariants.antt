use Rattle.std.proofs.Common.{◌≡◌, take}
use Rattle.what_if.specs.inside.GivenParts.{AreRightForLines}
use Rattle.what_if.proofs.given.verdicts_by.Given as goal

-- the verdicts about the lines so far, and the worker is on this season
abbrev pub invariant-loop-line : goal.invariant-loop-line
invariant-loop-line l =
    AreRightForLines l.stage.sheet l.stage.season l.base (take l.line-index l.line-items)
    l.found.items
    × (l.solver.sheet ≡ l.fn.solver.sheet) × (l.solver.season ≡ l.fn.solver.season)
