use Rattle.std.proofs.Common.{◌≡◌}
use Rattle.what_if.specs.inside.GivenParts.{AddsVerdicts}
use Rattle.what_if.proofs.given.push_line.Given as goal

-- the verdicts about the clubs so far come after those before, and the worker is on this season
abbrev pub invariant-loop-club : goal.invariant-loop-club
invariant-loop-club l =
    AddsVerdicts l.stage.sheet l.stage.season l.base l.line l.club l.fn.found.items l.found.items
    × (l.solver.sheet ≡ l.fn.solver.sheet) × (l.solver.season ≡ l.fn.solver.season)
