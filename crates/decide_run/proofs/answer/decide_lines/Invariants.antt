use Rattle.std.proofs.Common.{◌≡◌, take}
use Rattle.decide_run.specs.inside.WideParts.{AreDecidedForLines}
use Rattle.decide_run.proofs.answer.decide_lines.Given as goal

-- what is decided about the lines so far, and the worker is on this season
abbrev pub invariant-loop-line : goal.invariant-loop-line
invariant-loop-line l =
    AreDecidedForLines l.played.sheet l.played.season (take l.line-index l.line-items) l.found.items
    × (l.solver.sheet ≡ l.fn.solver.sheet) × (l.solver.season ≡ l.fn.solver.season)
