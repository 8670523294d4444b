use Rattle.std.proofs.Common.{◌≡◌}
use Rattle.answer_rows.specs.inside.RowItems.{AddsAbout}
use Rattle.answer_rows.specs.Items.{answer_row}
use Rattle.decide_run.specs.inside.WideParts.{IsRightDecided}
use Rattle.decide_run.proofs.answer.push_line.Given as goal

-- what is decided of the clubs so far comes after what was before, and the worker is on this season
abbrev pub invariant-loop-club : goal.invariant-loop-club
invariant-loop-club l =
    AddsAbout answer_row (IsRightDecided l.played.sheet l.played.season) l.line l.club
    l.fn.found.items l.found.items
    × (l.solver.sheet ≡ l.fn.solver.sheet) × (l.solver.season ≡ l.fn.solver.season)
