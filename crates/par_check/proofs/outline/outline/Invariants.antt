use Rattle.std.proofs.Common.{◌≡◌, ◌≤◌, ◌+◌, ℕ, [], ◌∷◌}
use Rattle.cert_check.specs.ExpectedItems.{verdict_row}
use Rattle.par_check.specs.FirstStops.{grammar_from}
use Rattle.par_check.specs.Outlines.{ending_by_shapes}
use Rattle.par_check.proofs.outline.outline.Given as goal

-- what the grammar makes of the item is what the shapes of what is due make of the lines left
abbrev pub invariant-loop-at : goal.invariant-loop-at
invariant-loop-at l =
    (l.from + l.unsettled ≤ l.at)
    × ((before : ℕ)
    → grammar_from l.report l.from (verdict_row l.row.line l.row.club ∷ []) before
    ≡ ending_by_shapes l.report l.row l.at l.left.items (before + l.unsettled))
