use Rattle.std.proofs.Common.{◌≤◌, ◌+◌, length}
use Rattle.par_check.specs.Cuts.{KeepsItems}
use Rattle.par_check.proofs.CutLemmas.{RowsCut}
use Rattle.par_check.proofs.cutting.cut_rows.Given as goal

-- the rows so far are cut, and their items are within the lines
abbrev pub invariant-loop-row : goal.invariant-loop-row
invariant-loop-row l = record {
  cut : RowsCut l.report l.ask l.from l.fn.items.items l.items.items l.row l.reached.next
      l.reached.unsettled;
  items : KeepsItems l.report.basis.sheet (length l.report.tokens) l.ask l.fn.items.items
      l.items.items;
  far : l.from + l.reached.unsettled ≤ l.reached.next;
  room : l.reached.next ≤ length l.report.tokens;
}
