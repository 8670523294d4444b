use Rattle.std.proofs.Common.{◌≤◌, ◌+◌, drop, length}
use Rattle.cert_check.specs.Machine.{part_of_ask}
use Rattle.cert_check.specs.inside.Calls.{Reaches}
use Rattle.par_check.proofs.reading.read_rows.Given as goal

-- the rows so far are shown
abbrev pub invariant-loop-at : goal.invariant-loop-at
invariant-loop-at l = record {
  reaches : Reaches l.report l.from (drop l.row (part_of_ask l.report.basis.sheet)) l.reached.next
      (drop l.at (part_of_ask l.report.basis.sheet)) l.reached.unsettled;
  far : l.from + l.reached.unsettled ≤ l.reached.next;
  room : l.reached.next ≤ length l.report.tokens;
  below : l.at ≤ l.until;
}
