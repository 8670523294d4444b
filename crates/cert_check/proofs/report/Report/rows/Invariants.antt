use Rattle.std.proofs.Common.{◌≤◌, ◌*◌, drop, length}
use Rattle.std.specs.List.{flat_map}
use Rattle.league_core.specs.game.Sheets.{clubs_of}
use Rattle.cert_check.specs.Machine.{rows_of, rows_on_line}
use Rattle.cert_check.specs.inside.Calls.{Reaches}
use Rattle.cert_check.proofs.report.Report.rows.Given as goal

abbrev pub invariant-loop-place : goal.invariant-loop-place
invariant-loop-place l =
    (l.found.next ≤ length l.self.tokens) × (l.found.unsettled ≤ 24 * l.place)
    × Reaches l.self l.from (rows_of l.self.basis.sheet) l.found.next
    (flat_map (rows_on_line (clubs_of l.self.basis.sheet)) (drop l.place l.self.basis.sheet.lines))
    l.found.unsettled
