use Rattle.std.proofs.Common.{◌≡◌, ℕ, ◌<◌, ◌≤◌, length}
use Rattle.league_core.specs.game.Sums.{worth_to}
use Rattle.tie_bound.specs.inside.Sums.{no_sums, sums_at}
use Rattle.tie_bound.specs.inside.Rows.{IsRow}
use Rattle.tie_bound.proofs.rows.put_rows_over.Given as goal

-- the clubs so far have their rows, and the others none yet
abbrev pub invariant-loop-club : goal.invariant-loop-club
invariant-loop-club l = record {
  done : (other : ℕ) → other < l.club
      → IsRow worth_to l.zone_box.sheet.fixtures l.zone_box.season.scores other
      (sums_at l.table other);
  left : (other : ℕ) → l.club ≤ other → sums_at l.table other ≡ no_sums;
  long : length l.table ≡ 24;
}
