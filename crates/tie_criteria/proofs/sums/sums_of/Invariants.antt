use Rattle.std.proofs.Common.{◌≡◌, ◌*◌, ◌+ℤ◌, drop}
use Rattle.league_core.specs.game.Sums.{sum_over}
use Rattle.tie_criteria.specs.declared.measure.Measure.{Measure}
use Rattle.tie_criteria.specs.inside.Measures.{worth_of, value_in}
use Rattle.tie_criteria.specs.inside.Sums.{sum_by, IsNear}
use Rattle.tie_criteria.proofs.sums.sums_of.Given as goal

-- the totals so far and what is left make the whole sums; each match adds at most 255 either way
abbrev pub invariant-loop-i : goal.invariant-loop-i
invariant-loop-i l = record {
  so_far : (measure : Measure) → (sum_by l.total measure
      +ℤ sum_over (value_in l.matches (worth_of measure) l.club) (drop l.i l.fixtures)
      (drop l.i l.scores))
      ≡ sum_over (value_in l.matches (worth_of measure) l.club) l.fixtures l.scores;
  near : (measure : Measure) → IsNear (255 * l.i) (sum_by l.total measure);
}
