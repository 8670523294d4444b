use Rattle.std.proofs.Common.{ap, arith, length, None, ◌*◌, ◌+◌}
use Rattle.std.proofs.lemmas.Int.{ints}
use Rattle.tie_criteria.specs.inside.Measures.{worth_of, value_in}
use Rattle.tie_criteria.specs.inside.Sums.{sum_by}
use Rattle.tie_criteria.proofs.SumLemmas.{sum_over-drop, near_wider}
use Rattle.tie_criteria.proofs.sums.sums_of.Goals as goal

pub loop-i-preserved : goal.loop-i-preserved
loop-i-preserved c =
    let fixtures = c.as_slice-fixtures.result.now in
    let scores = c.scores-scores.result.now in
    let i = c.loop-i.i in
    let matches = ap length c.as_slice-fixtures.ensures in
    let played = ap length c.scores-scores.ensures.scores in
    record {
      so_far = λ measure.
          let value = value_in c.args.matches (worth_of measure) c.args.club in
          let step = sum_over-drop value fixtures scores i (record { home = 0; away = 0 }) None
          (omega arith) (omega arith) in
          let here = c.plus-total.ensures.sums measure in
          let before = c.loop-i.invariant.so_far measure in
          omega (arith, ints, step, here, before);
      near = λ measure.
          near_wider (255 * i + 255) (255 * (i + 1)) (sum_by c.plus-total.result measure)
          (omega arith)
          (c.plus-total.ensures.near measure (255 * i) (c.loop-i.invariant.near measure));
    }
