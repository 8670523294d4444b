use Rattle.std.proofs.Common.{◌≡◌, pos, neg_ℤ, ◌-ℤ◌, to_z, of_z, w32, ap, ◌∙◌, arith}
use Rattle.std.proofs.lemmas.Int.{ints}
use Rattle.score_box.specs.inside.Cells.{allows}
use Rattle.key_bounds.specs.inside.RowEnds.{totals_row}
use Rattle.key_bounds.proofs.RowLemmas.{lost_ends, ends_at}
use Rattle.key_bounds.proofs.goal_ends.lost.Goals as goal

pub returns : goal.returns
returns c = λ cell loses are.
    let closest = c.closest-closest.result in
    let widest = c.widest-widest.result in
    let low = c.closest-closest.ensures.within in
    let high = c.widest-widest.ensures.within in
    let low_turned : to_z w32 (of_z w32 (pos 0 -ℤ to_z w32 (of_z w32 widest))) ≡ neg_ℤ widest =
    omega (arith, ints, high.0, high.1) in
    let high_turned : to_z w32 (of_z w32 (pos 0 -ℤ to_z w32 (of_z w32 closest))) ≡ neg_ℤ closest =
    omega (arith, ints, low.0, low.1) in
    let away = c.args.away in
    ends_at (allows cell) away c.row.result c.row-2.result
    (totals_row (pos 0) (neg_ℤ widest) c.args.own.least (pos 0) c.args.away)
    (totals_row (pos 0) (neg_ℤ closest) c.args.own.most (pos 0) c.args.away)
    (c.row.ensures ∙ ap (λ n. totals_row (pos 0) n c.args.own.least (pos 0) away) low_turned)
    (c.row-2.ensures ∙ ap (λ n. totals_row (pos 0) n c.args.own.most (pos 0) away) high_turned)
    (lost_ends cell c.args.away c.args.own c.args.other closest widest loses are (omega arith)
    (c.closest-closest.ensures.margin widest c.widest-widest.ensures.value)
    (omega (arith, ints, low.0, low.1), omega (arith, ints, low.0, low.1))
    high)
