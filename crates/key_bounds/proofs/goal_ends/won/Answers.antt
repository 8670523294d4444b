use Rattle.std.proofs.Common.{◌≡◌, pos, to_z, of_z, w32, ap, ◌∙◌, arith}
use Rattle.std.proofs.lemmas.Int.{ints}
use Rattle.score_box.specs.inside.Cells.{allows}
use Rattle.key_bounds.specs.inside.RowEnds.{totals_row}
use Rattle.key_bounds.proofs.RowLemmas.{won_ends, ends_at}
use Rattle.key_bounds.proofs.goal_ends.won.Goals as goal

pub returns : goal.returns
returns c = λ cell wins are.
    let closest = c.closest-closest.result in
    let widest = c.widest-widest.result in
    let low = c.closest-closest.ensures.within in
    let high = c.widest-widest.ensures.within in
    let low_kept : to_z w32 (of_z w32 closest) ≡ closest = omega (arith, ints, low.0, low.1) in
    let high_kept : to_z w32 (of_z w32 widest) ≡ widest = omega (arith, ints, high.0, high.1) in
    ends_at (allows cell) c.args.away c.row.result c.row-2.result
    (totals_row (pos 3) closest c.args.own.least (pos 1) c.args.away)
    (totals_row (pos 3) widest c.args.own.most (pos 1) c.args.away)
    (c.row.ensures ∙ ap (λ n. totals_row (pos 3) n c.args.own.least (pos 1) c.args.away) low_kept)
    (c.row-2.ensures ∙ ap (λ n. totals_row (pos 3) n c.args.own.most (pos 1) c.args.away) high_kept)
    (won_ends cell c.args.away c.args.own c.args.other closest widest wins are (omega arith)
    (c.closest-closest.ensures.margin widest c.widest-widest.ensures.value)
    (omega (arith, ints, low.0, low.1), omega (arith, ints, low.0, low.1))
    high)
