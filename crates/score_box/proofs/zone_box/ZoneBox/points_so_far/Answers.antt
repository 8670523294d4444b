use Rattle.std.proofs.Common.{◌≡◌, pos, slice_index, ap, ◌∙◌, arith}
use Rattle.std.proofs.lemmas.Int.{ints}
use Rattle.score_box.specs.inside.ZoneBoxViews.{ZoneBoxView}
use Rattle.score_box.specs.inside.Totals.{points_column}
use Rattle.score_box.proofs.zone_box.ZoneBox.points_so_far.Goals as goal

pub overflow_sub-result : goal.overflow_sub-result
overflow_sub-result c =
    let near = c.totals.ensures.near points_column in
    omega (arith, ints, near.0, near.1, c.from.ensures, c.deducted.type_inv)

pub returns : goal.returns
returns c =
    let near = c.totals.ensures.near points_column in
    let won = c.totals.ensures.sums points_column in
    let off : c.from.result ≡ pos (slice_index c.args.self.now.season.deductions c.args.club) =
    c.from.ensures ∙ ap pos c.deducted.ensures
    ∙ ap (λ (s : ZoneBoxView). pos (slice_index s.season.deductions c.args.club)) c.self.view_is in
    omega (arith, ints, near.0, near.1, won, off, c.from.ensures, c.deducted.type_inv)
