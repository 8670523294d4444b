use Rattle.std.proofs.Common.{◌≡◌, pos, ◌-ℤ◌, slice_index, to_z, of_z, w64, ap, ◌∙◌, arith}
use Rattle.std.proofs.lemmas.Int.{ints}
use Rattle.league_core.specs.game.ClubSets.{clubs_in}
use Rattle.league_core.specs.search.PointRanges.{one_value, added, total_of}
use Rattle.check_bounds.specs.inside.IntRanges.{as_sum_range}
use Rattle.check_bounds.proofs.total.points_of_set.Goals as goal

pub returns-clause-points : goal.returns-clause-points
returns-clause-points c =
    let clubs = clubs_in c.args.set in
    let off = c.taken_off.ensures.points
    ∙ ap (λ ds. total_of (λ club. pos (slice_index ds club)) clubs)
    c.deductions.ensures.deductions in
    let value : to_z w64 (of_z w64 c.taken_off.result) ≡ c.taken_off.result =
    omega (arith, ints, c.taken_off.ensures.within.0, c.taken_off.ensures.within.1) in
    c.less.ensures.range
    ∙ ap (λ n. added (as_sum_range c.won_by-won.result) (one_value (pos 0 -ℤ n))) value
    ∙ (λ i. added (c.won_by-won.ensures.points i) (one_value (pos 0 -ℤ off i)))
