use mir.Syntax.{w64}
use mir.Val.{to_z, of_z}
use Rattle.std.proofs.Common.{◌≡◌, pos, ◌-ℤ◌, sym, ap, ◌∙◌, arith}
use Rattle.std.proofs.lemmas.Int.{ints}
use Rattle.league_core.specs.search.PointRanges.{least_points_of, most_points_of}
use Rattle.flow_bound.specs.declared.cut.Cut.{Cut}
use Rattle.flow_bound.specs.inside.Fixtures.{own_end}
use Rattle.flow_bound.proofs.table.end_of.Goals as goal

pub returns-in-Floor-clause-value : goal.returns-in-Floor-clause-value
unfolding least_points_of
returns-in-Floor-clause-value c =
    let box = c.args.zone_box.now in
    let fits : to_z w64 (of_z w64 c.from.result) ≡ c.low.result =
    omega (arith, ints, c.from.ensures, c.low.ensures.within.0, c.low.ensures.within.1) in
    fits ∙ c.low.ensures.value
    ∙ ap (λ (cut : Cut). own_end cut box.sheet box.season box.zone c.args.club)
    (sym c.in-Floor.is)

pub returns-in-Ceiling-clause-value : goal.returns-in-Ceiling-clause-value
unfolding most_points_of
returns-in-Ceiling-clause-value c =
    let box = c.args.zone_box.now in
    let fits : to_z w64 (of_z w64 (pos 0 -ℤ to_z w64 (of_z w64 c.from-in-Ceiling.result)))
    ≡ pos 0 -ℤ c.high.result =
    omega (
      arith,
      ints,
      c.from-in-Ceiling.ensures,
      c.high.ensures.within.0,
      c.high.ensures.within.1,
    ) in
    fits ∙ ap (λ n. pos 0 -ℤ n) c.high.ensures.value
    ∙ ap (λ (cut : Cut). own_end cut box.sheet box.season box.zone c.args.club)
    (sym c.in-Ceiling.is)
