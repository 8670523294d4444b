use Rattle.std.proofs.Common.{◌≡◌, ◌&&◌, ◌∷◌, [], int_le, sym, ap, ◌∙◌, arith, to_z, of_z, w32}
use Rattle.std.proofs.lemmas.Int.{ints}
use Rattle.league_core.specs.search.PointRanges.{Range, own_least, most_points_of}
use Rattle.near_bound.specs.inside.Points.{ends_listed}
use Rattle.near_bound.proofs.near.is_pressed_from_ahead.Goals as goal

pub returns-then-has : goal.returns-then-has
unfolding most_points_of
returns-then-has c = λ zone stands.
    let left = c.args.left.now in
    let within = c.requires.ends.near c.args.rival c.requires.in_range in
    let its = ends_listed c.args.ends.now c.args.rival in
    let own_is : to_z w32 (of_z w32 c.own_least.result) ≡ c.own_least.result =
    omega (arith, ints, c.own_least.type_inv) in
    let most_is : to_z w32 (of_z w32 its.most) ≡ its.most =
    omega (arith, ints, within.least, within.in_order, within.most) in
    (λ i. int_le (most_is i) (own_is i))
    ∙ (λ i. int_le (ap (λ (r : Range). r.greatest)
    (c.requires.ends.range zone stands c.args.rival c.requires.in_range) i)
    (c.own_least.ensures zone stands i))
    ∙ ap (λ b. b && int_le
    (most_points_of left.sheet.now left.season.now zone (c.args.rival ∷ []))
    (own_least left.sheet.now left.season.now c.args.question.now zone))
    (sym c.if-has.true ∙ c.has.ensures ∙ stands.before c.args.rival)
