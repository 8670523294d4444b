use Rattle.std.proofs.Common.{◌≡◌, ap, ◌∙◌, arith, rules, to_z, of_z, w32}
use Rattle.std.proofs.lemmas.Int.{ints}
use Rattle.std.specs.Int.{int_max}
use Rattle.league_core.specs.search.PointRanges.{Range, least_points_of}
use Rattle.near_bound.specs.inside.Points.{ends_listed}
use Rattle.near_bound.proofs.near.own_least.Goals as goal

pub returns : goal.returns
unfolding least_points_of
returns c = λ zone stands.
    let club = c.args.question.now.club in
    let own = ends_listed c.args.ends.now club in
    let within = c.requires.ends.near club c.requires.question.club in
    let least = within.least in
    let in_order = within.in_order in
    let most = within.most in
    let least_is : to_z w32 (of_z w32 own.least) ≡ own.least =
    omega (arith, ints, least, in_order, most) in
    let low_is : to_z w32 (of_z w32 c.args.question.now.low) ≡ c.args.question.now.low =
    search rules in
    let result_is : to_z w32 (of_z w32 c.max.result) ≡ c.max.result =
    omega (arith, ints, c.max.type_inv) in
    result_is
    ∙ c.max.ensures.value
    ∙ (λ i. int_max (low_is i) (least_is i))
    ∙ ap (int_max c.args.question.now.low)
    (ap (λ (r : Range). r.least) (c.requires.ends.range zone stands club c.requires.question.club))
