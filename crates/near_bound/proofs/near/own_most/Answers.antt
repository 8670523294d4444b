use Rattle.std.proofs.Common.{◌≡◌, ap, ◌∙◌, arith, rules, to_z, of_z, w32}
use Rattle.std.proofs.lemmas.Int.{ints}
use Rattle.std.specs.Int.{int_min}
use Rattle.league_core.specs.search.PointRanges.{Range, most_points_of}
use Rattle.near_bound.specs.inside.Points.{ends_listed}
use Rattle.near_bound.proofs.near.own_most.Goals as goal

pub returns : goal.returns
unfolding most_points_of
returns c = λ zone stands.
    let club = c.args.question.now.club in
    let own = ends_listed c.args.ends.now club in
    let within = c.requires.ends.near club c.requires.question.club in
    let least = within.least in
    let in_order = within.in_order in
    let most = within.most in
    let most_is : to_z w32 (of_z w32 own.most) ≡ own.most =
    omega (arith, ints, least, in_order, most) in
    let high_is : to_z w32 (of_z w32 c.args.question.now.high) ≡ c.args.question.now.high =
    search rules in
    let result_is : to_z w32 (of_z w32 c.min.result) ≡ c.min.result =
    omega (arith, ints, c.min.type_inv) in
    result_is
    ∙ c.min.ensures.value
    ∙ (λ i. int_min (high_is i) (most_is i))
    ∙ ap (int_min c.args.question.now.high)
    (ap (λ (r : Range). r.greatest)
    (c.requires.ends.range zone stands club c.requires.question.club))
