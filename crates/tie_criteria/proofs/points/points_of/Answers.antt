use Rattle.std.proofs.Common.{pos, ◌-ℤ◌, ◌∙◌, rules, FitsSigned, w32, arith}
use Rattle.std.proofs.lemmas.Int.{to_z-of_z}
use Rattle.tie_criteria.specs.declared.measure.Measure.TheVariants.{Points}
use Rattle.tie_criteria.proofs.SumLemmas.{near_is, near_kept, near_wider}
use Rattle.tie_criteria.proofs.points.points_of.Goals as goal

pub less-requires : goal.less-requires
less-requires c =
    near_kept c.sums_of-sums.result.points
    (near_wider 153000 1000000 c.sums_of-sums.result.points (omega arith)
    (c.sums_of-sums.ensures.near Points))

pub returns : goal.returns
returns c =
    let points = near_is 153000 c.sums_of-sums.result.points (omega arith)
    (c.sums_of-sums.ensures.near Points) ∙ c.sums_of-sums.ensures.sums Points in
    let fits : FitsSigned w32 c.less.result = search rules in
    to_z-of_z w32 c.less.result fits ∙ c.less.ensures
    ∙ (λ i. points i -ℤ pos (c.deducted.ensures i))
