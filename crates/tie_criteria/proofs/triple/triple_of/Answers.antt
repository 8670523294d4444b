use Rattle.std.proofs.Common.{◌≡◌, [], ◌∷◌, ◌∙◌, arith, to_z, of_z, w32}
use Rattle.tie_criteria.specs.declared.measure.Measure.{Measure}
use Rattle.tie_criteria.specs.declared.measure.Measure.TheVariants.{Points, Difference, Goals}
use Rattle.tie_criteria.specs.inside.Sums.{sum_by}
use Rattle.tie_criteria.proofs.SumLemmas.{near_is}
use Rattle.tie_criteria.proofs.triple.triple_of.Goals as goal

pub returns : goal.returns
returns c =
    let sums = c.sums_of-sums.result in
    let kept : (measure : Measure) → to_z w32 (of_z w32 (sum_by sums measure))
    ≡ sum_by sums measure = λ measure. near_is 153000 (sum_by sums measure) (omega arith)
    (c.sums_of-sums.ensures.near measure) in
    let points = kept Points ∙ c.sums_of-sums.ensures.sums Points in
    let difference = kept Difference ∙ c.sums_of-sums.ensures.sums Difference in
    let scored = kept Goals ∙ c.sums_of-sums.ensures.sums Goals in
    (λ i. points i ∷ difference i ∷ scored i ∷ [])
