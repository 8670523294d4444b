use Rattle.std.proofs.Common.{map, subst}
use Rattle.rayon.proofs.ListFacts.{IfOk-then, AllZip-through}
use Rattle.par_check.specs.declared.places.RunJudged.{RunJudged}
use Rattle.par_check.specs.Places.{ReadsWhole}
use Rattle.par_check.proofs.PlaceLemmas.{all_of_zip}
use Rattle.par_check.proofs.side_by_side.judge_each.Goals as goal

pub returns : goal.returns
returns g c =
    let P : RunJudged → Type 0 = λ it. ReadsWhole c.args.whole.now it.from it.ending in
    IfOk-then c.collect.result _ _ c.collect.ensures (λ made h.
    let each = AllZip-through (λ z. z.now) _ (λ item it. P it)
    (λ z result said. subst (λ it. ReadsWhole it.0.now result.from result.ending)
    c.map.ensures.f said) h.1.0 h.0 h.1.2 in
    rw h.2 (all_of_zip P (map (λ z. z.now) h.1.0) h.0 each))
