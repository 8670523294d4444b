use Rattle.std.proofs.Common.{pos, neg_ℤ, ◌≡◌, [], ◌∷◌, ◌∙◌, arith, to_z, of_z, w32}
use Rattle.tie_criteria.specs.declared.measure.Measure.{Measure}
use Rattle.tie_criteria.specs.declared.measure.Measure.TheVariants.{Difference, Goals, AwayGoals}
use Rattle.tie_criteria.specs.declared.measure.Measure.TheVariants.{Wins, AwayWins}
use Rattle.tie_criteria.specs.inside.Sums.{sum_by}
use Rattle.tie_criteria.proofs.SumLemmas.{near_is, rank_of-read}
use Rattle.tie_criteria.proofs.tail.tail_of.Goals as goal

pub returns : goal.returns
returns c =
    let sums = c.sums_of-sums.result in
    let kept : (measure : Measure) → to_z w32 (of_z w32 (sum_by sums measure))
    ≡ sum_by sums measure = λ measure. near_is 153000 (sum_by sums measure) (omega arith)
    (c.sums_of-sums.ensures.near measure) in
    let difference = kept Difference ∙ c.sums_of-sums.ensures.sums Difference in
    let scored = kept Goals ∙ c.sums_of-sums.ensures.sums Goals in
    let away_scored = kept AwayGoals ∙ c.sums_of-sums.ensures.sums AwayGoals in
    let wins = kept Wins ∙ c.sums_of-sums.ensures.sums Wins in
    let away_wins = kept AwayWins ∙ c.sums_of-sums.ensures.sums AwayWins in
    let rank = rank_of-read c.args.sheet.now c.as_slice.result.now c.args.club
    c.index-as_slice-club.result c.as_slice.ensures c.requires.in_range in
    (λ i. difference i ∷ scored i ∷ away_scored i ∷ wins i ∷ away_wins i ∷ neg_ℤ (pos (rank i)) ∷
    [])
