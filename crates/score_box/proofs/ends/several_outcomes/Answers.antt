-- The next cell counts if it has several outcomes.
use Rattle.std.proofs.Common.{◌≡◌, ◌<◌, not, cond, [], length, get_or, List, ap, arith}
use Rattle.league_core.specs.declared.season.Score.{Score}
use Rattle.league_core.specs.search.Options.{has_one_outcome}
use Rattle.score_box.specs.inside.Cells.{at_most_one}
use Rattle.score_box.proofs.EndLemmas.{count_more, outcome_is}
use Rattle.score_box.proofs.LeftLemmas.{one_left, left_one}
use Rattle.score_box.proofs.ends.several_outcomes.Goals as goal
use Rattle.league_core.proofs.plain.TruthValues.{one_if-most}

pub left-requires : goal.left-requires
left-requires c = c.requires.1.exact c.loop-cell.cell-index _ c.loop-cell-test.true

pub loop-cell-preserved : goal.loop-cell-preserved
loop-cell-preserved c =
    let k = c.loop-cell.cell-index in
    let left = c.left.result in
    let one = at_most_one left.home_win left.draw left.away_win in
    let small = one_if-most (not one) in
    let counted : c.worth-count.result.several ≡ cond (not one) 1 0 =
    c.worth-count.ensures.several in (
      omega (arith, c.loop-cell.invariant.0),
      λ options are.
          let within : k < length options = omega (arith, are.many, c.loop-cell-test.true) in
          let more = count_more (λ (scores : List Score). not (has_one_outcome scores)) options k
          (not one) within (ap not (outcome_is _ (get_or options k []) one
          (are.each k _ c.loop-cell-test.true)
          (one_left _ left c.left.ensures) (left_one _ left c.left.ensures))) in
          omega (arith, more, c.loop-cell.invariant.1 options are),
    )
