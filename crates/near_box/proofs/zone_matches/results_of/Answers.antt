use Rattle.std.proofs.Common.{arith, ◌∙◌, ap, length}
use Rattle.std.proofs.lemmas.List.{length-set}
use Rattle.near_box.proofs.ZoneMatchLemmas.{one_result_more}
use Rattle.near_box.proofs.zone_matches.results_of.Goals as goal

pub loop-i-preserved : goal.loop-i-preserved
loop-i-preserved c =
    let kept = c.loop-i.invariant in
    let few = c.requires.limits.most_fixtures in
    let many = c.requires.of_sheet.scores in
    let long = ap length c.scores-scores.ensures.scores in (
      length-set c.loop-i.matches c.loop-i.i c.result_of.result ∙ kept.0,
      one_result_more c.scores-scores.result.now c.loop-i.matches c.loop-i.i c.result_of.result
          (omega (arith, kept.0, few, many, long, c.loop-i-test.true)) kept.1 c.result_of.ensures,
    )
