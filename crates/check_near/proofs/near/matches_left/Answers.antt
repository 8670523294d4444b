use Rattle.std.proofs.Common.{◌<◌, ◌∙◌, arith, length, subst}
use Rattle.std.proofs.lemmas.List.{length-set, get_or_default}
use Rattle.check_bounds.specs.declared.score_domain.ScoreDomain.{ScoreDomain}
use Rattle.check_near.specs.inside.MatchesOver.{IsMatchOf}
use Rattle.check_near.proofs.MatchesOverLemmas.{one_match_more}
use Rattle.check_near.proofs.near.matches_left.Goals as goal

pub loop-place-preserved : goal.loop-place-preserved
loop-place-preserved c =
    let before = c.loop-place.invariant in
    let domains = c.args.domains.now in
    let here : c.loop-place.place < length domains = omega (arith, c.loop-place-test.true) in
    record {
      long = length-set c.loop-place.matches c.loop-place.place c.match_left.result
          ∙ before.long;
      each = one_match_more c.loop-place.matches domains c.loop-place.place
          c.match_left.result (omega (arith, before.long, c.requires, here)) before.each
          (λ e. subst (λ (s : ScoreDomain). IsMatchOf c.match_left.result s)
          (get_or_default domains c.loop-place.place _ e here) c.match_left.ensures);
    }
