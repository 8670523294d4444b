-- The next domain's extremes are those of the next domain.
use Rattle.std.proofs.Common.{◌≡◌, ℕ, length, get_or, arith, subst}
use Rattle.std.proofs.lemmas.List.{length_push, get_or_default}
use Rattle.check_bounds.specs.declared.score_domain.ScoreDomain.{ScoreDomain}
use Rattle.check_bounds.specs.inside.ScoreDomains.{IsScoreDomainOf}
use Rattle.check_bounds.proofs.ScoreDomainLemmas.{corners_push}
use Rattle.check_bounds.proofs.zone.all_extremes.Goals as goal

pub loop-scope-preserved : goal.loop-scope-preserved
loop-scope-preserved c =
    let scopes = c.args.scopes.now in
    let corners = c.loop-scope.corners.items in
    rw c.in_ok-push.ensures.items (
      omega (arith, length_push corners c.of.result, c.loop-scope.invariant.0),
      corners_push scopes corners c.of.result c.loop-scope.invariant.1
          (λ d options of.
          c.of.ensures options
          (subst (λ (s : ScoreDomain). IsScoreDomainOf s options)
          (get_or_default scopes c.loop-scope.scope-index d _ c.loop-scope-test.true)
          (subst (λ (n : ℕ). IsScoreDomainOf (get_or scopes n d) options) c.loop-scope.invariant.0
          of))),
    )

pub returns : goal.returns
returns c =
    let many : length c.loop-scope.corners.items ≡ length c.args.scopes.now =
    omega (arith, c.loop-scope.invariant.0) in
    record {
      many = many;
      each = λ k d within. c.loop-scope.invariant.1 k d (omega (arith, within, many));
    }
