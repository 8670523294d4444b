-- The next fixture is kept if it has no score.
use Rattle.std.proofs.Common.{◌≡◌, ◌++◌, [], ◌∷◌, cond, get_or, None, sym, ap, ◌∙◌}
use Rattle.std.proofs.lemmas.List.{get_or_default}
use Rattle.score_box.specs.inside.Unplayed.{is_unplayed, unplayed_below}
use Rattle.score_box.proofs.PathLemmas.{unplayed_below-zero, unplayed_below-suc}
use Rattle.score_box.proofs.open_matches.unplayed_fixtures.Goals as goal

pub loop-fixture-init : goal.loop-fixture-init
loop-fixture-init c = c.new-found.ensures.items ∙ sym (unplayed_below-zero c.args.scores.now)

pub loop-fixture-preserved : goal.loop-fixture-preserved
loop-fixture-preserved c =
    let scores = c.args.scores.now in
    let k = c.loop-fixture.fixture in
    let here : c.is_unplayed.result ≡ is_unplayed (get_or scores k None) =
    c.is_unplayed.ensures ∙ ap is_unplayed (get_or_default scores k _ None c.loop-fixture-test.true)
    in
    c.in_ok-push_if.ensures
    ∙ ap (λ xs. xs ++ cond c.is_unplayed.result (k ∷ []) []) c.loop-fixture.invariant
    ∙ ap (λ b. unplayed_below k scores ++ cond b (k ∷ []) []) here
    ∙ sym (unplayed_below-suc k scores)
