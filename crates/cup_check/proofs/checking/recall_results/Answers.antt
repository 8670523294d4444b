-- One season after the other.
use Rattle.std.proofs.Common.{◌≡◌, ◌<◌, ◌∙◌, ℕ, zero, suc, List, [], ◌∷◌, arith, length, refl}
use Rattle.std.proofs.Common.{slice_index_or, subst}
use Rattle.std.specs.Prelude.{IsTrue}
use borrow.Author.Count.{below_more}
use Rattle.league_core.specs.game.Results.{Results, are_results}
use Rattle.cup_check.proofs.checking.recall_results.Goals as goal

-- past no entry stands in its place
entry_same : (seasons : List Results) (k : ℕ) (d e : Results) → k < length seasons
    → slice_index_or seasons k d ≡ slice_index_or seasons k e
entry_same [] k d e within = absurd (omega (arith, within))
entry_same (season ∷ seasons) zero d e within = refl
entry_same (season ∷ seasons) (suc k) d e within = entry_same seasons k d e (omega (arith, within))

pub loop-season-preserved : goal.loop-season-preserved
loop-season-preserved c =
    let seasons = c.args.seasons.now in
    let index = c.loop-season.season-index in
    let Of : ℕ → Type 0 = λ k. (d : Results) → IsTrue (are_results (slice_index_or seasons k d)) in
    below_more Of index c.loop-season.invariant (λ d.
    subst (λ (it : Results). IsTrue (are_results it))
    (c.season-item.is ∙ entry_same seasons index c.season-item.result d c.loop-season-test.true)
    c.scores-scores.ensures.within)

pub returns : goal.returns
returns c = λ k d within.
    c.loop-season.invariant k (omega (arith, within, c.loop-season-test.false)) d
