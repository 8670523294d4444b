-- The next score makes the next cell.
use Rattle.std.proofs.Common.{◌≡◌, ℕ, length, get_or, [], Some, None, arith, subst, sym, ap, ◌∙◌}
use Rattle.std.proofs.lemmas.List.{length_push, get_or_default}
use Rattle.league_core.specs.game.Finishes.{may_end}
use Rattle.league_core.specs.search.Options.{options_from}
use Rattle.league_core.proofs.OptionLemmas.{length-options_from}
use Rattle.score_box.specs.inside.Cells.{IsCellOf}
use Rattle.score_box.proofs.BoxLemmas.{options_push, exact_push, first_options}
use Rattle.score_box.proofs.season_cells.season_cells.Goals as goal

pub loop-score-preserved : goal.loop-score-preserved
loop-score-preserved c =
    let cells = c.loop-score.cells.items in
    let scores = c.args.scores.now in
    let limit = c.args.goal_limit in
    let At : ℕ → Type 0 = λ k. IsCellOf c.first_cell.result
    (get_or (options_from limit [] 0 scores) k []) in
    let here : At c.loop-score.score-index = first_options limit scores c.loop-score.score-index
    c.first_cell.result c.loop-score-test.true
    (λ score.
    c.first_cell.ensures.scores score
    ∙ ap (λ played. may_end limit played (Some score))
    (get_or_default scores c.loop-score.score-index _ None c.loop-score-test.true)) in
    rw c.in_ok-push.ensures.items (
      omega (arith, length_push cells c.first_cell.result, c.loop-score.invariant.0),
      options_push cells c.first_cell.result
          (options_from limit [] 0 scores) c.loop-score.invariant.1
          (subst At (sym c.loop-score.invariant.0) here),
      exact_push cells c.first_cell.result c.loop-score.invariant.2 c.first_cell.ensures.exact,
    )

pub returns : goal.returns
returns c = record {
  many =
      let all : length c.loop-score.cells.items ≡ length c.args.scores.now = omega
      (arith, c.loop-score.invariant.0) in
      all ∙ sym (length-options_from c.args.goal_limit [] 0 c.args.scores.now);
  each = c.loop-score.invariant.1;
  exact = c.loop-score.invariant.2;
}
