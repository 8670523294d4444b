use Rattle.std.proofs.Common.{List, ◌++◌, sym, subst, ap, ◌∙◌}
use Rattle.league_core.specs.declared.season.Score.{Score}
use Rattle.check_bounds.specs.inside.ExtremeScores.{AreExtremesOf, extremes_if, home_extremes}
use Rattle.check_bounds.specs.inside.ExtremeScores.{draw_extremes}
use Rattle.check_bounds.specs.inside.ExtremeScores.{away_extremes}
use Rattle.check_bounds.proofs.ExtremeScoreLemmas.{corners_are}
use Rattle.check_bounds.proofs.extreme_scores.ExtremeScores.of_outcomes.Goals as goal

pub returns : goal.returns
returns c = λ options is.
    let scope = c.args.scope.now in
    let At : List Score → Type 0 = λ corners. AreExtremesOf corners options in
    subst At
    (sym (c.push_away_if.ensures.corners
    ∙ ap (λ xs. xs ++ extremes_if scope.away_win away_extremes c.wins_of-2.result)
    (c.push_draws_if.ensures.corners
    ∙ ap (λ xs. xs ++ extremes_if scope.draw draw_extremes c.draws_of.result)
    (c.push_home_if.ensures.corners
    ∙ ap (λ xs. xs ++ extremes_if scope.home_win home_extremes c.wins_of.result)
    c.none-corners.ensures))))
    (corners_are scope c.wins_of.result c.wins_of-2.result c.draws_of.result c.wins_of.ensures
    c.draws_of.ensures c.wins_of-2.ensures options is)
