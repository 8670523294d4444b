use Rattle.check_bounds.proofs.ExtremeScoreLemmas.{only_corner}
use Rattle.std.proofs.Common.{List, sym, subst}
use Rattle.league_core.specs.declared.season.Score.{Score}
use Rattle.check_bounds.specs.inside.ExtremeScores.{AreExtremesOf}
use Rattle.check_bounds.proofs.extreme_scores.ExtremeScores.of.Goals as goal

pub returns-in-Some : goal.returns-in-Some
returns-in-Some c = λ options is.
    subst (λ (corners : List Score). AreExtremesOf corners options) (sym c.only.ensures)
    (only_corner c.args.scope.now c.in-Some.score c.in-Some.ensures options is)
