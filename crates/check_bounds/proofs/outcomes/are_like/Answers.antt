use Rattle.std.proofs.Common.{ap, sym, ◌∙◌, arith}
use Rattle.std.specs.List.{list_all}
use Rattle.std.proofs.lemmas.List.{drop_all}
use Rattle.league_core.specs.search.Options.{same_outcome}
use Rattle.check_bounds.proofs.outcomes.are_like.Goals as goal

pub returns : goal.returns
returns c =
    sym (c.loop-score.invariant
    ∙ ap (list_all (same_outcome c.args.first))
    (drop_all c.loop-score.score-index c.args.scores.now (omega arith)))
