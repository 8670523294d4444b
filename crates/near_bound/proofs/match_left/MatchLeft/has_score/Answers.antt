use Rattle.std.proofs.Common.{◌∙◌}
use Rattle.near_bound.proofs.FitLeftLemmas.{some_left}
use Rattle.near_bound.proofs.match_left.MatchLeft.has_score.Goals as goal

pub returns : goal.returns
returns c = λ options left_of.
    c.is_some.ensures
    ∙ some_left c.args.self.now options c.worst_at_home.result c.worst_at_home.ensures left_of
