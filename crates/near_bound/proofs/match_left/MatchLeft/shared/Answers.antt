use Rattle.std.proofs.Common.{◌&&◌, ap, ◌∙◌}
use Rattle.near_bound.specs.inside.MatchesLeft.{is_score_left, are_goals_left, is_outcome_left}
use Rattle.near_bound.proofs.FitLeftLemmas.{in_order}
use Rattle.near_bound.proofs.match_left.MatchLeft.shared.Goals as goal

pub returns : goal.returns
returns c = λ score.
    let other = c.args.other.now in
    c.within_goals.ensures score
    ∙ ap (λ b. b && are_goals_left other score) (c.kept-kept.ensures score)
    ∙ in_order (is_score_left c.args.self.now score) (are_goals_left other score)
    (is_outcome_left other score)
