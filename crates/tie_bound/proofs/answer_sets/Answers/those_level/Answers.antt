use Rattle.std.proofs.Common.{◌&&◌, ◌||◌, not, ltb, List, ℕ, ap, ◌∙◌}
use Rattle.league_core.specs.game.Sums.{has_club}
use Rattle.league_core.specs.game.ClubSets.{clubs_in}
use Rattle.league_core.proofs.ClubSetLemmas.{has_club-range}
use Rattle.tie_bound.proofs.AnswerSetLemmas.{level_of}
use Rattle.tie_bound.proofs.answer_sets.Answers.those_level.Goals as goal

pub returns : goal.returns
returns c club =
    let level = has_club (clubs_in c.args.self.level) club in
    c.intersection.ensures club
    ∙ ap (λ b. b && has_club (clubs_in c.first.result) club)
    (c.without.ensures club ∙ ap (λ b. level && not b) (c.union-decided.ensures club))
    ∙ ap (λ b. (level && not (has_club (clubs_in c.args.self.above) club
    || has_club (clubs_in c.args.self.below) club)) && b)
    (ap (λ (xs : List ℕ). has_club xs club) c.first.ensures ∙ has_club-range c.args.clubs club)
    ∙ level_of c.args.self club (ltb club c.args.clubs)
