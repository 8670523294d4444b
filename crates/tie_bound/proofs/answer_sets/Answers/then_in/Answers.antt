use Rattle.std.proofs.Common.{not, ◌&&◌, ◌||◌, ap, ◌∙◌}
use Rattle.league_core.specs.game.Sums.{has_club}
use Rattle.league_core.specs.game.ClubSets.{clubs_in}
use Rattle.tie_bound.specs.declared.answer_sets.Answers.{Answers}
use Rattle.tie_bound.proofs.AnswerSetLemmas.{answers_then}
use Rattle.tie_bound.proofs.answer_sets.Answers.then_in.Goals as goal

pub returns : goal.returns
returns c =
    let old = c.args.self in
    let level = clubs_in c.intersection-level.result in
    let new : Answers = record {
      above = c.union.result;
      below = c.union-2.result;
      level = c.union-3.result;
    } in
    answers_then old c.args.next new (clubs_in c.args.group) (has_club level)
    (λ x. c.intersection-level.ensures x
    ∙ ap (λ b. b && has_club (clubs_in c.args.group) x) (c.without.ensures x
    ∙ ap (λ b. has_club (clubs_in old.level) x && not b) (c.union-decided.ensures x)))
    (λ x. c.union.ensures x
    ∙ ap (λ b. has_club (clubs_in old.above) x || b) (c.intersection.ensures x))
    (λ x. c.union-2.ensures x
    ∙ ap (λ b. has_club (clubs_in old.below) x || b) (c.intersection-2.ensures x))
    (λ x. c.union-3.ensures x
    ∙ ap (λ b. b || has_club (clubs_in c.intersection-3.result) x) (c.without-2.ensures x)
    ∙ ap (λ b. (has_club (clubs_in old.level) x && not (has_club level x)) || b)
    (c.intersection-3.ensures x))
