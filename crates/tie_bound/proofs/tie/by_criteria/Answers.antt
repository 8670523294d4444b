-- The sets are those of the sure order, as far as the rivals.
use Rattle.std.proofs.Common.{List, ℕ, ap, ◌∙◌}
use Rattle.league_core.specs.game.Sums.{has_club}
use Rattle.league_core.specs.game.ClubSets.{clubs_in}
use Rattle.league_core.specs.search.Reasons.{is_surely_above, is_surely_below}
use Rattle.league_core.specs.search.SureOrder.{is_above, is_below}
use Rattle.tie_bound.proofs.RivalLemmas.{rival_below}
use Rattle.tie_bound.proofs.RefuteLemmas.{refutes_same}
use Rattle.tie_bound.proofs.tie.by_criteria.Goals as goal

pub returns : goal.returns
returns c =
    let box = c.args.zone_box.now in
    let question = c.args.question.now in
    let apart = c.by.result in
    let asked = λ (x : ℕ). ap (λ (clubs : List ℕ). has_club clubs x) c.requires.rivals.all in
    c.refutes.ensures
    ∙ refutes_same box question (has_club (clubs_in apart.above)) (has_club (clubs_in apart.below))
    (is_surely_above box.sheet box.season question box.zone)
    (is_surely_below box.sheet box.season question box.zone)
    (λ x has. c.by.ensures.above x
    ∙ ap is_above (c.answers_against-answers.ensures x
    (rival_below box.sheet question.club x has) (asked x ∙ has)))
    (λ x has. c.by.ensures.below x
    ∙ ap is_below (c.answers_against-answers.ensures x
    (rival_below box.sheet question.club x has) (asked x ∙ has)))
