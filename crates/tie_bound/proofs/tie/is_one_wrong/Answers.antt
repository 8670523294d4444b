use Rattle.std.proofs.Common.{◌&&◌, ◌||◌, ap, ◌∙◌}
use Rattle.league_core.specs.game.Sums.{has_club}
use Rattle.league_core.specs.game.ClubSets.{clubs_in}
use Rattle.league_core.specs.search.Zones.{rivals_of, marked_after}
use Rattle.tie_bound.specs.inside.Rivals.{is_wrong_with}
use Rattle.tie_bound.proofs.RivalLemmas.{common-is}
use Rattle.tie_bound.proofs.tie.is_one_wrong.Goals as goal
use Rattle.league_core.proofs.plain.Filters.{any-is}

pub returns : goal.returns
returns c =
    let box = c.args.zone_box.now in
    let question = c.args.question.now in
    let rivals = c.args.rivals.now in
    let apart = c.args.apart in
    let wrong = is_wrong_with box (has_club (clubs_in apart.above))
    (has_club (clubs_in apart.below)) in
    let found = common-is box.sheet question.club rivals.all.bits c.intersection.result.bits
    (has_club (clubs_in c.union.result)) wrong c.requires.all c.intersection.ensures
    (λ x within.
    c.union.ensures x
    ∙ ap (λ b. b || has_club (clubs_in c.intersection-behind.result) x)
    (c.intersection-ahead.ensures x)
    ∙ ap (λ b. (b && has_club (clubs_in apart.above) x) || has_club
    (clubs_in c.intersection-behind.result) x) (c.requires.after x)
    ∙ ap (λ b. (marked_after box.zone x && has_club (clubs_in apart.above) x) || b)
    (c.intersection-behind.ensures x
    ∙ ap (λ b. b && has_club (clubs_in apart.below) x) (c.requires.before x))) in
    any-is c.is_empty.result wrong (rivals_of box.sheet question.club)
    (clubs_in c.intersection.result)
    found c.is_empty.ensures.0 c.is_empty.ensures.1
