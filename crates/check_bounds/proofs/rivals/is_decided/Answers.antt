use Rattle.std.proofs.Common.{◌&&◌, ◌||◌, nat_lt, length, ap, sym, ◌∙◌}
use Rattle.std.specs.List.{list_any}
use Rattle.league_core.specs.game.Sums.{has_club}
use Rattle.league_core.specs.game.ClubSets.{clubs_in}
use Rattle.league_core.specs.search.Zones.{rivals_of}
use Rattle.league_core.specs.search.SureOrder.{is_above, is_below}
use Rattle.check_bounds.specs.inside.Steps.{sure_at}
use Rattle.check_bounds.proofs.RivalLemmas.{decided_by_sets, wrong_by_sets}
use Rattle.check_bounds.proofs.rivals.is_decided.Goals as goal

pub returns-then-too_many : goal.returns-then-too_many
returns-then-too_many c = λ known is.
    let many = c.too_many.ensures
    ∙ decided_by_sets c.args.sheet.now c.args.question.now (clubs_in c.args.before)
    (clubs_in c.args.after) (clubs_in c.those_above-above.result)
    (clubs_in c.those_below-below.result) (clubs_in c.union-front.result)
    (clubs_in c.union-back.result) (sure_at c.args.sure.now) known c.requires.few is
    c.those_above-above.ensures c.those_below-below.ensures c.union-front.ensures
    c.union-back.ensures in
    c.if-too_many.true
    ∙ sym (ap (λ b. b || list_any
    (λ rival. (has_club (clubs_in c.args.after) rival && is_above (known rival))
    || (has_club (clubs_in c.args.before) rival && is_below (known rival)))
    (rivals_of c.args.sheet.now c.args.question.now.club)) (sym many ∙ c.if-too_many.true))

pub returns-else-too_many : goal.returns-else-too_many
returns-else-too_many c = λ known is.
    let many = c.too_many.ensures
    ∙ decided_by_sets c.args.sheet.now c.args.question.now (clubs_in c.args.before)
    (clubs_in c.args.after) (clubs_in c.those_above-above.result)
    (clubs_in c.those_below-below.result) (clubs_in c.union-front.result)
    (clubs_in c.union-back.result) (sure_at c.args.sure.now) known c.requires.few is
    c.those_above-above.ensures c.those_below-below.ensures c.union-front.ensures
    c.union-back.ensures in
    ap (nat_lt 0) c.rivals_in.ensures
    ∙ wrong_by_sets (length c.args.sheet.now.clubs) c.args.question.now.club
    (clubs_in c.args.before) (clubs_in c.args.after) (clubs_in c.those_above-above.result)
    (clubs_in c.those_below-below.result) (clubs_in c.intersection-not_after.result)
    (clubs_in c.intersection-not_before.result) (clubs_in c.union-wrong.result)
    (sure_at c.args.sure.now) known c.requires.few is c.those_above-above.ensures
    c.those_below-below.ensures c.intersection-not_after.ensures
    c.intersection-not_before.ensures c.union-wrong.ensures
    ∙ sym (ap (λ b. b || list_any
    (λ rival. (has_club (clubs_in c.args.after) rival && is_above (known rival))
    || (has_club (clubs_in c.args.before) rival && is_below (known rival)))
    (rivals_of c.args.sheet.now c.args.question.now.club)) (sym many ∙ c.if-too_many.false))
