use Rattle.std.proofs.Common.{◌≡◌, List, ℕ, true, length, ap, ◌∙◌, subst}
use Rattle.league_core.specs.game.Ranking.{are_lots}
use Rattle.cup_sheet.specs.JointFinishes.{ClubBlock, lots_within}
use Rattle.cup_finish.proofs.GroupLotsLemmas.{own_drawn, own_whole}
use Rattle.cup_finish.proofs.group_lots.lots_within.Goals as goal

pub unwrap-requires : goal.unwrap-requires
unwrap-requires c =
    let block : ClubBlock = record { first = c.args.first; count = c.args.count } in
    let lots = c.args.lots.now in
    let drawn = subst (λ (it : List ℕ). are_lots (length it) it ≡ true) c.order.ensures.order
    c.order.ensures.named in
    c.new.ensures.named.1 (own_whole block lots c.in_ok-order.order.items c.requires drawn
    (c.in_ok-order.ensures ∙ ap (lots_within block) c.order.ensures.order))

pub returns-clause-drawn : goal.returns-clause-drawn
returns-clause-drawn c =
    let block : ClubBlock = record { first = c.args.first; count = c.args.count } in
    let lots = c.args.lots.now in
    let drawn = subst (λ (it : List ℕ). are_lots (length it) it ≡ true) c.order.ensures.order
    c.order.ensures.named in
    own_drawn block lots c.unwrap.result c.requires drawn ((rw c.unwrap.ensures at c.new.ensures.ok)
    ∙ c.in_ok-order.ensures ∙ ap (lots_within block) c.order.ensures.order)
