use Rattle.std.proofs.Common.{◌==◌, length, unwrap_or, ap, ◌∙◌}
use Rattle.league_core.specs.game.Ranking.{lot_of}
use Rattle.league_core.proofs.plain.Places.{unwrap_or-position}
use Rattle.cup_finish.proofs.contender.lot_of.Goals as goal

pub returns : goal.returns
returns c =
    let order = c.order-order.result.now in
    c.unwrap_or.ensures
    ∙ ap (λ o. unwrap_or o (length order)) c.lot_in.ensures
    ∙ unwrap_or-position (λ drawn. drawn == c.args.club) order
    ∙ ap (λ lots. lot_of lots c.args.club) c.order-order.ensures.order
