use Rattle.std.proofs.Common.{◌≡◌, ◌==◌, length, ap, ◌∙◌, ℕ, true}
use Rattle.std.specs.List.{list_all, range_with_len}
use Rattle.std.proofs.lemmas.Bool.{and_parts, eqb-true}
use Rattle.league_core.specs.game.Ranking.{are_lots}
use Rattle.league_core.specs.game.Sums.{has_club}
use Rattle.league_core.proofs.LotsLemmas.{lots_for_claim-are_lots}
use Rattle.final_rank.proofs.drawing.lots_for.Goals as goal

pub unwrap-requires : goal.unwrap-requires
unwrap-requires c =
    let order = c.in_ok-order.order.items in
    let lots : are_lots c.args.clubs order ≡ true =
    ap (are_lots c.args.clubs) c.in_ok-order.ensures
    ∙ lots_for_claim-are_lots c.args.clubs c.args.club c.args.claim c.requires in
    let count : length order ≡ c.args.clubs =
    eqb-true (length order) c.args.clubs
    (and_parts (length order == c.args.clubs)
    (list_all (has_club order) (range_with_len 0 c.args.clubs)) lots).0 in
    let drawn : are_lots (length order) order ≡ true = ap (λ (n : ℕ). are_lots n order) count
    ∙ lots in
    c.new.ensures.named.1 drawn
