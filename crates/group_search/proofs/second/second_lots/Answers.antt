use Rattle.std.proofs.Common.{◌≡◌, ◌==◌, length, ap, ◌∙◌, ℕ, List, true}
use Rattle.std.specs.List.{list_all, range_with_len}
use Rattle.std.proofs.lemmas.Bool.{and_parts, eqb-true}
use Rattle.league_core.specs.game.Ranking.{are_lots}
use Rattle.league_core.specs.game.Sums.{has_club}
use Rattle.group_search.proofs.SecondLotsLemmas.{second_lots-are_lots}
use Rattle.group_search.proofs.second.second_lots.Goals as goal

pub unwrap-requires : goal.unwrap-requires
unwrap-requires c =
    let order = c.in_ok-order.order.items in
    let lots : are_lots c.args.clubs order ≡ true =
    ap (are_lots c.args.clubs) c.in_ok-order.ensures
    ∙ second_lots-are_lots c.args.clubs c.args.first c.args.club c.requires.first
    c.requires.in_range c.requires.different in
    let count : length order ≡ c.args.clubs =
    eqb-true (length order) c.args.clubs
    (and_parts (length order == c.args.clubs)
    (list_all (has_club order) (range_with_len 0 c.args.clubs)) lots).0 in
    let drawn : are_lots (length order) order ≡ true = ap (λ (n : ℕ). are_lots n order) count
    ∙ lots in
    c.new.ensures.named.1 drawn

pub returns-clause-drawn : goal.returns-clause-drawn
returns-clause-drawn c =
    let drawn = rw c.unwrap.ensures at c.new.ensures.ok in
    ap (λ (lots : List ℕ). are_lots c.args.clubs lots) (drawn ∙ c.in_ok-order.ensures)
    ∙ second_lots-are_lots c.args.clubs c.args.first c.args.club c.requires.first
    c.requires.in_range c.requires.different
