use Rattle.std.proofs.Common.{not, ◌&&◌, ap, sym, ◌∙◌}
use Rattle.std.specs.List.{list_all}
use Rattle.league_core.specs.game.Sums.{has_club}
use Rattle.league_core.specs.game.ClubSets.{clubs_in}
use Rattle.league_core.proofs.ClubLemmas.{has_member-not_empty, list_all-rest_empty}
use Rattle.check_bounds.proofs.rivals.has_members_in.Goals as goal

pub returns-then-not-is_empty : goal.returns-then-not-is_empty
returns-then-not-is_empty c =
    let clubs = clubs_in c.args.set in
    let marked = clubs_in c.args.marked in
    list_all-rest_empty (has_club marked) clubs (clubs_in c.without.result)
    c.is_empty-then-not-is_empty.result c.without.ensures c.is_empty-then-not-is_empty.ensures
    ∙ ap (λ b. b && list_all (has_club marked) clubs)
    (ap not (sym c.if-not-is_empty.true)
    ∙ has_member-not_empty clubs c.is_empty.result c.is_empty.ensures)
