use Rattle.std.proofs.Common.{◌∷◌, [], not, ◌&&◌, ap, ◌∙◌}
use Rattle.league_core.specs.game.Sums.{has_club}
use Rattle.league_core.specs.game.ClubSets.{clubs_in}
use Rattle.league_core.proofs.ClubLemmas.{list_all-rest_empty}
use Rattle.check_bounds.proofs.tie_rounds.is_alone.Goals as goal

pub returns : goal.returns
returns c =
    list_all-rest_empty (has_club (c.args.club ∷ [])) (clubs_in c.args.group)
    (clubs_in c.without.result) c.is_empty.result
    (λ other. c.without.ensures other
    ∙ ap (λ xs. has_club (clubs_in c.args.group) other && not (has_club xs other)) c.single.ensures)
    c.is_empty.ensures
