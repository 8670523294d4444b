use Rattle.std.proofs.Common.{◌∙◌, ap, not, ◌&&◌}
use Rattle.league_core.specs.game.Sums.{has_club}
use Rattle.league_core.specs.game.ClubSets.{clubs_in}
use Rattle.league_core.proofs.ClubSetLemmas.{has_club-range}
use Rattle.league_core.proofs.club_set.ClubSet.others.Goals as goal

pub returns : goal.returns
returns c =
    λ club.
    c.without.ensures club
    ∙ ap (λ clubs. has_club clubs club && not (has_club (clubs_in c.args.self) club))
    c.first.ensures
    ∙ ap (λ b. b && not (has_club (clubs_in c.args.self) club)) (has_club-range c.args.clubs club)
