use Rattle.std.proofs.Common.{length}
use Rattle.league_core.specs.game.ClubSets.{clubs_in}
use Rattle.near_bound.proofs.groups.Groups.+wrong_among.Given as goal

abbrev pub decreases-wrong_among : goal.decreases-wrong_among
decreases-wrong_among l = length (clubs_in l.rivals)
