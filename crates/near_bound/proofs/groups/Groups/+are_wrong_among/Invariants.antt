-- More clubs are held, or fewer are left.
use Rattle.std.proofs.Common.{◌+◌, ◌-◌, length}
use Rattle.league_core.specs.game.ClubSets.{clubs_in}
use Rattle.near_bound.proofs.groups.Groups.+are_wrong_among.Given as goal

abbrev pub decreases-are_wrong_among : goal.decreases-are_wrong_among
decreases-are_wrong_among l =
    (32 - length (clubs_in l.self.now.held)) + length (clubs_in l.clubs)
