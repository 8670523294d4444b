use Rattle.std.proofs.Common.{◌+◌, ◌*◌, length}
use Rattle.league_core.specs.game.ClubSets.{clubs_in}
use Rattle.example_finish.proofs.lead.+lead.Given as goal

abbrev pub decreases-lead : goal.decreases-lead
decreases-lead l = 2 * length (clubs_in l.group) + 1

abbrev pub decreases-after_record : goal.decreases-after_record
decreases-after_record l = 2 * length (clubs_in l.group)
