use Rattle.std.proofs.Common.{refl}
use Rattle.league_core.specs.game.ClubSets as sets
use Rattle.report_tests.proofs.lines.leaves_name_their_reason.Goals as goal

pub writes-requires-4 : goal.writes-requires-4
unfolding sets.clubs_below
writes-requires-4 g c = refl

pub writes-requires-5 : goal.writes-requires-5
unfolding sets.clubs_below
writes-requires-5 g c = refl
