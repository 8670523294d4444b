use Rattle.league_core.proofs.ClubSetLemmas.{clubs_below-zero}
use Rattle.league_core.proofs.club_set.ClubSet.empty.Goals as goal

pub returns : goal.returns
returns c = clubs_below-zero 32
