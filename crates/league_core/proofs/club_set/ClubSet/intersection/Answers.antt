use Rattle.league_core.proofs.ClubBitLemmas.{has_club-and}
use Rattle.league_core.proofs.club_set.ClubSet.intersection.Goals as goal

pub returns : goal.returns
returns c = has_club-and c.args.self.bits c.args.other.bits
