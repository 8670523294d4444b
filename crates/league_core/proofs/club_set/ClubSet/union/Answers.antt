use Rattle.league_core.proofs.ClubSetLemmas.{has_club-or}
use Rattle.league_core.proofs.club_set.ClubSet.union.Goals as goal

pub returns : goal.returns
returns c = has_club-or c.args.self.bits c.args.other.bits
