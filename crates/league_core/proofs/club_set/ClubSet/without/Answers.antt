use Rattle.std.proofs.Common.{arith}
use Rattle.league_core.proofs.ClubSetLemmas.{has_club-and_not}
use Rattle.league_core.proofs.club_set.ClubSet.without.Goals as goal

pub returns : goal.returns
returns c = λ club. has_club-and_not c.args.self.bits c.args.other.bits club (omega arith)
