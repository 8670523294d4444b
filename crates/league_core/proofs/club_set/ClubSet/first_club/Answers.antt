use Rattle.std.proofs.Common.{arith}
use Rattle.league_core.proofs.ClubBitLemmas.{lowest_is_first}
use Rattle.league_core.proofs.club_set.ClubSet.first_club.Goals as goal

pub returns-clause-member : goal.returns-clause-member
returns-clause-member c = (lowest_is_first c.args.self.bits (omega arith) c.requires).0

pub returns-clause-least : goal.returns-clause-least
returns-clause-least c = (lowest_is_first c.args.self.bits (omega arith) c.requires).1
