use Rattle.std.proofs.Common.{arith}
use Rattle.league_core.proofs.ClubBitLemmas.{length-clubs_below}
use Rattle.league_core.proofs.club_set.ClubSet.len.Goals as goal

pub returns : goal.returns
returns c =
    let count = length-clubs_below 32 c.args.self.bits (omega arith) in
    omega (arith, count)
