use Rattle.cert_text.proofs.SetListLemmas.{listed_more}
use Rattle.std.proofs.Common.{arith}
use Rattle.cert_text.proofs.places.set_of.Goals as goal

pub loop-club-preserved : goal.loop-club-preserved
loop-club-preserved c =
    listed_more c.args.clubs.now c.loop-club.club-index c.loop-club.least c.loop-club.bits
    (omega arith) (omega arith) (omega arith) c.loop-club.invariant.1
    c.loop-club.invariant.2
