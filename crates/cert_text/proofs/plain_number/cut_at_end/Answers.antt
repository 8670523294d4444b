use Rattle.std.proofs.Common.{arith}
use Rattle.cert_text.proofs.SetListLemmas.{bits_more}
use Rattle.cert_text.proofs.CutLemmas.{below_most, cut_begins, cut_goes_on, cut_ends}
use Rattle.cert_text.proofs.plain_number.cut_at_end.Goals as goal

pub clubs-init : goal.clubs-init
clubs-init c = (
  omega arith,
  omega arith,
  cut_begins c.args.text.now c.in_ok-rest.rest.now c.in_ok-rest.ensures,
)

pub returns-then-is_all : goal.returns-then-is_all
returns-then-is_all c =
    let told = c.in_ok-club.ensures in
    cut_ends c.args.text.now c.clubs.rest.now c.in_ok-club.more.now c.clubs.least c.clubs.bits
    c.in_ok-club.club c.clubs.invariant.2 (omega arith) told.0 told.1
    (c.is_all.ensures c.if-is_all.true)

pub clubs-preserved : goal.clubs-preserved
clubs-preserved c =
    let told = c.in_ok-club.ensures in
    let within = bits_more c.clubs.least c.clubs.bits c.in_ok-club.club (omega arith)
    (below_most c.in_ok-club.club told.0) c.clubs.invariant.1 in (
      within.0,
      within.1,
      cut_goes_on c.args.text.now c.clubs.rest.now c.in_ok-club.more.now c.in_ok-rest-2.rest.now
          c.clubs.least c.clubs.bits c.in_ok-club.club c.clubs.invariant.2 (omega arith) told.0
          told.1 c.in_ok-rest-2.ensures,
    )
