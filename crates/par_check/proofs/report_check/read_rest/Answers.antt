use Rattle.std.proofs.Common.{Ok, Err, ap, arith, subst}
use Rattle.par_check.specs.declared.places.Place.{Place}
use Rattle.par_check.specs.declared.places.RunRead.{RunRead}
use Rattle.par_check.specs.Places.{ReadsOn}
use Rattle.par_check.proofs.PlaceLemmas.{begin_place, comes_to_stop, comes_whole, reads_both}
use Rattle.par_check.proofs.PlaceLemmas.{stops_then}
use Rattle.par_check.proofs.report_check.read_rest.Goals as goal

pub read_both-both-requires : goal.read_both-both-requires
read_both-both-requires c =
    omega (
      arith,
      c.requires.reached.1,
      c.in-Ok.ensures.reads.1,
      c.in-Ok.ensures.reads.0.next,
      ap (λ (it : Place). it.next) c.last_run.ensures.from,
      c.requires.whole.few,
    )

pub returns-in-Ok : goal.returns-in-Ok
returns-in-Ok c =
    let sheet = c.args.whole.now.sheet.now in
    let asks = c.args.whole.now.asks.now in
    let lines = c.args.whole.now.lines.now in
    let reached = c.args.reached in
    let found = c.in-Ok.found in
    let both = c.read_both-both in
    let all = c.in-Ok.ensures.all (omega (arith, c.last_run.ensures.all)) in
    let more = subst (λ (it : Place). ReadsOn sheet asks lines it (Ok found))
    c.last_run.ensures.from c.in-Ok.ensures.reads in
    comes_whole sheet asks lines both.result
    (omega (arith, all, ap (λ (it : RunRead). it.to.ask) both.ensures))
    (reads_both sheet asks lines begin_place reached found both.result both.ensures
    c.requires.reached more)

pub returns-in-Err : goal.returns-in-Err
returns-in-Err c =
    let sheet = c.args.whole.now.sheet.now in
    let asks = c.args.whole.now.asks.now in
    let lines = c.args.whole.now.lines.now in
    let stop = c.in-Err.stop in
    let more = subst (λ (it : Place). ReadsOn sheet asks lines it (Err stop))
    c.last_run.ensures.from c.in-Err.ensures.reads in
    comes_to_stop sheet asks lines stop
    (stops_then sheet asks lines begin_place c.args.reached stop c.requires.reached more)
