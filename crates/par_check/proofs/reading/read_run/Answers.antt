use Rattle.std.proofs.Common.{ap, arith}
use Rattle.par_check.specs.declared.places.RunRead.{RunRead}
use Rattle.par_check.proofs.AskLemmas.{season_next}
use Rattle.par_check.proofs.PlaceLemmas.{reads_both, stops_then}
use Rattle.par_check.proofs.reading.read_run.Goals as goal

pub read_both-reached-requires : goal.read_both-reached-requires
read_both-reached-requires c =
    omega (
      arith,
      c.loop-ask.invariant.reads.1,
      c.in-Ok.ensures.reads.1,
      c.in-Ok.ensures.reads.0.next,
      c.requires.whole.few,
    )

pub returns-in-Err-clause-reads : goal.returns-in-Err-clause-reads
returns-in-Err-clause-reads c =
    stops_then c.args.whole.now.sheet.now c.args.whole.now.asks.now c.args.whole.now.lines.now
    c.args.run.from c.loop-ask.reached c.in-Err.stop c.loop-ask.invariant.reads
    c.in-Err.ensures.reads

pub loop-ask-preserved : goal.loop-ask-preserved
loop-ask-preserved c =
    let sheet = c.args.whole.now.sheet.now in
    let asks = c.args.whole.now.asks.now in
    let lines = c.args.whole.now.lines.now in
    let before = c.loop-ask.invariant in
    let both = c.read_both-reached in
    record {
      reads = reads_both sheet asks lines c.args.run.from c.loop-ask.reached c.in-Ok.found
          both.result both.ensures before.reads c.in-Ok.ensures.reads;
      ask = omega (
        arith,
        before.ask,
        c.in-Ok.ensures.ask.from,
        c.in-Ok.ensures.ask.near,
        ap (λ (it : RunRead). it.to.ask) both.ensures,
      );
      season = season_next sheet asks c.loop-ask.ask c.advance-epoch.new.season
          c.advance-epoch.ensures.at;
      league = c.advance-epoch.ensures.league;
    }
