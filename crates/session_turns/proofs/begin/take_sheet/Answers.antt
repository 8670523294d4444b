use Rattle.session_turns.proofs.CloseLemmas.{sheet-counts, sheet-last}
use Rattle.session_turns.proofs.LastReadLemmas.{sheet-come}
use Rattle.session_turns.proofs.TurnLemmas.{sheet-comes, sheet-stops}
use Rattle.session_turns.proofs.begin.take_sheet.Goals as goal

pub returns-in-Ok-clause-way : goal.returns-in-Ok-clause-way
returns-in-Ok-clause-way g c =
    c.begin_feed.ensures.way (g.S.Source.left c.args.source.now)
    (g.S.Source.ended c.args.source.now) (g.K.Sink.holds c.args.sink.now)
    (sheet-comes c.args.mode c.args.reader.now c.read_sheet.new.reader
    (g.S.Source.left c.args.source.now) (g.S.Source.left c.read_sheet.new.source) _ _
    c.in-Ok.sheet _ c.requires c.in-Ok.ensures.reads c.in-Ok.ensures.passes)

pub returns-in-Err-clause-way : goal.returns-in-Err-clause-way
returns-in-Err-clause-way g c =
    sheet-stops c.args.mode c.args.reader.now c.read_sheet.new.reader
    (g.S.Source.left c.args.source.now) (g.S.Source.left c.read_sheet.new.source) _ _
    c.in-Err.stop _ _ c.end_at_stop.result c.requires c.in-Err.ensures.reads
    c.in-Err.ensures.passes c.in-Err.ensures.leaves
    (rw c.stop_of_sheet.ensures at c.end_at_stop.ensures.ends)

pub returns-in-Ok-clause-last : goal.returns-in-Ok-clause-last
returns-in-Ok-clause-last g c =
    c.begin_feed.ensures.last c.args.source.now
    (sheet-come g.S.Source.left g.S.Source.reads c.args.mode c.args.reader.now
    c.read_sheet.new.reader c.args.source.now c.read_sheet.new.source c.requires
    c.read_sheet.ensures.takes _ _ _ c.in-Ok.sheet c.in-Ok.ensures.passes.1
    c.in-Ok.ensures.reads c.in-Ok.ensures.last)

pub returns-in-Ok-clause-counts : goal.returns-in-Ok-clause-counts
returns-in-Ok-clause-counts g c =
    rw c.in-Ok.ensures.cause at c.begin_feed.ensures.counts

pub returns-in-Err-clause-last : goal.returns-in-Err-clause-last
returns-in-Err-clause-last g c =
    sheet-last g.S.Source.left g.S.Source.reads c.args.mode c.args.reader.now
    c.read_sheet.new.reader c.args.source.now c.read_sheet.new.source c.requires
    c.read_sheet.ensures.takes c.in-Err.stop _ _ c.end_at_stop.result c.in-Err.ensures.last
    (rw c.stop_of_sheet.ensures at c.end_at_stop.ensures.ends)

pub returns-in-Err-clause-counts : goal.returns-in-Err-clause-counts
returns-in-Err-clause-counts g c =
    sheet-counts _ _ _ _ c.in-Err.stop c.end_at_stop.result c.in-Err.ensures.cause
    (rw c.stop_of_sheet.ensures at c.end_at_stop.ensures.counts)
