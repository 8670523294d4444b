use Rattle.session_turns.proofs.OpeningLemmas.{opened-counts}
use Rattle.session_turns.proofs.begin.resume_feed.Goals as goal

pub returns-in-Ok-clause-way : goal.returns-in-Ok-clause-way
returns-in-Ok-clause-way g c = λ proofs input ended old path.
    c.in-Ok.ensures.way proofs input ended old (g.K.Sink.holds c.args.sink.now) path

pub returns-in-Err-clause-way : goal.returns-in-Err-clause-way
returns-in-Err-clause-way g c = λ proofs input ended old path.
    c.in-Err.ensures.way proofs input ended old (g.K.Sink.holds c.args.sink.now) path
    (g.K.Sink.holds c.end_at_stop.new.sink) c.end_at_stop.result c.end_at_stop.ensures.ends

pub returns-in-Err-clause-last : goal.returns-in-Err-clause-last
returns-in-Err-clause-last g c = λ proofs first come.
    c.in-Err.ensures.last proofs first come (g.K.Sink.holds c.args.sink.now)
    (g.K.Sink.holds c.end_at_stop.new.sink) c.end_at_stop.result c.end_at_stop.ensures.ends

pub returns-in-Err-clause-counts : goal.returns-in-Err-clause-counts
returns-in-Err-clause-counts g c =
    opened-counts (g.S.Source.faults c.args.source.now) (g.S.Source.faults c.open_saved.new.source)
    (g.K.Sink.faults c.args.sink.now) (g.K.Sink.faults c.end_at_stop.new.sink) c.in-Err.stop
    c.end_at_stop.result c.in-Err.ensures.counts c.end_at_stop.ensures.counts
