use Rattle.futmax_main.proofs.CheckLemmas.{check-serves}
use Rattle.futmax_main.proofs.check.run_check.Goals as goal

pub returns-in-Ok-check_input-clause-serves : goal.returns-in-Ok-check_input-clause-serves
returns-in-Ok-check_input-clause-serves g c =
    let checked = c.in-Ok-check_input in
    check-serves c.args.kind c.in-Ok.reader c.check_input.new.reader (g.S.Source.left
    c.args.source.now)
    (g.S.Source.left c.check_input.new.source) checked.outcome (g.K.Sink.holds c.args.sink.now)
    (g.K.Sink.holds c.put_outcome.new.sink) c.put_outcome.result c.in-Ok.ensures
    checked.ensures.outcome checked.ensures.leaves checked.ensures.takes
    c.put_outcome.ensures.ends
