use Rattle.futmax_main.proofs.CupCheckLemmas.{cup_check-serves}
use Rattle.futmax_main.proofs.groups_check.run_cup_check.Goals as goal

pub returns-in-Ok-check_cup_input-clause-serves :
    goal.returns-in-Ok-check_cup_input-clause-serves
returns-in-Ok-check_cup_input-clause-serves g c =
    let checked = c.in-Ok-check_cup_input in
    cup_check-serves c.in-Ok.reader c.check_cup_input.new.reader (g.S.Source.left
    c.args.source.now)
    (g.S.Source.left c.check_cup_input.new.source) checked.outcome
    (g.K.Sink.holds c.args.sink.now)
    (g.K.Sink.holds c.put_cup_outcome.new.sink) c.put_cup_outcome.result c.in-Ok.ensures
    checked.ensures.outcome checked.ensures.leaves checked.ensures.takes
    c.put_cup_outcome.ensures.ends
