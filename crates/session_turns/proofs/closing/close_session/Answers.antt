use Rattle.std.proofs.Common.{refl}
use Rattle.session_turns.proofs.ClosingLemmas.{plain-gives, starved-gives}
use Rattle.session_turns.proofs.closing.close_session.Goals as goal

pub returns-in-Err-OutOfMemory-clause-gives : goal.returns-in-Err-OutOfMemory-clause-gives
returns-in-Err-OutOfMemory-clause-gives g c =
    starved-gives c.args.mode c.args.pool (g.K.Sink.holds c.args.sink.now)
    (g.K.Sink.holds c.put_trees.new.sink) c.put_trees.result c.in-Err-OutOfMemory.field-0
    c.in-Err-OutOfMemory.is c.in-Save.is c.in-Err-OutOfMemory.field-0-is
    c.put_trees.ensures.text

pub returns-in-Verdicts : goal.returns-in-Verdicts
returns-in-Verdicts g c =
    record { gives = plain-gives c.args.mode c.args.pool _ c.in-Verdicts.is; counts = refl }
