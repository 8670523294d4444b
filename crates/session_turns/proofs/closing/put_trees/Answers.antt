use Rattle.session_turns.proofs.ClosingLemmas.{closing-put, saved-new}
use Rattle.session_turns.proofs.closing.put_trees.Goals as goal

pub put_saved-requires-clause-fresh : goal.put_saved-requires-clause-fresh
put_saved-requires-clause-fresh g c =
    saved-new c.args.pool c.in-Ok.pool c.requires c.in-Ok.ensures.work

pub returns-clause-text : goal.returns-clause-text
returns-clause-text g c =
    closing-put c.args.pool c.in-Ok.pool _ _ c.put_saved.result c.requires
    c.in-Ok.ensures.same c.put_saved.ensures.text
