use Rattle.std.proofs.lemmas.Result.{err_from_is_err_and}
use Rattle.par_check.proofs.CutLemmas.{ask_stops, ask_through}
use Rattle.par_check.proofs.cutting.cut_ask.Goals as goal

pub returns-in_err-behind-clause-cuts : goal.returns-in_err-behind-clause-cuts
returns-in_err-behind-clause-cuts c =
    let gone = err_from_is_err_and c.from_residual.result c.from_residual.ensures.1 in
    rw (gone.1, gone.2)
    (ask_stops c.args.report.now c.args.ask c.args.from c.args.items.now.items
    c.in_err-behind.field-0.0 c.in_err-behind.ensures)

pub returns-clause-cuts : goal.returns-clause-cuts
returns-clause-cuts c =
    ask_through c.args.report.now c.args.ask c.args.from c.in_ok-behind.behind
    c.args.items.now.items c.cut_rows.new.items.items c.cut_rows.result c.requires.room
    c.in_ok-behind.ensures c.cut_rows.ensures.cuts
