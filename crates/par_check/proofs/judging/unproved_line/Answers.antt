use Rattle.std.proofs.Common.{Ok, get_or, ap, sym, ◌∙◌}
use Rattle.league_core.specs.declared.sheet.Sheet.{Sheet}
use Rattle.cert_check.specs.ExpectedItems.{ask_row}
use Rattle.cert_check.specs.Machine.{rows_of}
use Rattle.par_check.proofs.JudgeLemmas.{item_told}
use Rattle.par_check.proofs.judging.unproved_line.Goals as goal

pub returns-in-Ok-clause-found : goal.returns-in-Ok-clause-found
returns-in-Ok-clause-found c =
    let due = ap (λ (it : Sheet). get_or (rows_of it) c.args.item.question_row ask_row)
    (sym c.sheet.ensures) ∙ c.row_at-row.ensures.due in
    item_told c.args.report.now c.args.item c.row_at-row.result (Ok c.in-Ok.field-0) due
    (c.in-Ok.ensures {u = tt}).goes
