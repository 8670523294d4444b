use Rattle.std.proofs.Common.{[], ◌∷◌, ◌++◌, get_or, ap, sym, ◌∙◌}
use Rattle.league_core.specs.declared.sheet.Sheet.{Sheet}
use Rattle.cert_check.specs.ExpectedItems.{ask_row}
use Rattle.cert_check.specs.Machine.{rows_of}
use Rattle.par_check.specs.Cuts.{end_outlined}
use Rattle.par_check.proofs.CutLemmas.{row_cuts}
use Rattle.par_check.proofs.cutting.cut_row.Goals as goal

pub returns-clause-cuts : goal.returns-clause-cuts
returns-clause-cuts c =
    let place = c.args.place in
    let outlined = c.outline-outlined.result in
    row_cuts c.args.report.now place.0 place.1 c.args.from c.row_at-about.result outlined
    c.args.items.now.items c.add.new.items.items
    (ap (λ (it : Sheet). get_or (rows_of it) place.1 ask_row) (sym c.sheet.ensures)
    ∙ c.row_at-about.ensures.due)
    c.outline-outlined.ensures
    ((c.in_ok-add.ensures {u = tt}).ok
    ∙ ap (λ until. c.args.items.now.items
    ++ record { ask = place.0; question_row = place.1; from = c.args.from; until = until } ∷ [])
    (c.end_of.ensures ∙ ap (λ lines. end_outlined lines outlined) c.len.ensures))
