use Rattle.std.proofs.Common.{◌*◌, length, ap, ◌∙◌}
use Rattle.par_check.proofs.RowAtLemmas.{rows_count}
use Rattle.par_check.proofs.item_rows.rows_in_answer.Goals as goal

pub returns-clause-value : goal.returns-clause-value
returns-clause-value c =
    rows_count c.args.sheet.now (c.len.result * c.len-2.result)
    (ap (λ n. n * c.len-2.result) c.len.ensures
    ∙ ap (λ n. length c.args.sheet.now.lines * n) c.len-2.ensures)
