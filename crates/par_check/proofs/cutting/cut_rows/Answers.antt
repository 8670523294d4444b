use Rattle.std.proofs.Common.{◌+◌, ◌<◌, ℕ, length, sym, subst, ap, arith}
use Rattle.std.proofs.lemmas.Result.{err_from_is_err_and}
use Rattle.league_core.specs.declared.sheet.Sheet.{Sheet}
use Rattle.cert_check.specs.Machine.{rows_of}
use Rattle.par_check.proofs.CutLemmas.{RowsCut, rows_on, rows_stop}
use Rattle.par_check.proofs.cutting.cut_rows.Goals as goal

pub returns-in_err-found-clause-cuts : goal.returns-in_err-found-clause-cuts
returns-in_err-found-clause-cuts c =
    let judged = c.args.report.now in
    let within : c.loop-row.row < length (rows_of judged.basis.sheet) = omega (
      arith,
      c.loop-row-test.true,
      c.rows_in_answer-row-end.ensures.value,
      ap (λ (it : Sheet). length (rows_of it)) c.sheet.ensures,
    ) in
    let gone = err_from_is_err_and c.from_residual.result c.from_residual.ensures.1 in
    rw (gone.1, gone.2)
    (rows_stop judged c.args.ask c.args.from c.loop-row.row c.loop-row.reached.next
    c.loop-row.reached.unsettled c.args.items.now.items c.loop-row.items.items
    c.cut_row.new.items.items c.in_err-found.field-0.0 within c.loop-row.invariant.cut
    c.in_err-found.ensures.cuts)

pub returns-in_err-found-clause-items : goal.returns-in_err-found-clause-items
returns-in_err-found-clause-items c = λ asks below were.
    c.cut_row.ensures.items asks below (c.loop-row.invariant.items asks below were)

pub loop-row-preserved : goal.loop-row-preserved
loop-row-preserved c =
    let judged = c.args.report.now in
    let row = c.loop-row.row in
    let reached = c.loop-row.reached in
    let found = c.in_ok-found.found in
    let goes = c.in_ok-found.ensures.cuts in
    let within : row < length (rows_of judged.basis.sheet) = omega (
      arith,
      c.loop-row-test.true,
      c.rows_in_answer-row-end.ensures.value,
      ap (λ (it : Sheet). length (rows_of it)) c.sheet.ensures,
    ) in
    let on = rows_on judged c.args.ask c.args.from row reached.next reached.unsettled
    c.args.items.now.items c.loop-row.items.items c.cut_row.new.items.items found within
    c.loop-row.invariant.cut goes in
    let A : ℕ → Type 0 = λ it. RowsCut judged c.args.ask c.args.from c.args.items.now.items
    c.cut_row.new.items.items (row + 1) it (reached.unsettled + found.unsettled) in
    let B : ℕ → Type 0 = λ it. RowsCut judged c.args.ask c.args.from c.args.items.now.items
    c.cut_row.new.items.items (row + 1) c.and-reached.result.next it in
    record {
      cut = subst B (sym c.and-reached.ensures.unsettled)
          (subst A (sym c.and-reached.ensures.next) on);
      items = λ asks below were.
          c.cut_row.ensures.items asks below (c.loop-row.invariant.items asks below were);
      far = omega (
        arith,
        c.loop-row.invariant.far,
        goes.0,
        c.and-reached.ensures.next,
        c.and-reached.ensures.unsettled,
      );
      room = omega (arith, goes.1, c.and-reached.ensures.next);
    }
