use Rattle.std.proofs.Common.{◌≡◌, ◌<◌, ◌+◌, ◌∙◌, ℕ, List, ◌∷◌, length, drop, get_or}
use Rattle.std.proofs.Common.{subst, sym, ap, arith}
use Rattle.std.specs.List.{flat_map}
use Rattle.std.proofs.lemmas.List.{drop_more}
use Rattle.league_core.specs.game.Sheets.{clubs_of}
use Rattle.std.proofs.lemmas.Result.{err_from_is_err_and}
use Rattle.cert_check.specs.Machine.{report_grammar, rows_of, rows_on_line}
use Rattle.cert_check.specs.inside.Calls.{ReportView, Reaches}
use Rattle.cert_check.proofs.GoesLemmas.{reach_halt, reach_on}
use Rattle.cert_check.proofs.report.Report.rows.Goals as goal

pub returns-in_err-line : goal.returns-in_err-line
returns-in_err-line c =
    let judged = c.args.self.now in
    let lines = judged.basis.sheet.lines in
    let rows = rows_on_line (clubs_of judged.basis.sheet) in
    let place = c.loop-place.place in
    let found = c.loop-place.found in
    let number = get_or c.as_slice.result.now place 0 in
    let same : c.as_slice.result.now ≡ lines =
    c.as_slice.ensures ∙ ap (λ (it : ReportView). it.basis.sheet.lines) c.self.view_is in
    let within : place < length lines = omega (
      arith,
      c.len-place-end.ensures,
      ap (λ (it : ReportView). length it.basis.sheet.lines)
          c.self.view_is,
    ) in
    let left : drop place lines ≡ number ∷ drop (place + 1) lines =
    drop_more lines place 0 within
    ∙ ap (λ it. it ∷ drop (place + 1) lines) (ap (λ xs. get_or xs place 0) (sym same)) in
    let R : List ℕ → Type 0 = λ it. Reaches judged c.args.from (rows_of judged.basis.sheet)
    found.next (flat_map rows it) found.unsettled in
    let gone = err_from_is_err_and c.from_residual.result c.from_residual.ensures.1 in
    rw (gone.1, gone.2)
    (reach_halt report_grammar judged c.args.from found.next found.unsettled
    (rows_of judged.basis.sheet) (rows number) (flat_map rows (drop (place + 1) lines))
    c.in_err-line.field-0.0
    (subst R left c.loop-place.invariant.2) c.in_err-line.ensures.goes)

pub loop-place-preserved : goal.loop-place-preserved
loop-place-preserved c =
    let judged = c.args.self.now in
    let lines = judged.basis.sheet.lines in
    let rows = rows_on_line (clubs_of judged.basis.sheet) in
    let place = c.loop-place.place in
    let found = c.loop-place.found in
    let item = c.in_ok-line.field-0 in
    let number = get_or c.as_slice.result.now place 0 in
    let same : c.as_slice.result.now ≡ lines =
    c.as_slice.ensures ∙ ap (λ (it : ReportView). it.basis.sheet.lines) c.self.view_is in
    let within : place < length lines = omega (
      arith,
      c.len-place-end.ensures,
      ap (λ (it : ReportView). length it.basis.sheet.lines)
          c.self.view_is,
    ) in
    let left : drop place lines ≡ number ∷ drop (place + 1) lines =
    drop_more lines place 0 within
    ∙ ap (λ it. it ∷ drop (place + 1) lines) (ap (λ xs. get_or xs place 0) (sym same)) in
    let later = flat_map rows (drop (place + 1) lines) in
    let wanted = rows_of judged.basis.sheet in
    let R : List ℕ → Type 0 = λ it. Reaches judged c.args.from wanted
    found.next (flat_map rows it) found.unsettled in
    let on = reach_on report_grammar judged c.args.from found.next found.unsettled wanted
    (rows number) later item (subst R left c.loop-place.invariant.2) c.in_ok-line.ensures.goes in
    let A : ℕ → Type 0 = λ it. Reaches judged c.args.from wanted it later
    (found.unsettled + item.unsettled) in
    let B : ℕ → Type 0 = λ it. Reaches judged c.args.from wanted c.and-found.result.next later it
    in (
      omega (arith, c.in_ok-line.ensures.goes.0, c.and-found.ensures.next),
      omega (
        arith,
        c.in_ok-line.ensures.few,
        c.and-found.ensures.unsettled,
        c.loop-place.invariant.1,
        c.self.invariant.league.limits.most_clubs,
        ap (λ (it : ReportView). length it.basis.sheet.clubs) c.self.view_is,
      ),
      subst B (sym c.and-found.ensures.unsettled) (subst A (sym c.and-found.ensures.next) on),
    )
