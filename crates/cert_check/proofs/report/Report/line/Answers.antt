use Rattle.std.proofs.Common.{◌<◌, ◌+◌, ℕ, List, [], ◌∷◌, length, drop, subst, sym, arith}
use Rattle.std.proofs.lemmas.List.{drop_all}
use Rattle.std.proofs.lemmas.List.FromFn.{length-range_with_len}
use Rattle.league_core.specs.game.Sheets.{clubs_of}
use Rattle.std.proofs.lemmas.Result.{err_from_is_err_and}
use Rattle.cert_check.specs.ExpectedItems.{verdict_row}
use Rattle.cert_check.specs.Machine.{report_grammar, rows_on_line}
use Rattle.cert_check.specs.inside.Calls.{Reaches}
use Rattle.cert_check.proofs.GoesLemmas.{reach_halt, reach_on}
use Rattle.cert_check.proofs.report.Report.line.Goals as goal
use Rattle.league_core.proofs.plain.Runs.{drop-range}

pub returns-in_err-item-clause-goes : goal.returns-in_err-item-clause-goes
returns-in_err-item-clause-goes c =
    let judged = c.args.self.now in
    let clubs = clubs_of judged.basis.sheet in
    let found = c.loop-club.found in
    let wanted = rows_on_line clubs c.args.line in
    let within : c.loop-club.club < length judged.basis.sheet.clubs = omega
    (arith, c.clubs-club-end.ensures) in
    let R : List ℕ → Type 0 = λ it. Reaches judged c.args.from wanted found.next
    (rows_on_line it c.args.line) found.unsettled in
    let gone = err_from_is_err_and c.from_residual.result c.from_residual.ensures.1 in
    rw (gone.1, gone.2)
    (reach_halt report_grammar judged c.args.from found.next found.unsettled wanted
    (verdict_row c.args.line c.loop-club.club ∷ [])
    (rows_on_line (drop (c.loop-club.club + 1) clubs) c.args.line) c.in_err-item.field-0.0
    (subst R (drop-range (length judged.basis.sheet.clubs) c.loop-club.club within)
    c.loop-club.invariant.2) c.in_err-item.ensures.goes)

pub loop-club-preserved : goal.loop-club-preserved
loop-club-preserved c =
    let judged = c.args.self.now in
    let clubs = clubs_of judged.basis.sheet in
    let found = c.loop-club.found in
    let item = c.in_ok-item.field-0 in
    let wanted = rows_on_line clubs c.args.line in
    let later = rows_on_line (drop (c.loop-club.club + 1) clubs) c.args.line in
    let within : c.loop-club.club < length judged.basis.sheet.clubs = omega
    (arith, c.clubs-club-end.ensures) in
    let R : List ℕ → Type 0 = λ it. Reaches judged c.args.from wanted found.next
    (rows_on_line it c.args.line) found.unsettled in
    let on = reach_on report_grammar judged c.args.from found.next found.unsettled wanted
    (verdict_row c.args.line c.loop-club.club ∷ []) later item
    (subst R (drop-range (length judged.basis.sheet.clubs) c.loop-club.club within)
    c.loop-club.invariant.2) c.in_ok-item.ensures.goes in
    let A : ℕ → Type 0 = λ it. Reaches judged c.args.from wanted it later
    (found.unsettled + item.unsettled) in
    let B : ℕ → Type 0 = λ it. Reaches judged c.args.from wanted c.and-found.result.next later it
    in (
      omega (arith, c.in_ok-item.ensures.goes.0, c.and-found.ensures.next),
      omega (
        arith,
        c.in_ok-item.ensures.few,
        c.and-found.ensures.unsettled,
        c.loop-club.invariant.1,
      ),
      subst B (sym c.and-found.ensures.unsettled) (subst A (sym c.and-found.ensures.next) on),
    )

pub returns-clause-goes : goal.returns-clause-goes
returns-clause-goes c =
    let judged = c.args.self.now in
    let clubs = clubs_of judged.basis.sheet in
    let found = c.loop-club.found in
    let R : List ℕ → Type 0 = λ it. Reaches judged c.args.from (rows_on_line clubs c.args.line)
    found.next (rows_on_line it c.args.line) found.unsettled in (
      c.loop-club.invariant.0,
      subst R
          (drop_all c.loop-club.club clubs
          (omega (
            arith,
            c.clubs-club-end.ensures,
            length-range_with_len 0 (length
                judged.basis.sheet.clubs),
          ))) c.loop-club.invariant.2,
    )
