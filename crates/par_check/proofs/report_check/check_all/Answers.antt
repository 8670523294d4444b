use Rattle.std.proofs.Common.{Err, length, subst, sym}
use Rattle.cert_check.specs.declared.stop.CheckStop.{CheckStop}
use Rattle.par_check.specs.Checked.{AnswersSo, ending_in, rows_in}
use Rattle.par_check.proofs.PlaceLemmas.{stop_answers, stop_within}
use Rattle.par_check.proofs.WholeLemmas.{first_answers}
use Rattle.par_check.proofs.report_check.check_all.Goals as goal

pub by_number-requires : goal.by_number-requires
by_number-requires g c =
    stop_within (length c.args.lines.now)
    (ending_in c.args.sheet.now c.args.asks.now c.args.lines.now) c.in-Err.stop c.in-Err.ensures

pub returns-in-Ok-clause-same : goal.returns-in-Ok-clause-same
returns-in-Ok-clause-same g c =
    c.accepted.ensures (ending_in c.args.sheet.now c.args.asks.now c.args.lines.now)
    c.in-Ok.ensures.1

pub returns-in-Ok-clause-first : goal.returns-in-Ok-clause-first
returns-in-Ok-clause-first g c =
    first_answers c.args.sheet.now c.args.asks.now c.args.lines.now
    (rows_in c.args.sheet.now c.args.asks.now) c.accepted.result
    (c.accepted.ensures (ending_in c.args.sheet.now c.args.asks.now c.args.lines.now)
    c.in-Ok.ensures.1)

pub returns-in-Err-clause-same : goal.returns-in-Err-clause-same
returns-in-Err-clause-same g c =
    let lines = c.args.lines.now in
    let rows = rows_in c.args.sheet.now c.args.asks.now in
    let ending = ending_in c.args.sheet.now c.args.asks.now lines in
    let Answers : CheckStop → Type 0 = λ it. AnswersSo lines rows ending (Err it) in
    subst Answers (sym c.by_number.ensures)
    (stop_answers lines rows ending c.in-Err.stop c.in-Err.ensures)

pub returns-in-Err-clause-first : goal.returns-in-Err-clause-first
returns-in-Err-clause-first g c =
    let lines = c.args.lines.now in
    let rows = rows_in c.args.sheet.now c.args.asks.now in
    let ending = ending_in c.args.sheet.now c.args.asks.now lines in
    let Answers : CheckStop → Type 0 = λ it. AnswersSo lines rows ending (Err it) in
    first_answers c.args.sheet.now c.args.asks.now lines rows (Err c.by_number.result)
    (subst Answers (sym c.by_number.ensures)
    (stop_answers lines rows ending c.in-Err.stop c.in-Err.ensures))
