use Rattle.std.proofs.Common.{sym}
use Rattle.std.proofs.lemmas.Result.{IfOk-weaker}
use Rattle.verdict_run.proofs.PartLemmas.{done_refuted, done_spent, done_enough}
use Rattle.verdict_run.proofs.KeptLemmas.{won_of_seat, refuted_of_seat, spent_of_seat}
use Rattle.verdict_run.proofs.part.part_of_seat.Goals as goal
use Rattle.league_core.proofs.plain.Options.{both_ok}

pub refuted-requires : goal.refuted-requires
refuted-requires c =
    done_refuted c.args.sheet.now c.args.season.now c.args.seat.now c.requires
    (sym c.if-is_refuted.ensures)

pub spent_or_fresh-requires-clause-spent : goal.spent_or_fresh-requires-clause-spent
spent_or_fresh-requires-clause-spent c =
    done_spent c.args.sheet.now c.args.season.now c.args.seat.now c.requires c.in-None.is
    (sym c.if-is_refuted.ensures)

pub returns-in-Some-clause-of_seat : goal.returns-in-Some-clause-of_seat
returns-in-Some-clause-of_seat c =
    IfOk-weaker c.won.result _ _
    (λ part lines. won_of_seat c.args.sheet.now c.args.season.now c.args.seat.now
    c.in-Some.example part c.in-Some.is lines) c.won.ensures.lines

pub returns-in-None-clause-of_seat : goal.returns-in-None-clause-of_seat
returns-in-None-clause-of_seat c =
    both_ok c.refuted.result _ _ _
    (λ part known lines. refuted_of_seat c.args.sheet.now c.args.season.now c.args.seat.now part
    known lines) c.refuted.ensures.kind c.refuted.ensures.lines

pub returns-in-None-2-clause-enough : goal.returns-in-None-2-clause-enough
returns-in-None-2-clause-enough c =
    IfOk-weaker c.spent_or_fresh.result _ _
    (λ part fact enough. absurd (done_enough c.args.sheet.now c.args.season.now c.args.seat.now
    c.requires c.in-None.is (sym c.if-is_refuted.ensures) enough)) c.spent_or_fresh.ensures.part

pub returns-in-None-2-clause-of_seat : goal.returns-in-None-2-clause-of_seat
returns-in-None-2-clause-of_seat c =
    both_ok c.spent_or_fresh.result _ _ _
    (λ part shown lines. spent_of_seat c.args.sheet.now c.args.season.now c.args.seat.now part
    c.requires c.in-None.is (sym c.if-is_refuted.ensures) shown lines)
    c.spent_or_fresh.ensures.part c.spent_or_fresh.ensures.lines
