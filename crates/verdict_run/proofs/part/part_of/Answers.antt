use Rattle.std.proofs.lemmas.Result.{IfOk-weaker}
use Rattle.verdict_run.proofs.PartLemmas.{done_at, part_at}
use Rattle.verdict_run.proofs.KeptLemmas.{of_place}
use Rattle.verdict_run.proofs.part.part_of.Goals as goal

pub part_of_seat-requires : goal.part_of_seat-requires
part_of_seat-requires c =
    done_at c.args.pool.now c.args.place c.seat.result.now c.sheet.result.now c.season.result.now
    c.recall_invariant.ensures.sound c.requires.settled c.seat.ensures.seat c.sheet.ensures.sheet
    c.season.ensures.season

pub returns-clause-part : goal.returns-clause-part
returns-clause-part c =
    IfOk-weaker c.part_of_seat.result _ _
    (λ part fact. part_at c.args.pool.now c.args.place c.seat.result.now c.sheet.result.now
    c.season.result.now part c.recall_invariant.ensures.sound c.seat.ensures.seat
    c.sheet.ensures.sheet
    c.season.ensures.season fact)
    c.part_of_seat.ensures.part

pub returns-clause-of_pool : goal.returns-clause-of_pool
returns-clause-of_pool c =
    IfOk-weaker c.part_of_seat.result _ _
    (λ part fact. of_place c.args.pool.now c.args.place c.seat.result.now c.sheet.result.now
    c.season.result.now part c.seat.ensures.seat c.sheet.ensures.sheet c.season.ensures.season
    fact)
    c.part_of_seat.ensures.of_seat
