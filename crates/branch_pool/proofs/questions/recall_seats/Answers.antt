use Rattle.std.proofs.Common.{arith}
use Rattle.branch_pool.specs.inside.Steps.{seat_recalled}
use Rattle.branch_pool.proofs.questions.recall_seats.Goals as goal
use Rattle.league_core.proofs.plain.Slots.{each_step}

pub loop-place-preserved : goal.loop-place-preserved
loop-place-preserved c =
    each_step seat_recalled c.args.seats.now.items c.loop-place.seats.items c.loop-place.place
    c.index_mut-seat.result.now c.recall.new.self (omega arith) c.loop-place.invariant
    c.index_mut-seat.ensures.value c.recall.ensures
