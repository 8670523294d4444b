use Rattle.std.proofs.Common.{◌∙◌, arith}
use Rattle.branch_pool.specs.inside.Steps.{seat_changed}
use Rattle.branch_pool.proofs.questions.change_uncut.Goals as goal
use Rattle.league_core.proofs.plain.Slots.{each_step, still_there}

pub change_uncut-requires : goal.change_uncut-requires
change_uncut-requires c =
    let seat = c.index_mut-seat.result.now in
    let here = c.index_mut-seat.ensures.value
    ∙ still_there (seat_changed c.args.sheet.now c.args.season.now) c.args.seats.now.items
    c.loop-place.seats.items c.loop-place.place seat (omega arith) c.loop-place.invariant in
    rw here (c.requires c.loop-place.place seat (omega arith))

pub loop-place-preserved : goal.loop-place-preserved
loop-place-preserved c =
    each_step (seat_changed c.args.sheet.now c.args.season.now) c.args.seats.now.items
    c.loop-place.seats.items c.loop-place.place c.index_mut-seat.result.now
    c.change_uncut.new.self
    (omega arith) c.loop-place.invariant c.index_mut-seat.ensures.value c.change_uncut.ensures
