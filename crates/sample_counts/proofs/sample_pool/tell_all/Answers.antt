use Rattle.std.proofs.Common.{◌<◌, length, arith}
use Rattle.sample_counts.proofs.HeardLemmas.{next_may_be}
use Rattle.sample_counts.proofs.sample_pool.tell_all.Goals as goal

pub change_with_room-requires-clause-may_be : goal.change_with_room-requires-clause-may_be
change_with_room-requires-clause-may_be c =
    let inside : c.loop-event.event-index < length c.args.events.now = omega arith in
    next_may_be c.args.pool.now c.loop-event.pool c.args.events.now c.loop-event.event-index _
    inside c.requires.of_sheet c.loop-event.invariant c.recall_invariant.ensures.sound
