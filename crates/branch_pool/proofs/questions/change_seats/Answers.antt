use Rattle.std.proofs.Common.{arith, ◌∙◌}
use Rattle.branch_pool.specs.inside.QuestionStates.{tree_for}
use Rattle.branch_pool.specs.inside.Steps.{seat_changed}
use Rattle.branch_pool.proofs.questions.change_seats.Goals as goal
use Rattle.league_core.proofs.plain.Slots.{drop_more, drop_written, each_step}

pub loop-place-preserved : goal.loop-place-preserved
loop-place-preserved c = (
  each_step (seat_changed c.args.sheet.now c.args.season.now) c.args.seats.now.items
      c.loop-place.seats.items c.loop-place.place c.index_mut-seat.result.now c.change.new.self
      (omega arith) c.loop-place.invariant.0 c.index_mut-seat.ensures.value c.change.ensures,
  drop_written c.loop-place.trees.items c.loop-place.place c.change.new.tree
      ∙ drop_more (tree_for c.args.sheet.now c.args.season.now) c.loop-place.trees.items
      c.args.seats.now.items c.loop-place.place c.loop-place.invariant.1,
)
