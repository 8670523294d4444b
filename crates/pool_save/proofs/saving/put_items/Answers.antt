use Rattle.std.proofs.Common.{◌∙◌}
use Rattle.answer_rows.proofs.OutputLemmas.{due-more, due-front}
use Rattle.pool_save.specs.inside.WrittenPools.{items_of_seats}
use Rattle.pool_save.proofs.SavingLemmas.{items-next, seat_in_range, seat_lines}
use Rattle.pool_save.proofs.saving.put_items.Goals as goal

pub put_item-requires-clause-in_range : goal.put_item-requires-clause-in_range
put_item-requires-clause-in_range g c =
    seat_in_range c.args.pool.now c.loop-place.place c.seat.result.now c.sheet.result.now
    c.recall_invariant.ensures.sound c.seat.ensures.seat c.sheet.ensures.sheet

pub put_item-requires-clause-lines : goal.put_item-requires-clause-lines
put_item-requires-clause-lines g c =
    seat_lines c.args.pool.now c.loop-place.place c.seat.result.now
    c.recall_invariant.ensures.sound c.seat.ensures.seat

pub loop-place-preserved : goal.loop-place-preserved
loop-place-preserved g c =
    let pool = c.args.pool.now in (
      due-more (items_of_seats pool.sheet pool.seats) _ _ _ _ _ _ c.loop-place.invariant.0
          (items-next pool c.loop-place.place c.seat.result.now c.sheet.result.now
          c.seat.ensures.seat c.sheet.ensures.sheet) c.in-Ok.ensures.text,
      c.in-Ok.ensures.counts ∙ c.loop-place.invariant.1,
    )

pub returns-in-Err-clause-text : goal.returns-in-Err-clause-text
returns-in-Err-clause-text g c =
    let pool = c.args.pool.now in
    due-front (items_of_seats pool.sheet pool.seats) _ _ _ _ _ _ c.loop-place.invariant.0
    (items-next pool c.loop-place.place c.seat.result.now c.sheet.result.now c.seat.ensures.seat
    c.sheet.ensures.sheet) c.in-Err.ensures.text
