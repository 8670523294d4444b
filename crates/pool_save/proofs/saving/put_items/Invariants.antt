use Rattle.std.proofs.Common.{◌≡◌, drop}
use Rattle.answer_rows.proofs.OutputLemmas.{IsDue}
use Rattle.pool_save.specs.inside.WrittenPools.{items_of_seats}
use Rattle.pool_save.proofs.saving.put_items.Given as goal

-- the items from here on are due
abbrev pub invariant-loop-place : goal.invariant-loop-place
invariant-loop-place g l =
    IsDue (items_of_seats l.pool.sheet l.pool.seats)
    (items_of_seats l.pool.sheet (drop l.place l.pool.seats))
    (g.K.Sink.holds l.fn.sink) (g.K.Sink.holds l.sink)
    × (g.K.Sink.faults l.sink ≡ g.K.Sink.faults l.fn.sink)
