use Rattle.std.proofs.Common.{◌≡◌, drop}
use Rattle.answer_rows.proofs.OutputLemmas.{IsDue}
use Rattle.answer_rows.specs.inside.Places.{text_of_places}
use Rattle.answer_rows.proofs.places.put_places.Given as goal

-- the rows from here on are due
abbrev pub invariant-loop-found : goal.invariant-loop-found
invariant-loop-found g l =
    IsDue (text_of_places l.sheet l.rows)
    (text_of_places l.sheet (drop l.found-index l.rows))
    (g.K.Sink.holds l.fn.sink) (g.K.Sink.holds l.sink)
    × (g.K.Sink.faults l.sink ≡ g.K.Sink.faults l.fn.sink)
