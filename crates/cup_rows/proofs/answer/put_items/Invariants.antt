use Rattle.std.proofs.Common.{◌≡◌, take}
use Rattle.cup_answers.specs.CupTexts.{IsCupItemText}
use Rattle.cup_rows.specs.inside.FoundClubs.{found_clubs}
use Rattle.cup_rows.proofs.CupMadeLemmas.{ArePartsOut}
use Rattle.cup_rows.proofs.answer.put_items.Given as goal

-- the items of the clubs so far went out
abbrev pub invariant-loop-found : goal.invariant-loop-found
invariant-loop-found g l =
    ArePartsOut (IsCupItemText l.proofs l.cup l.seasons)
    (found_clubs (take l.found-index l.clubs)) (g.K.Sink.holds l.fn.sink) (g.K.Sink.holds l.sink)
    × (g.K.Sink.faults l.sink ≡ g.K.Sink.faults l.fn.sink)
