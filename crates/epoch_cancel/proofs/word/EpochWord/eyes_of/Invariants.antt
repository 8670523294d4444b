use Rattle.std.proofs.Common.{◌≡◌, replicate}
use Rattle.epoch_cancel.specs.inside.Seats.{new_eye}
use Rattle.epoch_cancel.proofs.word.EpochWord.eyes_of.Given as goal

abbrev pub invariant-loop : goal.invariant-loop
invariant-loop l =
    (l.owner ≡ l.fn.owner) × (l.made.items ≡ replicate l.counter (new_eye l.self l.fn.owner.list))
