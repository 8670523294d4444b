use Rattle.std.proofs.Common.{rules, arith, refl}
use Rattle.epoch_cancel.proofs.MoveLemmas.{copies, remembers}
use Rattle.epoch_cancel.proofs.word.EpochWord.close.Goals as goal

pub split_seat-note-requires : goal.split_seat-note-requires
split_seat-note-requires c = (search rules, search rules, copies _ _ _ refl refl refl (omega arith))

pub join_seat-requires : goal.join_seat-requires
join_seat-requires c =
    (search rules, search rules, search rules, search rules, remembers _ _ _ _)
