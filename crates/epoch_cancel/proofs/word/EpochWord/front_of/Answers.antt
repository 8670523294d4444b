use Rattle.std.proofs.Common.{rules, arith, refl}
use Rattle.epoch_cancel.proofs.MoveLemmas.{copies}
use Rattle.epoch_cancel.proofs.word.EpochWord.front_of.Goals as goal

pub split_seat-requires : goal.split_seat-requires
split_seat-requires c = (search rules, search rules, copies _ _ _ refl refl refl (omega arith))
