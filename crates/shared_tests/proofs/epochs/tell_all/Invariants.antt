use Rattle.std.proofs.Common.{◌≡◌, length}
use Rattle.shared_tests.proofs.epochs.tell_all.Given as goal

abbrev pub invariant-loop : goal.invariant-loop
invariant-loop l =
    (l.owner.table ≡ l.word) × (l.front.table ≡ l.word) × (length l.owner.list ≡ l.counter)
    × (length l.front.list ≡ l.counter)
