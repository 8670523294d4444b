use Rattle.std.proofs.Common.{◌≡◌}
use Rattle.shared_tests.proofs.epochs.look_often.Given as goal

abbrev pub invariant-loop : goal.invariant-loop
invariant-loop l = l.eye.table ≡ l.word
