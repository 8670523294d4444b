use Rattle.reference_programs.proofs.StepLemmas.{IsTurning}
use Rattle.reference_programs.proofs.odometer.next_finish.Given as goal

-- the wheels that were passed have come round
abbrev pub invariant-loop-fixture : goal.invariant-loop-fixture
invariant-loop-fixture l = IsTurning l.sheet l.season l.fn.finish l.fixture l.finish
