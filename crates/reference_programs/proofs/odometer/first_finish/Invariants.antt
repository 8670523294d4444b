use Rattle.std.proofs.Common.{◌≡◌}
use Rattle.reference_programs.proofs.StartLemmas.{begun}
use Rattle.reference_programs.proofs.odometer.first_finish.Given as goal

-- the open fixtures that were passed end 0:0
abbrev pub invariant-loop-fixture : goal.invariant-loop-fixture
invariant-loop-fixture l = l.finish ≡ record l.season { scores = begun l.fixture l.season.scores }
