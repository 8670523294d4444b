use Rattle.std.proofs.Common.{◌≡◌}
use Rattle.runners_up.proofs.GoallessLemmas.{ended_to}
use Rattle.runners_up.proofs.any_end.end_goalless.Given as goal

-- the matches so far are ended
abbrev pub invariant-loop-fixture : goal.invariant-loop-fixture
invariant-loop-fixture l = l.ended ≡ ended_to l.fixture l.season
