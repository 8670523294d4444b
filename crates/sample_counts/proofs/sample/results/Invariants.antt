use Rattle.std.proofs.Common.{◌≡◌, ◌*◌, map}
use Rattle.std.specs.List.{range_with_len}
use Rattle.sample_counts.specs.Samples.{sample_event, state_after}
use Rattle.sample_counts.proofs.sample.results.Given as goal

-- the results of the fixtures so far, and the state after two draws for each
abbrev pub invariant-loop-fixture : goal.invariant-loop-fixture
invariant-loop-fixture l = record {
  state_is : l.draws.state ≡ state_after l.seed (2 * l.fixture);
  events_are : l.events.items ≡ map (sample_event l.seed) (range_with_len 0 l.fixture);
}
