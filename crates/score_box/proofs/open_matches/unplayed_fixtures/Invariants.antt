use Rattle.std.proofs.Common.{◌≡◌}
use Rattle.score_box.specs.inside.Unplayed.{unplayed_below}
use Rattle.score_box.proofs.open_matches.unplayed_fixtures.Given as goal

-- those of the fixtures so far
abbrev pub invariant-loop-fixture : goal.invariant-loop-fixture
invariant-loop-fixture l = l.found.items ≡ unplayed_below l.fixture l.scores
