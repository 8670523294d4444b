use Rattle.std.proofs.Common.{◌≡◌, ℕ, ◌<◌, true, get_or, None}
use Rattle.league_core.specs.game.Finishes.{may_end}
use Rattle.league_core.proofs.finish.all_may_end.Given as goal

-- the fixtures so far end as they may
abbrev pub invariant-loop-fixture : goal.invariant-loop-fixture
invariant-loop-fixture l =
    (k : ℕ) → k < l.fixture
    → may_end l.limit (get_or l.season k None) (get_or l.finish k None) ≡ true
