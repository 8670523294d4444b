use Rattle.std.specs.Prelude.{ℕ, ◌<◌, IsTrue, slice_index_or}
use Rattle.league_core.specs.game.Results.{Results, are_results}
use Rattle.runners_up.proofs.results.have_results.Given as goal

-- the seasons so far have them
abbrev pub invariant-loop-group : goal.invariant-loop-group
invariant-loop-group l =
    (k : ℕ) (d : Results) → k < l.group → IsTrue (are_results (slice_index_or l.seasons k d))
