use Rattle.std.proofs.Common.{ℕ, ◌<◌, slice_index_or}
use Rattle.std.specs.Prelude.{IsTrue}
use Rattle.league_core.specs.game.Results.{Results, are_results}
use Rattle.cup_check.proofs.checking.recall_results.Given as goal

-- the seasons so far
abbrev pub invariant-loop-season : goal.invariant-loop-season
invariant-loop-season l =
    (k : ℕ) → k < l.season-index → (d : Results)
    → IsTrue (are_results (slice_index_or l.seasons k d))
