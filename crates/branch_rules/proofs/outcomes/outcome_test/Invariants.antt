-- The best so far splits; if there is none, the fixtures so far have one outcome each.
use Rattle.std.proofs.Common.{◌≡◌, ◌<◌, ℕ, IsTrue, IfSome, None, get_or}
use Rattle.league_core.specs.search.Options.{has_one_outcome}
use Rattle.branch_rules.specs.declared.rated.Rated.{Rated}
use Rattle.branch_rules.specs.inside.Choices.{IsOutcomeSplit, options_at_fixture}
use Rattle.branch_rules.proofs.outcomes.outcome_test.Given as goal

abbrev pub invariant-loop-i : goal.invariant-loop-i
invariant-loop-i l =
    IfSome l.best (λ (one : Rated). IsOutcomeSplit l.zone_box l.question one.test)
    × (l.best ≡ None → (j : ℕ) → j < l.i
    → IsTrue (has_one_outcome (options_at_fixture l.zone_box (get_or l.unplayed j 0))))
