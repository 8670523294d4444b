use Rattle.std.proofs.Common.{◌≡◌, length}
use Rattle.check_bounds.proofs.ScoreDomainLemmas.{HaveCorners}
use Rattle.check_bounds.proofs.zone.all_extremes.Given as goal

-- one list of extremes for each domain so far
abbrev pub invariant-loop-scope : goal.invariant-loop-scope
invariant-loop-scope l =
    (length l.corners.items ≡ l.scope-index) × HaveCorners l.scopes l.corners.items
