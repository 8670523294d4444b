use Rattle.std.proofs.Common.{◌≡◌, ◌+◌, ◌≤◌, drop}
use Rattle.league_core.specs.search.Options.{has_option, has_one_outcome}
use Rattle.check_bounds.specs.inside.OpenCounts.{failing}
use Rattle.check_bounds.proofs.open_counts.OpenCounts.of.Given as goal

-- those so far, and those of the fixtures that are left, are all; there are no more than fixtures
abbrev pub invariant-loop-own : goal.invariant-loop-own
invariant-loop-own l =
    (l.loose.without_score + failing has_option (drop l.own-index l.corners)
    ≡ failing has_option l.corners)
    × (l.loose.undecided + failing has_one_outcome (drop l.own-index l.corners)
    ≡ failing has_one_outcome l.corners)
    × (l.loose.without_score ≤ l.own-index)
    × (l.loose.undecided ≤ l.own-index)
