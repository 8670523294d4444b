use Rattle.std.proofs.Common.{◌≡◌, drop}
use Rattle.std.specs.List.{list_all}
use Rattle.league_core.specs.search.Options.{same_outcome}
use Rattle.check_bounds.proofs.outcomes.are_like.Given as goal

-- all are like the first if those that are left are
abbrev pub invariant-loop-score : goal.invariant-loop-score
invariant-loop-score l =
    list_all (same_outcome l.first) l.scores
    ≡ list_all (same_outcome l.first) (drop l.score-index l.scores)
