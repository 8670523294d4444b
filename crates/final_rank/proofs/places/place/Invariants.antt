use Rattle.std.proofs.Common.{◌≡◌, ◌≤◌, count_by}
use Rattle.std.specs.List.{range_with_len}
use Rattle.league_core.specs.game.Ranking.{ranks_before}
use Rattle.final_rank.proofs.places.place.Given as goal

-- of the clubs that were passed, those that rank before the club
abbrev pub invariant-loop-other : goal.invariant-loop-other
invariant-loop-other l =
    (l.before ≡ count_by (λ other. ranks_before l.sheet l.season l.lots other l.club)
    (range_with_len 0 l.other))
    × (l.before ≤ l.other)
