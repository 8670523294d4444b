use Rattle.std.proofs.Common.{◌≡◌, ◌≤◌, take}
use Rattle.league_core.specs.game.Limits.{most_finishes}
use Rattle.league_core.specs.inside.FinishList.{ways_to_finish}
use Rattle.reference_programs.proofs.counting.finish_count.Given as goal

-- the ways of the fixtures that were passed
abbrev pub invariant-loop-played : goal.invariant-loop-played
invariant-loop-played l =
    (l.count ≡ ways_to_finish l.sheet.goal_limit (take l.played-index l.played-items))
    × (l.count ≤ most_finishes)
