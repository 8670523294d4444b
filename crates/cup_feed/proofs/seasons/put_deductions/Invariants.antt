use Rattle.std.proofs.Common.{◌≡◌, ◌++◌, drop, take}
use Rattle.cup_feed.proofs.seasons.put_deductions.Given as goal

-- the deductions so far are written, and the others are as they were
abbrev pub invariant-loop-points : goal.invariant-loop-points
invariant-loop-points l =
    (l.club ≡ l.points-index)
    × (l.season ≡ record l.fn.season {
      deductions = take l.points-index l.deductions ++ drop l.points-index l.fn.season.deductions;
    })
