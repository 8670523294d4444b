use Rattle.std.proofs.Common.{◌≡◌, ◌++◌, take}
use Rattle.cup_feed.proofs.joint.with_clubs.Given as goal

-- the clubs so far stand behind those that were there
abbrev pub invariant-loop-club : goal.invariant-loop-club
invariant-loop-club l = l.all ≡ l.fn.clubs ++ take l.club-index l.more
