use Rattle.std.proofs.Common.{◌≡◌, take}
use Rattle.league_core.proofs.sheet.copy_clubs.Given as goal

-- the clubs that were passed are copied
abbrev pub invariant-loop-club : goal.invariant-loop-club
invariant-loop-club l = l.copies ≡ take l.club-index l.clubs
