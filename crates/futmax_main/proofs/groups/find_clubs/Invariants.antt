use Rattle.futmax_main.proofs.FoundClubLemmas.{AreFoundBefore}
use Rattle.futmax_main.proofs.groups.find_clubs.Given as goal

abbrev pub invariant-loop-club : goal.invariant-loop-club
invariant-loop-club l = AreFoundBefore l.cup l.seasons l.club l.clubs.items
