use Rattle.std.proofs.Common.{◌≡◌, take, true, map}
use Rattle.std.specs.List.{list_all}
use Rattle.cup_grammar.specs.PlacedGroups.{has_placed_club, own_club}
use Rattle.cup_check.proofs.place.GroupPlace.own_clubs.Given as goal

-- the clubs so far are of the group, and these are their numbers
abbrev pub invariant-loop-club : goal.invariant-loop-club
invariant-loop-club l =
    (list_all (has_placed_club l.self) (take l.club-index l.clubs) ≡ true)
    × (l.own.items ≡ map (own_club l.self) (take l.club-index l.clubs))
