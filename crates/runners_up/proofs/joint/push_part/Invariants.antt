use Rattle.std.proofs.Common.{◌≡◌, ◌++◌, filter, take}
use Rattle.cup_groups.specs.inside.ClubSeats.{seat_block}
use Rattle.runners_up.specs.inside.JointEnds.{is_in_turn}
use Rattle.runners_up.proofs.joint.push_part.Given as goal

-- of the clubs so far those of this turn are added
abbrev pub invariant-loop-club : goal.invariant-loop-club
invariant-loop-club l =
    l.order.items
    ≡ l.initial.order.items
    ++ filter (is_in_turn l.claim (seat_block l.seat) l.early) (take l.club-index l.all)
