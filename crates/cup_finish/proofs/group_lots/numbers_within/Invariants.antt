use Rattle.std.proofs.Common.{◌≡◌, take}
use Rattle.cup_sheet.specs.JointFinishes.{lots_within}
use Rattle.cup_finish.proofs.group_lots.numbers_within.Given as goal

-- the clubs so far, as far as they are in the group
abbrev pub invariant-loop-club : goal.invariant-loop-club
invariant-loop-club l =
    l.own.items
    ≡ lots_within (record { first = l.first; count = l.count }) (take l.club-index l.order)
