use Rattle.std.proofs.Common.{◌≡◌, ◌++◌, drop}
use Rattle.cup_sheet.specs.Cups.{clubs_of_groups}
use Rattle.cup_feed.proofs.joint.joint_clubs.Given as goal

-- the clubs of all groups are those so far and those of the rest
abbrev pub invariant-loop-group : goal.invariant-loop-group
invariant-loop-group l =
    clubs_of_groups l.groups ≡ l.clubs ++ clubs_of_groups (drop l.group-index l.groups)
