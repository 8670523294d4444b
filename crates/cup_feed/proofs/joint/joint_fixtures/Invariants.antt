use Rattle.std.proofs.Common.{◌≡◌, ◌≤◌, ◌+◌, ◌++◌, drop}
use Rattle.cup_sheet.specs.Cups.{clubs_together}
use Rattle.cup_sheet.specs.CupFeeds.{fixtures_from}
use Rattle.cup_feed.proofs.joint.joint_fixtures.Given as goal

-- all fixtures are those so far and those of the rest, whose first club has this number
abbrev pub invariant-loop-group : goal.invariant-loop-group
invariant-loop-group l =
    (fixtures_from 0 l.groups ≡ l.fixtures ++ fixtures_from l.first (drop l.group-index l.groups))
    × (l.first + clubs_together (drop l.group-index l.groups) ≤ 255)
