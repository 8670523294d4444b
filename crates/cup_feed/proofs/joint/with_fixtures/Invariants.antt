use Rattle.std.proofs.Common.{◌≡◌, ◌++◌, map, take}
use Rattle.cup_sheet.specs.CupFeeds.{fixture_in_cup}
use Rattle.cup_feed.proofs.joint.with_fixtures.Given as goal

-- the fixtures so far stand behind those that were there, by the numbers in the cup
abbrev pub invariant-loop-fixture : goal.invariant-loop-fixture
invariant-loop-fixture l =
    l.all ≡ l.fn.fixtures ++ map (fixture_in_cup l.first) (take l.fixture-index l.group.fixtures)
