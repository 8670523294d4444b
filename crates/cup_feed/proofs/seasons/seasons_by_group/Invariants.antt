use Rattle.std.proofs.Common.{◌≡◌, ◌+◌, ◌++◌, drop, length}
use Rattle.cup_sheet.specs.Cups.{clubs_together}
use Rattle.cup_sheet.specs.CupFeeds.{results_by_group}
use Rattle.cup_feed.specs.inside.GroupLimits.{fixtures_together}
use Rattle.cup_feed.proofs.seasons.seasons_by_group.Given as goal

-- the seasons of all groups are those so far and those of the rest, out of what is left
abbrev pub invariant-loop-group : goal.invariant-loop-group
invariant-loop-group l =
    (results_by_group l.groups (record { scores = l.scores; deductions = l.deductions })
    ≡ l.seasons ++ results_by_group (drop l.group-index l.groups) (record {
      scores = drop l.fixture l.scores;
      deductions = drop l.club l.deductions;
    }))
    × (l.fixture + fixtures_together (drop l.group-index l.groups) ≡ length l.scores)
    × (l.club + clubs_together (drop l.group-index l.groups) ≡ length l.deductions)
