use Rattle.std.proofs.Common.{◌≡◌, ◌++◌, take}
use Rattle.cup_text.specs.CupItems.{group_scores_from}
use Rattle.cup_rows.proofs.joint_lines.push_group_scores.Given as goal

-- the lines of the fixtures so far come after those before
abbrev pub invariant-loop-fixture : goal.invariant-loop-fixture
invariant-loop-fixture l = l.lines.items
    ≡ l.fn.lines.items
    ++ group_scores_from l.first (take l.fixture l.season.scores) (take l.fixture l.finish.scores)
