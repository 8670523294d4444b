use Rattle.std.proofs.Common.{◌≡◌, ◌++◌, take}
use Rattle.runners_up.specs.inside.JointEnds.{group_finishes}
use Rattle.cup_text.specs.CupItems.{joint_scores_from}
use Rattle.cup_rows.specs.inside.JointLines.{scores_together}
use Rattle.cup_rows.proofs.joint_lines.push_all_scores.Given as goal

-- the lines of the groups so far come after those before, and the next fixture after theirs
abbrev pub invariant-loop-group : goal.invariant-loop-group
invariant-loop-group l =
    (l.first ≡ scores_together (take l.group l.seasons))
    × (l.lines.items
    ≡ l.fn.lines.items
    ++ joint_scores_from 0 (take l.group l.seasons) (group_finishes (take l.group l.ends)))
