use Rattle.std.proofs.Common.{◌≡◌, ◌++◌, take}
use Rattle.cup_rows.specs.inside.VerdictLines.{club_trees_from}
use Rattle.cup_rows.proofs.refuted.push_club_trees.Given as goal

-- the lines of the clubs so far
abbrev pub invariant-loop-club : goal.invariant-loop-club
invariant-loop-club l =
    l.lines.items
    ≡ l.fn.lines.items ++ club_trees_from l.fn.start l.fn.kind 0 (take l.club l.trees)
