use Rattle.std.proofs.Common.{◌≡◌, ◌++◌, take}
use Rattle.std.specs.List.{flat_map}
use Rattle.cup_rows.specs.inside.VerdictLines.{listed_group_lines}
use Rattle.cup_rows.proofs.refuted.push_listed.Given as goal

-- the lines of the groups so far
abbrev pub invariant-loop-group : goal.invariant-loop-group
invariant-loop-group l =
    l.lines.items
    ≡ l.fn.lines.items
    ++ flat_map (listed_group_lines l.cup l.fn.claim) (take l.group-index l.listed)
