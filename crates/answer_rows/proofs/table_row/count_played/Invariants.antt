use Rattle.std.proofs.Common.{◌≡◌, ◌≤◌, take}
use Rattle.answer_rows.specs.Tables.{count_played}
use Rattle.answer_rows.proofs.table_row.count_played.Given as goal

-- the matches so far are counted
abbrev pub invariant-loop-i : goal.invariant-loop-i
invariant-loop-i l =
    (l.count ≡ count_played l.club (take l.i l.sheet.fixtures) (take l.i l.season.scores))
    × (l.count ≤ l.i)
