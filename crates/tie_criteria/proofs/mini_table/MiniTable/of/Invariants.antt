use Rattle.std.proofs.Common.{◌≡◌, map}
use Rattle.league_core.specs.game.ClubSets.{clubs_below}
use Rattle.tie_criteria.proofs.RowLemmas.{row_at}
use Rattle.tie_criteria.proofs.mini_table.MiniTable.of.Given as goal

-- the rows of the group's clubs that were passed
abbrev pub invariant-loop-club : goal.invariant-loop-club
invariant-loop-club l = l.rows.items ≡ map (row_at l.found.items) (clubs_below l.club l.group.bits)
