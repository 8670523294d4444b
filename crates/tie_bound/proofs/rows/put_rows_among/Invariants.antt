use Rattle.league_core.specs.game.ClubSets.{clubs_in}
use Rattle.league_core.specs.game.Sums.{worth_among}
use Rattle.league_core.proofs.SeenLemmas.{IsFilled}
use Rattle.tie_bound.specs.inside.Sums.{no_sums}
use Rattle.tie_bound.specs.inside.Rows.{IsRow}
use Rattle.tie_bound.proofs.rows.put_rows_among.Given as goal

-- the clubs of the group so far have their rows, and the others none
abbrev pub invariant-loop-club : goal.invariant-loop-club
invariant-loop-club l = IsFilled no_sums (IsRow (worth_among (clubs_in l.group))
    l.zone_box.sheet.fixtures l.zone_box.season.scores) 24 l.yielded l.table
