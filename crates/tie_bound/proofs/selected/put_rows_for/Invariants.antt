use Rattle.league_core.specs.game.Sums.{worth_to}
use Rattle.league_core.proofs.SeenLemmas.{IsFilled}
use Rattle.tie_bound.specs.inside.Sums.{no_sums}
use Rattle.tie_bound.specs.inside.Rows.{IsRow}
use Rattle.tie_bound.proofs.selected.put_rows_for.Given as goal

-- the wanted clubs so far have their rows, and the others none
abbrev pub invariant-loop-club : goal.invariant-loop-club
invariant-loop-club l = IsFilled no_sums (IsRow worth_to l.zone_box.sheet.fixtures
    l.zone_box.season.scores) 24 l.yielded l.table
