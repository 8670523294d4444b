-- Each score is a home win, a draw or an away win.
use Rattle.std.proofs.Common.{◌||◌, Some, sym, ◌∙◌}
use Rattle.league_core.specs.search.Options.{is_home_win, is_draw, is_away_win}
use Rattle.score_box.specs.inside.Cells.{allows}
use Rattle.key_bounds.specs.inside.RowEnds.{passing}
use Rattle.key_bounds.proofs.HullLemmas.{ends_same, three_kinds, leaves_some}
use Rattle.key_bounds.proofs.WalkLemmas.{leaves_none}
use Rattle.key_bounds.proofs.outcomes.side_ends.Goals as goal

pub returns-in-Some : goal.returns-in-Some
returns-in-Some c =
    let cell = c.args.cell.now in
    let away = c.args.away in
    leaves_some cell away c.in-Some.ends
    (ends_same (λ score. (passing cell is_home_win score || passing cell is_draw score)
    || passing cell is_away_win score) (allows cell) away (Some c.in-Some.ends) (three_kinds cell)
    (c.in-Some.ensures (λ score. passing cell is_home_win score || passing cell is_draw score)
    (passing cell is_away_win) away
    (c.either.ensures (passing cell is_home_win) (passing cell is_draw) away
    c.at_home_wins-home_wins.ensures c.at_draws-draws.ensures)
    c.at_away_wins-away_wins.ensures))

pub returns-in-None : goal.returns-in-None
returns-in-None c =
    let cell = c.args.cell.now in
    let away = c.args.away in
    leaves_none cell away (λ score. sym (three_kinds cell score)
    ∙ c.in-None.ensures (λ s. passing cell is_home_win s || passing cell is_draw s)
    (passing cell is_away_win) away
    (c.either.ensures (passing cell is_home_win) (passing cell is_draw) away
    c.at_home_wins-home_wins.ensures c.at_draws-draws.ensures)
    c.at_away_wins-away_wins.ensures score)
