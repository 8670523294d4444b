use Rattle.std.proofs.Common.{true, false}
use Rattle.std.proofs.lemmas.Bool.{or_left, or_right, or_cases}
use Rattle.league_core.specs.search.Options.{is_draw, is_away_win}
use Rattle.example_finish.specs.inside.Firsts.{is_no_home_win}
use Rattle.example_finish.proofs.FirstLemmas.{first_stays, others_first, away_wins_after_draws}
use Rattle.example_finish.proofs.option.draw_or_away_win.Goals as goal

pub returns-in-Some : goal.returns-in-Some
returns-in-Some c =
    first_stays c.args.cell.now is_draw is_away_win is_no_home_win true false c.in-Some.score
    (c.in-Some.ensures true false)
    (or_left (is_draw c.in-Some.score) (is_away_win c.in-Some.score) (c.in-Some.ensures true
    false).one.passed)
    (λ other is. or_cases (is_draw other) (is_away_win other) is)
    (away_wins_after_draws c.in-Some.score (c.in-Some.ensures true false).one.passed)

pub returns-in-None : goal.returns-in-None
returns-in-None c =
    others_first c.args.cell.now is_draw is_away_win is_no_home_win true false
    c.narrow_away_win.result (c.in-None.ensures true false) c.narrow_away_win.ensures
    (λ other is. or_cases (is_draw other) (is_away_win other) is)
    (λ other is. or_right (is_draw other) (is_away_win other) is)
