use Rattle.std.proofs.Common.{true, false}
use Rattle.std.proofs.Common.{refl}
use Rattle.league_core.specs.search.Options.{is_away_win}
use Rattle.example_finish.specs.inside.Firsts.{is_any, is_no_away_win}
use Rattle.example_finish.proofs.FirstLemmas.{first_stays, others_first, away_win_or_other_is_any}
use Rattle.example_finish.proofs.FirstLemmas.{others_after_away_wins}
use Rattle.example_finish.proofs.option.away_win_or_other.Goals as goal

pub returns-in-Some : goal.returns-in-Some
returns-in-Some c =
    first_stays c.args.cell.now is_away_win is_no_away_win is_any false true c.in-Some.score
    c.in-Some.ensures refl away_win_or_other_is_any
    (others_after_away_wins c.in-Some.score c.in-Some.ensures.one.passed)

pub returns-in-None : goal.returns-in-None
returns-in-None c =
    others_first c.args.cell.now is_away_win is_no_away_win is_any false true
    c.draw_or_home_win.result c.in-None.ensures c.draw_or_home_win.ensures
    away_win_or_other_is_any (λ _ _. refl)
