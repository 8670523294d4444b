use Rattle.std.proofs.Common.{true}
use Rattle.std.proofs.Common.{refl}
use Rattle.league_core.specs.search.Options.{is_draw}
use Rattle.example_finish.specs.inside.Firsts.{is_any, is_win}
use Rattle.example_finish.proofs.FirstLemmas.{first_stays, others_first, win_or_draw_is_any}
use Rattle.example_finish.proofs.FirstLemmas.{draws_after_wins}
use Rattle.example_finish.proofs.option.win_or_draw.Goals as goal

pub returns-in-Some : goal.returns-in-Some
returns-in-Some c =
    first_stays c.args.cell.now is_win is_draw is_any true true c.in-Some.score (c.in-Some.ensures
    true) refl
    win_or_draw_is_any (draws_after_wins c.in-Some.score (c.in-Some.ensures true).one.passed)

pub returns-in-None : goal.returns-in-None
returns-in-None c =
    others_first c.args.cell.now is_win is_draw is_any true true c.least_draw.result
    (c.in-None.ensures true) (c.least_draw.ensures true true) win_or_draw_is_any (λ _ _. refl)
