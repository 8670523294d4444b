use Rattle.std.proofs.Common.{false}
use Rattle.std.proofs.Common.{refl}
use Rattle.league_core.specs.search.Options.{is_draw}
use Rattle.example_finish.specs.inside.Firsts.{is_any, is_win}
use Rattle.example_finish.proofs.FirstLemmas.{first_stays, others_first, draw_or_win_is_any}
use Rattle.example_finish.proofs.FirstLemmas.{wins_after_draws}
use Rattle.example_finish.proofs.option.draw_or_win.Goals as goal

pub returns-in-Some : goal.returns-in-Some
returns-in-Some c =
    first_stays c.args.cell.now is_draw is_win is_any false false c.in-Some.score
    (c.in-Some.ensures false false) refl draw_or_win_is_any
    (wins_after_draws c.in-Some.score (c.in-Some.ensures false false).one.passed)

pub returns-in-None : goal.returns-in-None
returns-in-None c =
    others_first c.args.cell.now is_draw is_win is_any false false c.small_win.result
    (c.in-None.ensures false false) (c.small_win.ensures false) draw_or_win_is_any (λ _ _. refl)
