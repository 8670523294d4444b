use Rattle.std.proofs.Common.{false, sym, ◌∙◌}
use Rattle.example_finish.proofs.FirstOutcomeLemmas.{draw_first-draw, home_win_alone}
use Rattle.example_finish.proofs.FirstOutcomeLemmas.{away_win_alone}
use Rattle.example_finish.proofs.outcome.draw_or_win.Goals as goal

pub returns-in-true-default-default : goal.returns-in-true-default-default
returns-in-true-default-default c = λ options score of_cell among is.
    draw_first-draw options score (sym among.draw ∙ c.in-true-default-default.is-0) is

pub returns-in-false-true-false : goal.returns-in-false-true-false
returns-in-false-true-false c = λ options score of_cell among is.
    home_win_alone false false options score (sym among.draw ∙ c.in-false-true-false.is-0)
    (sym among.away_win ∙ c.in-false-true-false.is-2) is

pub returns-in-false-false-default : goal.returns-in-false-false-default
returns-in-false-false-default c = λ options score of_cell among is.
    away_win_alone false false options score (sym among.home_win ∙ c.in-false-false-default.is-1)
    (sym among.draw ∙ c.in-false-false-default.is-0) is
