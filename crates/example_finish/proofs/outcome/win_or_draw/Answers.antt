use Rattle.std.proofs.Common.{true, sym, ◌∙◌}
use Rattle.example_finish.proofs.FirstOutcomeLemmas.{win_first-home_win, win_first-away_win}
use Rattle.example_finish.proofs.FirstOutcomeLemmas.{draw_alone}
use Rattle.example_finish.proofs.outcome.win_or_draw.Goals as goal

pub returns-in-true-false : goal.returns-in-true-false
returns-in-true-false c = λ options score of_cell among is.
    win_first-home_win options score (sym among.home_win ∙ c.in-true-false.is-0)
    (sym among.away_win ∙ c.in-true-false.is-1) is

pub returns-in-false-true : goal.returns-in-false-true
returns-in-false-true c = λ options score of_cell among is.
    win_first-away_win options score (sym among.home_win ∙ c.in-false-true.is-0)
    (sym among.away_win ∙ c.in-false-true.is-1) is

pub returns-in-false-false : goal.returns-in-false-false
returns-in-false-false c = λ options score of_cell among is.
    draw_alone true true options score (sym among.home_win ∙ c.in-false-false.is-0)
    (sym among.away_win ∙ c.in-false-false.is-1) is
