use Rattle.std.proofs.Common.{true, false, sym, ◌∙◌}
use Rattle.example_finish.proofs.FirstOutcomeLemmas.{home_first-home_win, home_first-draw}
use Rattle.example_finish.proofs.FirstOutcomeLemmas.{away_win_alone}
use Rattle.example_finish.proofs.outcome.home_win_first.Goals as goal

pub returns-then-left : goal.returns-then-left
returns-then-left c = λ options score among is.
    home_first-home_win options score (sym among.home_win ∙ c.if-left.true) is

pub returns-then-left-2 : goal.returns-then-left-2
returns-then-left-2 c = λ options score among is.
    home_first-draw options score (sym among.home_win ∙ c.if-left.false)
    (sym among.draw ∙ c.if-left-2.true) is

pub returns-else-left-2 : goal.returns-else-left-2
returns-else-left-2 c = λ options score among is.
    away_win_alone true false options score (sym among.home_win ∙ c.if-left.false)
    (sym among.draw ∙ c.if-left-2.false) is
