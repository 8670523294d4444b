use Rattle.std.proofs.Common.{true, false, sym, ◌∙◌}
use Rattle.example_finish.proofs.FirstOutcomeLemmas.{away_first-away_win, away_first-draw}
use Rattle.example_finish.proofs.FirstOutcomeLemmas.{home_win_alone}
use Rattle.example_finish.proofs.outcome.away_win_first.Goals as goal

pub returns-then-left : goal.returns-then-left
returns-then-left c = λ options score among is.
    away_first-away_win options score (sym among.away_win ∙ c.if-left.true) is

pub returns-then-left-2 : goal.returns-then-left-2
returns-then-left-2 c = λ options score among is.
    away_first-draw options score (sym among.away_win ∙ c.if-left.false)
    (sym among.draw ∙ c.if-left-2.true) is

pub returns-else-left-2 : goal.returns-else-left-2
returns-else-left-2 c = λ options score among is.
    home_win_alone false true options score (sym among.draw ∙ c.if-left-2.false)
    (sym among.away_win ∙ c.if-left.false) is
