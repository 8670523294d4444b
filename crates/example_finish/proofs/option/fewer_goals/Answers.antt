use Rattle.std.proofs.Common.{arith}
use Rattle.example_finish.proofs.FirstLemmas.{away_win_of_both, home_win_of_both}
use Rattle.example_finish.proofs.option.fewer_goals.Goals as goal

pub returns-then-goals_of : goal.returns-then-goals_of
returns-then-goals_of c = λ cell wish one two.
    away_win_of_both cell wish c.args.home c.args.away one two (omega arith)

pub returns-else-goals_of : goal.returns-else-goals_of
returns-else-goals_of c = λ cell wish one two.
    home_win_of_both cell wish c.args.home c.args.away one two (omega arith)
