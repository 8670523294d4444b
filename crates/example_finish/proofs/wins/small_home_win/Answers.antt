use Rattle.example_finish.proofs.FirstLemmas.{small_home_win_is_first}
use Rattle.example_finish.proofs.wins.small_home_win.Goals as goal

pub returns : goal.returns
returns c = λ wish.
    small_home_win_is_first c.args.cell.now c.in_ok-goals.goals wish c.in_ok-goals.ensures.goals
