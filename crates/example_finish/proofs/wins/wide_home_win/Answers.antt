use Rattle.example_finish.proofs.FirstLemmas.{wide_home_win_is_first}
use Rattle.example_finish.proofs.wins.wide_home_win.Goals as goal

pub returns : goal.returns
returns c =
    wide_home_win_is_first c.args.cell.now c.in_ok-goals.goals c.in_ok-goals.ensures.goals
    c.in_ok-goals.ensures.widest
