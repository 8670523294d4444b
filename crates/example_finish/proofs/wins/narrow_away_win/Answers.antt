use Rattle.example_finish.proofs.FirstLemmas.{narrow_away_win_is_first}
use Rattle.example_finish.proofs.wins.narrow_away_win.Goals as goal

pub returns : goal.returns
returns c =
    narrow_away_win_is_first c.args.cell.now c.in_ok-goals.goals c.min.result
    c.in_ok-goals.ensures.goals c.min.ensures
