use Rattle.example_finish.proofs.FirstLemmas.{home_win_alone, win_of_one}
use Rattle.example_finish.proofs.option.small_win.Goals as goal

pub returns-in-Some-Some : goal.returns-in-Some-Some
returns-in-Some-Some c = λ wish.
    c.fewer_goals.ensures c.args.cell.now wish (c.in-Some-Some.ensures wish)
    (c.in-Some-Some.ensures' wish)

pub returns-in-Some-None : goal.returns-in-Some-None
returns-in-Some-None c = λ wish.
    home_win_alone c.args.cell.now wish c.in-Some-None.home (c.in-Some-None.ensures wish)
    (c.in-Some-None.ensures' wish)

pub returns-in-None-default : goal.returns-in-None-default
returns-in-None-default c = λ wish.
    win_of_one c.args.cell.now wish c.small_home_win.result c.small_away_win.result
    (c.small_home_win.ensures wish) c.in-None-default.is-0 (c.small_away_win.ensures wish)
