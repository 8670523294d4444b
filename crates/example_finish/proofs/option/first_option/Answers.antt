use Rattle.std.proofs.Common.{true, false}
use Rattle.example_finish.proofs.FirstLemmas.{first_option_is_first_at}
use Rattle.example_finish.proofs.option.first_option.Goals as goal

pub returns-in-true-true : goal.returns-in-true-true
returns-in-true-true c =
    first_option_is_first_at c.args.cell.now c.args.home c.args.away true true c.win_or_draw.result
    c.in-true-true.is-0 c.in-true-true.is-1 c.win_or_draw.ensures

pub returns-in-true-false : goal.returns-in-true-false
returns-in-true-false c =
    first_option_is_first_at c.args.cell.now c.args.home c.args.away true false
    c.home_win_or_other.result
    c.in-true-false.is-0 c.in-true-false.is-1 c.home_win_or_other.ensures

pub returns-in-false-true : goal.returns-in-false-true
returns-in-false-true c =
    first_option_is_first_at c.args.cell.now c.args.home c.args.away false true
    c.away_win_or_other.result
    c.in-false-true.is-0 c.in-false-true.is-1 c.away_win_or_other.ensures

pub returns-in-false-false : goal.returns-in-false-false
returns-in-false-false c =
    first_option_is_first_at c.args.cell.now c.args.home c.args.away false false
    c.draw_or_win.result
    c.in-false-false.is-0 c.in-false-false.is-1 c.draw_or_win.ensures
