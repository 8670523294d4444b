use Rattle.example_finish.proofs.FirstLemmas.{draw_is_first}
use Rattle.example_finish.proofs.wins.least_draw.Goals as goal

pub returns : goal.returns
returns c = λ home away.
    draw_is_first c.args.cell.now c.in_ok-goals.goals home away c.in_ok-goals.ensures.goals
    c.in_ok-goals.ensures.least
