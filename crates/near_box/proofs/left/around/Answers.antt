use Rattle.near_box.proofs.HullLemmas.{around_both}
use Rattle.near_box.proofs.left.around.Goals as goal

pub returns : goal.returns
returns c cell one other mine theirs =
    around_both cell one other c.args.goals c.args.more _ c.min.ensures c.max.ensures
    c.min-2.ensures c.max-2.ensures mine theirs
