use Rattle.std.proofs.Common.{sym, ◌∙◌}
use Rattle.tree_reuse.proofs.RetargetLemmas.{open_leaf_stays}
use Rattle.tree_reuse.proofs.retargeting.retarget_over.Goals as goal

pub returns-then-is_one_open_leaf : goal.returns-then-is_one_open_leaf
returns-then-is_one_open_leaf c =
    let played = c.args.played.now in
    let leaf = c.is_one_open_leaf.ensures.0 c.if-is_one_open_leaf.true in
    rw (sym (open_leaf_stays played.sheet played.season c.args.question.now c.args.tree.now leaf
    ∙ leaf)) at c.root.ensures
