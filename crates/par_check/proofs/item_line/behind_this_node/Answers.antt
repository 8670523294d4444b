use Rattle.std.proofs.Common.{sym, ◌∙◌}
use Rattle.par_check.proofs.OutlineLemmas.{if_true}
use Rattle.par_check.proofs.item_line.behind_this_node.Goals as goal

pub returns-in_ok-behind_split-in-Split : goal.returns-in_ok-behind_split-in-Split
returns-in_ok-behind_split-in-Split c =
    rw c.in-Split.is (if_true _ _ _ (sym c.may_split.ensures ∙ c.if-may_split.true)
    (c.in_ok-behind_split-in-Split.ensures c.args.report.now.basis c.args.row))

pub returns-then-may_have_leaf : goal.returns-then-may_have_leaf
returns-then-may_have_leaf c =
    rw c.in-Refuted.is (if_true _ _ _ (sym c.may_have_leaf.ensures ∙ c.if-may_have_leaf.true)
    (c.behind_leaf.ensures c.args.report.now.basis c.args.row))

pub returns-in-Open : goal.returns-in-Open
returns-in-Open c =
    rw c.in-Open.is (c.behind_leaf-in-Open.ensures c.args.report.now.basis c.args.row)
