use Rattle.std.proofs.Common.{◌≡◌, ◌+◌, ◌-◌, length, reverse, Some, None, refl, sym, ◌∙◌, subst}
use Rattle.std.proofs.Common.{arith, eqb-true}
use Rattle.league_core.specs.declared.tree.TreeNode.{TreeNode}
use Rattle.league_core.specs.search.TreeLists.{with_node}
use Rattle.reference_programs.proofs.ListLemmas.{unread_at, read_last}
use Rattle.reference_programs.proofs.boxed.BoxedTree.of_nodes.Goals as goal

pub returns-in-Ok-false-clause-err : goal.returns-in-Ok-false-clause-err
returns-in-Ok-false-clause-err c =
    let nodes = c.args.nodes.items in
    let stack = reverse c.loop-at.trees.items in
    let few = rw c.in-Ok-false.field-0-test at c.in-Ok-false.ensures in
    let before : c.loop-at.at - 1 + 1 ≡ c.loop-at.at = omega arith in (
      refl,
      unread_at (c.loop-at.at - 1) nodes c.index.result.now (Some stack) (omega arith)
          (rw before c.loop-at.invariant.1)
          (subst (λ (node : TreeNode). with_node node (Some stack) ≡ None) c.index.ensures few),
    )

pub returns-then-is_empty-clause-ok : goal.returns-then-is_empty-clause-ok
returns-then-is_empty-clause-ok c =
    let none : c.pop.new.self.len ≡ 0 =
    eqb-true c.pop.new.self.len 0 (sym c.is_empty.ensures ∙ c.if-is_empty.true) in
    let ok = c.pop.new.self.ok in
    let empty : length c.pop.new.self.items ≡ 0 = omega arith in
    read_last c.args.nodes.items c.loop-at.trees.items c.pop.new.self.items c.in-Some.tree
    c.loop-at.at (omega arith) c.loop-at.invariant.1 c.in-Some.ensures.items
    empty
