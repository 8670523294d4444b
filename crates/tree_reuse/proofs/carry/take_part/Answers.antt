use Rattle.std.proofs.Common.{subst}
use Rattle.tree_arena.specs.inside.Calls.{AreTestsOf}
use Rattle.tree_arena.specs.inside.Subtrees.{subtree_at}
use Rattle.tree_reuse.proofs.CarryLemmas.{first_of_sheet}
use Rattle.tree_reuse.proofs.carry.take_part.Goals as goal

pub keep_node-requires-clause-node : goal.keep_node-requires-clause-node
keep_node-requires-clause-node c =
    let trees = c.args.subtrees.now in
    let look = c.look-look.result in
    rw c.in_ok-go_to.ensures
    (first_of_sheet c.args.zone_box.now.sheet look.node (subtree_at trees look.yes_half)
    (subtree_at trees look.no_half)
    (subst (AreTestsOf c.args.zone_box.now.sheet) c.look-look.ensures.tree c.requires.part.tests))
