use Rattle.std.proofs.Common.{◌∙◌, ap, arith, length}
use Rattle.tree_arena.specs.inside.Arena.{shapes}
use Rattle.tree_arena.proofs.ShapeLemmas.{length-shapes}
use Rattle.tree_arena.proofs.tree.Tree.subtrees.Goals as goal

pub returns-clause-some : goal.returns-clause-some
returns-clause-some c =
    let many = ap length (c.of.ensures ∙ ap shapes c.as_slice.ensures)
    ∙ length-shapes c.self.inside.nodes.items in
    let some = c.self.invariant.roomy.arena.some in
    omega arith
