use Rattle.std.proofs.Common.{◌≡◌, ◌<◌, ap, subst, arith, length, List, refl}
use Rattle.league_core.specs.search.Trees.{Tree}
use Rattle.tree_arena.specs.inside.Subtrees.{subtree_at, seen_by}
use Rattle.tree_arena.proofs.ArenaLemmas.{any_node}
use Rattle.tree_arena.proofs.ShapeLemmas.{length-shapes}
use Rattle.tree_arena.proofs.VisitLemmas.{room_for, sees}
use Rattle.tree_arena.proofs.subtrees.Subtrees.look.Goals as goal

pub bounds-self-inside-at : goal.bounds-self-inside-at
bounds-self-inside-at c =
    let many = ap length c.self.view_is in
    let nodes = length-shapes c.self.inside.nodes.now in
    omega (arith, c.requires.in_range)

pub look_at-requires : goal.look_at-requires
look_at-requires c =
    let many = ap length c.self.view_is in
    let nodes = length-shapes c.self.inside.nodes.now in
    room_for c.self.inside.nodes.now c.args.at any_node c.self.invariant.0
    (omega (arith, c.requires.in_range)) c.self.invariant.1

pub returns-clause-tree : goal.returns-clause-tree
returns-clause-tree c =
    let many = ap length c.self.view_is in
    let nodes = length-shapes c.self.inside.nodes.now in
    let there = sees c.self.inside.nodes.now c.args.at _ any_node c.self.invariant.0
    (omega (arith, c.requires.in_range)) refl in
    subst (λ (trees : List Tree). subtree_at trees c.args.at ≡ seen_by trees c.look_at.result)
    c.self.view_is
    (rw c.look_at.ensures there.tree)

pub returns-clause-yes_half : goal.returns-clause-yes_half
returns-clause-yes_half c =
    let many = ap length c.self.view_is in
    let nodes = length-shapes c.self.inside.nodes.now in
    let there = sees c.self.inside.nodes.now c.args.at _ any_node c.self.invariant.0
    (omega (arith, c.requires.in_range)) refl in
    subst (λ (trees : List Tree). c.look_at.result.yes_half < length trees) c.self.view_is
    (rw c.look_at.ensures there.yes_half)

pub returns-clause-no_half : goal.returns-clause-no_half
returns-clause-no_half c =
    let many = ap length c.self.view_is in
    let nodes = length-shapes c.self.inside.nodes.now in
    let there = sees c.self.inside.nodes.now c.args.at _ any_node c.self.invariant.0
    (omega (arith, c.requires.in_range)) refl in
    subst (λ (trees : List Tree). c.look_at.result.no_half < length trees) c.self.view_is
    (rw c.look_at.ensures there.no_half)
