use Rattle.std.proofs.Common.{ap, ◌∙◌}
use Rattle.std.specs.Option.{is_some}
use Rattle.league_core.specs.search.Trees.{zones_of}
use Rattle.league_core.specs.search.TreeLists.{tree_of, tree_or_leaf, tree_of-preorder}
use Rattle.tree_arena.proofs.tree.Tree.leaves.Goals as goal

pub list_zones-requires : goal.list_zones-requires
list_zones-requires c =
    ap (λ nodes. is_some (tree_of nodes)) (c.as_slice.ensures.value ∙ c.in_ok-nodes.ensures)
    ∙ ap is_some (tree_of-preorder c.args.self.now)

pub returns : goal.returns
returns c =
    let list = ap (λ nodes. zones_of (tree_or_leaf (tree_of nodes)))
    (c.as_slice.ensures.value ∙ c.in_ok-nodes.ensures)
    ∙ ap (λ read. zones_of (tree_or_leaf read)) (tree_of-preorder c.args.self.now) in
    rw list at c.list_zones.ensures
