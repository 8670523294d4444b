use Rattle.std.proofs.Common.{sym, ap, ◌∙◌}
use Rattle.league_core.specs.search.Trees.{node_count}
use Rattle.tree_arena.proofs.ArenaLemmas.{arena-nodes}
use Rattle.tree_arena.proofs.tree.Tree.node_count.Goals as goal

pub returns : goal.returns
returns c =
    c.len.ensures
    ∙ sym (arena-nodes c.self.inside.nodes.items c.self.invariant.roomy.opens
    c.self.inside.lent.items c.self.invariant.roomy.arena)
    ∙ ap node_count c.self.view_is
