use Rattle.std.proofs.Common.{sym, ap, ◌∙◌}
use Rattle.league_core.specs.search.Trees.{has_open}
use Rattle.tree_arena.proofs.ArenaLemmas.{arena-has_open}
use Rattle.tree_arena.proofs.LendLemmas.{live_many, more_than}
use Rattle.tree_arena.proofs.RoomLemmas.{in_order}
use Rattle.tree_arena.proofs.tree.Tree.has_open.Goals as goal

pub returns : goal.returns
returns c =
    let roomy = c.self.invariant.roomy in
    let many = live_many c.self.inside.nodes.items c.self.inside.live.items roomy.opens
    c.self.inside.lent.items
    (in_order c.self.inside.nodes c.self.inside.live c.self.inside.lent roomy) in
    more_than _ _ _ _ _ c.len.ensures c.len-2.ensures many
    ∙ sym (arena-has_open c.self.inside.nodes.items roomy.opens c.self.inside.lent.items
    roomy.arena)
    ∙ ap has_open c.self.view_is
