use Rattle.std.proofs.Common.{sym, ap, ◌∙◌, length, ◌==◌}
use Rattle.league_core.specs.search.Trees.{is_refuted}
use Rattle.tree_arena.proofs.ArenaLemmas.{arena-is_refuted}
use Rattle.tree_arena.proofs.LendLemmas.{live_many, none_of_both}
use Rattle.tree_arena.proofs.RoomLemmas.{in_order}
use Rattle.tree_arena.proofs.tree.Tree.is_refuted.Goals as goal

pub returns : goal.returns
returns c =
    let roomy = c.self.invariant.roomy in
    let many = live_many c.self.inside.nodes.items c.self.inside.live.items roomy.opens
    c.self.inside.lent.items
    (in_order c.self.inside.nodes c.self.inside.live c.self.inside.lent roomy) in
    ap (λ n. n == 0) (c.len.ensures ∙ many)
    ∙ none_of_both (length roomy.opens) (length c.self.inside.lent.items)
    ∙ sym (arena-is_refuted c.self.inside.nodes.items roomy.opens c.self.inside.lent.items
    roomy.arena)
    ∙ ap is_refuted c.self.view_is
