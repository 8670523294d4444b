use Rattle.std.proofs.Common.{List, reverse, refl, sym, subst}
use Rattle.league_core.specs.declared.zone.Literal.{Literal}
use Rattle.tree_arena.specs.inside.LastPaths.{LeadsToNode}
use Rattle.tree_arena.proofs.RoomLemmas.{root_pushed}
use Rattle.tree_arena.proofs.tree.Tree.root.Goals as goal

pub invariant_of-result : goal.invariant_of-result
invariant_of-result c = record {
  roomy = root_pushed c.push.new.self c.reserve.new.self c.push-2.new.self c.reserve-2.new.self
      c.new-lent.result c.new-nodes.result.items c.new-live.result.items c.push.ensures.items
      c.in_ok-reserve.ensures.items c.new-nodes.ensures c.push-2.ensures.items
      c.in_ok-reserve-2.ensures.items c.new-live.ensures c.new-lent.ensures;
  leads = subst (λ (literals : List Literal).
      LeadsToNode c.push.new.self.items (reverse literals) 0) (sym c.new-zone_box.ensures) refl;
}
