use Rattle.tree_arena.proofs.RoomLemmas.{marked_once, reopens}
use Rattle.tree_arena.proofs.RoomLemmas.{Returns}
use Rattle.league_core.specs.search.Trees.{open_leaf}
use Rattle.league_core.specs.inside.Lending.{put}
use Rattle.std.proofs.Common.{reverse}
use Rattle.tree_arena.specs.declared.node.Kind.TheVariants.{Open}
use Rattle.tree_arena.proofs.KeptRoomLemmas.{leads_back}
use Rattle.tree_arena.proofs.tree.Tree.reopen.Goals as goal

pub find-place-requires-clause-once : goal.find-place-requires-clause-once
find-place-requires-clause-once c =
    marked_once c.args.number c.args.self.now c.self.inside.nodes c.self.inside.live
    c.self.inside.lent c.as_slice.result.now c.self.invariant.roomy c.self.view_is c.requires
    c.as_slice.ensures

step : (c : goal.After-write) → Returns (put c.args.number open_leaf c.args.self.now)
    c.write.new.nodes c.self.inside.live c.take_at-leaf.new.list
step c =
    reopens c.args.number c.args.self.now c.self.inside.nodes c.write.new.nodes
    c.self.inside.live c.self.inside.lent c.take_at-leaf.new.list
    c.as_slice.result.now c.as_slice-2.result.now c.find-place.result c.take_at-leaf.result
    c.self.invariant.roomy c.self.view_is c.requires c.as_slice.ensures c.as_slice-2.ensures
    c.find-place.ensures c.take_at-leaf.ensures.item c.take_at-leaf.ensures.items
    c.write.ensures.room c.write.ensures.items

pub invariant_of-self : goal.invariant_of-self
invariant_of-self c = record {
  roomy = (step c).roomy;
  leads = leads_back c.args.number c.self.inside.nodes c.write.new.nodes c.self.inside.lent
      c.take_at-leaf.new.list c.as_slice.result.now c.as_slice-2.result.now c.find-place.result
      c.take_at-leaf.result Open (reverse c.self.inside.zone_box) c.self.inside.last
      c.as_slice.ensures c.as_slice-2.ensures c.find-place.ensures c.take_at-leaf.ensures.item
      c.take_at-leaf.ensures.items c.write.ensures.items c.self.invariant.leads;
}

pub returns : goal.returns
returns c = (step c).tree_is
