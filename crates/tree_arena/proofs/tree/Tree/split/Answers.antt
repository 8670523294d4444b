use Rattle.std.proofs.Common.{true}
use Rattle.tree_arena.proofs.RoomLemmas.{marked_once, splits_pushed, removed_once_lent, Returns}
use Rattle.league_core.specs.search.Trees.{open_leaf, branch}
use Rattle.league_core.specs.inside.Lending.{put}
use Rattle.std.proofs.Common.{◌-◌, reverse, false}
use Rattle.tree_arena.specs.declared.node.Kind.TheVariants.{Open, Split}
use Rattle.tree_arena.proofs.KeptRoomLemmas.{leads_back, leads_pushed}
use Rattle.tree_arena.proofs.tree.Tree.split.Goals as goal

pub find-place-requires-clause-once : goal.find-place-requires-clause-once
find-place-requires-clause-once c =
    marked_once c.args.number c.args.self.now c.self.inside.nodes c.self.inside.live
    c.self.inside.lent c.as_slice.result.now c.self.invariant.roomy c.self.view_is c.requires
    c.as_slice.ensures

pub split_leaf-requires-clause-once : goal.split_leaf-requires-clause-once
split_leaf-requires-clause-once c =
    removed_once_lent c.args.number c.args.self.now c.self.inside.nodes c.self.inside.live
    c.self.inside.lent c.take_at-leaf.new.list c.as_slice.result.now c.as_slice-2.result.now
    c.find-place.result c.take_at-leaf.result c.self.invariant.roomy c.self.view_is c.requires
    c.as_slice.ensures c.as_slice-2.ensures c.find-place.ensures c.take_at-leaf.ensures.item
    c.take_at-leaf.ensures.items

step : (c : goal.After-split_leaf)
    → Returns (put c.args.number (branch c.args.test true open_leaf open_leaf) c.args.self.now)
    c.push-2.new.self c.split_leaf.new.list c.take_at-leaf.new.list
step c =
    splits_pushed c.args.number c.args.self.now c.self.inside.nodes c.write.new.nodes
    c.push.new.self c.push-2.new.self c.self.inside.live c.self.inside.lent
    c.take_at-leaf.new.list c.split_leaf.new.list c.as_slice.result.now
    c.as_slice-2.result.now c.find-place.result c.take_at-leaf.result c.len-size.result c.args.test
    c.self.invariant.roomy c.self.view_is c.requires c.as_slice.ensures c.as_slice-2.ensures
    c.find-place.ensures c.take_at-leaf.ensures.item c.take_at-leaf.ensures.items
    c.len-size.ensures c.write.ensures.room c.write.ensures.items c.push.ensures.items
    c.push.ensures.room c.push-2.ensures.items c.push-2.ensures.room
    c.split_leaf.ensures.items c.split_leaf.ensures.room

pub invariant_of-self : goal.invariant_of-self
invariant_of-self c = record {
  roomy = (step c).roomy;
  leads = leads_pushed c.write.new.nodes c.push.new.self c.push-2.new.self
      (record { kind = Open; parent = c.take_at-leaf.result; yes = true })
      (record { kind = Open; parent = c.take_at-leaf.result; yes = false })
      (reverse c.self.inside.zone_box) c.self.inside.last c.push.ensures.items
      c.push-2.ensures.items
      (leads_back c.args.number c.self.inside.nodes c.write.new.nodes c.self.inside.lent
      c.take_at-leaf.new.list c.as_slice.result.now c.as_slice-2.result.now c.find-place.result
      c.take_at-leaf.result (Split c.args.test true (c.len-size.result - c.take_at-leaf.result - 1))
      (reverse c.self.inside.zone_box) c.self.inside.last
      c.as_slice.ensures c.as_slice-2.ensures c.find-place.ensures c.take_at-leaf.ensures.item
      c.take_at-leaf.ensures.items c.write.ensures.items c.self.invariant.leads);
}

pub returns : goal.returns
returns c = (step c).tree_is
