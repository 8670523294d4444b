use Rattle.std.proofs.Common.{◌+◌, ◌++◌, [], length, drop, reverse, ap, ◌∙◌}
use Rattle.std.proofs.Common.{arith, subst}
use Rattle.std.proofs.Common.{List, get_or, refl, false}
use Rattle.std.proofs.lemmas.List.{drop_all}
use Rattle.league_core.specs.declared.tree.TreeNode.TheVariants.{Split}
use Rattle.league_core.specs.declared.zone.Test.TheVariants.{Home}
use Rattle.league_core.specs.search.Trees.{preorder}
use Rattle.league_core.specs.search.TreeLists.{tree_of, tree_or_leaf}
use Rattle.league_core.specs.declared.tree.TreeNode.{TreeNode}
use Rattle.tree_arena.specs.inside.Arena.{open_taken}
use Rattle.tree_arena.proofs.BuildLemmas.{building_begins, building_some, building_few}
use Rattle.tree_arena.proofs.BuildLemmas.{building_within, building_on, building_ends}
use Rattle.tree_arena.proofs.BuildLemmas.{preorder-read, from_item, IsBuilding}
use Rattle.tree_arena.proofs.OrderLemmas.{order_starts, order_on, order_ends}
use Rattle.tree_arena.proofs.build.Build.of_list.Goals as goal

pub loop-node-init : goal.loop-node-init
loop-node-init c =
    let started = c.in_ok-build.ensures in
    record {
      opens = [];
      building = building_begins c.args.list.now c.in_ok-build.build.nodes.items
          c.in_ok-build.build.places.items [] c.in_ok-build.build.lent.items c.requires.some
          started.nodes_are started.places_are refl started.lent_are;
      order = order_starts c.in_ok-build.build.nodes.items c.in_ok-build.build.places.items
          c.in_ok-build.build.live.items c.in_ok-build.build.lent.items started.nodes_are
          started.places_are started.live_are started.lent_are;
    }

pub take-requires-clause-some : goal.take-requires-clause-some
take-requires-clause-some c =
    let list = c.args.list.now in
    let index = c.loop-node.node-index in
    let node = get_or list index (Split (Home 0) false) in
    let opens = c.loop-node.invariant.opens in
    building_some _ _ node (drop (index + 1) list) c.loop-node.build.nodes.items
    c.loop-node.build.places.items opens c.loop-node.build.lent.items
    (subst (λ (left : List TreeNode). IsBuilding (tree_or_leaf (tree_of list)) (length list) left
    c.loop-node.build.nodes.items c.loop-node.build.places.items opens
    c.loop-node.build.lent.items)
    (from_item list index node (Split (Home 0) false) c.loop-node-test.true refl)
    c.loop-node.invariant.building)

pub take-requires-clause-within : goal.take-requires-clause-within
take-requires-clause-within c = λ rest at popped.
    building_within _ _ _ c.loop-node.build.nodes.items c.loop-node.build.places.items
    c.loop-node.invariant.opens c.loop-node.build.lent.items rest at
    c.loop-node.invariant.building popped

pub take-requires-clause-few : goal.take-requires-clause-few
take-requires-clause-few c =
    let few = building_few _ _ _ c.loop-node.build.nodes.items c.loop-node.build.places.items
    c.loop-node.invariant.opens c.loop-node.build.lent.items c.loop-node.invariant.building in
    omega arith

pub loop-node-preserved : goal.loop-node-preserved
loop-node-preserved c =
    let taken = c.in_ok-take.ensures in
    let list = c.args.list.now in
    let index = c.loop-node.node-index in
    let node = get_or list index (Split (Home 0) false) in
    let opens = c.loop-node.invariant.opens in
    let from = from_item list index node (Split (Home 0) false) c.loop-node-test.true refl in
    record {
      opens = open_taken node taken.at opens;
      building = building_on _ _ node (drop index list) (drop (index + 1) list)
          c.loop-node.build.nodes.items c.take.new.self.nodes.items
          c.loop-node.build.places.items opens c.loop-node.build.lent.items taken.rest
          c.take.new.self.places.items c.take.new.self.lent.items taken.at from
          c.loop-node.invariant.building taken.popped taken.nodes_are taken.places_are
          taken.lent_are;
      order = order_on _ _ node (drop index list) (drop (index + 1) list)
          c.loop-node.build.nodes.items c.take.new.self.nodes.items
          c.loop-node.build.places.items c.loop-node.build.live.items opens
          c.loop-node.build.lent.items taken.rest c.take.new.self.places.items
          c.take.new.self.live.items c.take.new.self.lent.items taken.at from
          c.loop-node.invariant.building c.loop-node.invariant.order taken.popped
          taken.nodes_are taken.places_are taken.live_are taken.lent_are;
    }

pub returns : goal.returns
returns c =
    let nodes = c.loop-node.build.nodes.items in
    let places = c.loop-node.build.places.items in
    let live = c.loop-node.build.live.items in
    let lents = c.loop-node.build.lent.items in
    let opens = c.loop-node.invariant.opens in
    let end = building_ends _ _ _ nodes places opens lents c.loop-node.invariant.building
    (drop_all c.loop-node.node-index c.args.list.now c.loop-node-test.false) in
    let turned = c.turn_over.ensures.items
    ∙ ap (λ list. list ++ reverse live) c.in_ok-reserve.ensures.items in
    record {
      tree = ap preorder end.0 ∙ preorder-read c.args.list.now c.requires.some;
      opens = opens;
      arena = end.1;
      few = building_few _ _ _ nodes places opens lents c.loop-node.invariant.building;
      in_order = order_ends nodes places live opens lents c.turn_over.new.onto.items
          c.loop-node.invariant.order end.2 turned;
    }
