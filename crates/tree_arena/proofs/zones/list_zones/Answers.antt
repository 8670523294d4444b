use Rattle.std.proofs.Common.{◌+◌, drop, get_or, refl, false, arith}
use Rattle.league_core.specs.declared.tree.TreeNode.TheVariants.{Split}
use Rattle.league_core.specs.declared.zone.Test.TheVariants.{Home}
use Rattle.tree_arena.specs.inside.Calls.{literals_of}
use Rattle.tree_arena.proofs.BuildLemmas.{from_item}
use Rattle.tree_arena.proofs.ZoneLemmas.{zones_some, zones_on}
use Rattle.tree_arena.proofs.zones.list_zones.Goals as goal

pub unreachable-requires : goal.unreachable-requires
unreachable-requires c =
    let list = c.args.list.now in
    let index = c.loop-node.node-index in
    let node = get_or list index (Split (Home 0) false) in
    let some = zones_some c.loop-node.zone_box (drop index list) (drop (index + 1) list) node
    c.loop-node.steps.items (literals_of c.loop-node.found.items) _ c.loop-node.invariant
    (from_item list index node (Split (Home 0) false) c.loop-node-test.true refl) in
    let none = c.in_default.ensures.cases.0 in
    let size = c.loop-node.steps.ok.0 in
    omega arith

pub loop-node-preserved : goal.loop-node-preserved
loop-node-preserved c =
    let list = c.args.list.now in
    let index = c.loop-node.node-index in
    let node = get_or list index (Split (Home 0) false) in
    zones_on c.loop-node.zone_box c.go_to.new.zone_box (drop index list) (drop (index + 1) list)
    node
    c.loop-node.steps.items c.pop.new.self.items c.take_node.new.steps.items c.in-Some.step
    (literals_of c.loop-node.found.items) (literals_of c.take_node.new.found.items) _
    c.loop-node.invariant
    (from_item list index node (Split (Home 0) false) c.loop-node-test.true refl)
    c.in-Some.ensures.items c.in_ok-go_to.ensures c.in_ok-take_node.ensures.steps
    c.in_ok-take_node.ensures.found
