use Rattle.std.proofs.Common.{◌∙◌, ◌++◌, ◌∷◌, [], ap, reverse}
use Rattle.league_core.specs.search.Trees.{preorder}
use Rattle.tree_arena.specs.inside.Arena.{tree_below}
use Rattle.tree_arena.specs.inside.Steps.{from_next}
use Rattle.tree_arena.proofs.ArenaLemmas.{any_node}
use Rattle.tree_arena.proofs.VisitLemmas.{lists_next, lists_on, lists_less, room_for}
use Rattle.tree_arena.proofs.list.list_nodes.Goals as goal

pub next_node-requires : goal.next_node-requires
next_node-requires c =
    let nodes = c.args.nodes.now in
    let here = lists_next nodes c.loop-next.next c.in-Some.at (reverse c.loop-next.stack.items)
    c.loop-next.found.items (preorder (tree_below nodes 0)) c.loop-next.invariant c.in-Some.is in
    room_for nodes c.in-Some.at any_node c.requires.within here.are.0 c.requires.few

pub loop-next-smaller : goal.loop-next-smaller
loop-next-smaller c =
    let nodes = c.args.nodes.now in
    let waiting = reverse c.loop-next.stack.items in
    let wanted = preorder (tree_below nodes 0) in
    let here = lists_next nodes c.loop-next.next c.in-Some.at waiting c.loop-next.found.items
    wanted c.loop-next.invariant c.in-Some.is in
    rw c.in-Some.is (lists_less nodes waiting
    (from_next c.in_ok-next.next (reverse c.next_node.new.stack.items)) c.in-Some.at any_node
    c.loop-next.found.items wanted c.requires.within here c.in_ok-next.ensures)

pub loop-next-preserved : goal.loop-next-preserved
loop-next-preserved c =
    let nodes = c.args.nodes.now in
    let waiting = reverse c.loop-next.stack.items in
    let wanted = preorder (tree_below nodes 0) in
    let here = lists_next nodes c.loop-next.next c.in-Some.at waiting c.loop-next.found.items
    wanted c.loop-next.invariant c.in-Some.is in
    lists_on nodes waiting (from_next c.in_ok-next.next (reverse c.next_node.new.stack.items))
    c.in-Some.at any_node c.loop-next.found.items c.push.new.self.items wanted
    c.requires.within here c.in_ok-next.ensures
    (c.in_ok-push.ensures.items
    ∙ ap (λ node. c.loop-next.found.items ++ node ∷ []) c.listed.ensures)
