use Rattle.std.proofs.Common.{◌≡◌, ℕ, List, reverse, get_or, sym, ap, ◌∙◌, subst}
use Rattle.league_core.specs.declared.zone.Literal.{Literal}
use Rattle.league_core.specs.search.Trees.{Tree}
use Rattle.league_core.specs.inside.Lending.{times_lent}
use Rattle.tree_arena.specs.declared.node.Node.{Node}
use Rattle.tree_arena.specs.inside.Arena.{IsLeafAt, IsPathTo}
use Rattle.tree_arena.specs.inside.LastPaths.{LeadsToNode}
use Rattle.tree_arena.proofs.LastPathLemmas.{kept_way_is}
use Rattle.tree_arena.proofs.RoomLemmas.{marked_once}
use Rattle.tree_arena.proofs.tree.Tree.zone.Goals as goal

pub find-place-requires-clause-once : goal.find-place-requires-clause-once
find-place-requires-clause-once c =
    marked_once c.args.number c.args.self.now c.self.inside.nodes c.self.inside.live
    c.self.inside.lent c.as_slice.result.now c.self.invariant.roomy c.self.view_is c.requires
    c.as_slice.ensures

pub returns-clause-zone_box : goal.returns-clause-zone_box
returns-clause-zone_box c =
    let nodes = c.self.inside.nodes.items in
    let lents = c.self.inside.lent.items in
    let place = c.find-place.result in
    let number = c.args.number in
    let at = subst (λ (ls : List ℕ). IsLeafAt number nodes ls place (get_or ls place 0))
    c.as_slice-2.ensures
    (subst (λ (ns : List Node). IsLeafAt number ns c.as_slice-2.result.now place
    (get_or c.as_slice-2.result.now place 0)) c.as_slice.ensures c.find-place.ensures) in
    let there : c.move_to.new.last ≡ get_or lents place 0 =
    c.in_ok-move_to.ensures.there ∙ ap (λ ls. get_or ls place 0) c.as_slice-3.ensures in
    let leads = subst (λ (k : ℕ). LeadsToNode nodes (reverse c.move_to.new.zone_box) k) there
    (subst (λ (ns : List Node). LeadsToNode ns (reverse c.move_to.new.zone_box) c.move_to.new.last)
    c.as_slice-4.ensures c.in_ok-move_to.ensures.leads) in
    let zone_box = kept_way_is number nodes lents place (get_or lents place 0)
    c.move_to.new.zone_box at
    c.self.invariant.roomy.arena.linked (ap (times_lent number) c.self.view_is ∙ c.requires)
    leads in
    subst (λ (literals : List Literal). IsPathTo number c.args.self.now literals)
    (sym c.in_ok-literals.ensures)
    (subst (λ (tree : Tree). IsPathTo number tree c.move_to.new.zone_box) c.self.view_is zone_box)
