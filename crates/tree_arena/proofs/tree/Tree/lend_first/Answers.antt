use Rattle.std.proofs.Common.{◌≡◌, ◌<◌, ◌+◌, ◌∷◌, ◌++◌, [], List, ℕ, length, reverse, get_or, set}
use Rattle.std.proofs.Common.{ap, ◌∙◌, subst, length-append}
use Rattle.std.proofs.lemmas.List.{length-set}
use Rattle.league_core.specs.inside.Lending.{times_lent}
use Rattle.tree_arena.specs.declared.node.Kind.TheVariants.{Lent}
use Rattle.tree_arena.specs.declared.node.Node.{Node}
use Rattle.tree_arena.specs.inside.Arena.{IsLastOpen, with_kind}
use Rattle.tree_arena.proofs.ArenaLemmas.{any_node}
use Rattle.tree_arena.proofs.LendLemmas.{LendsFirst, lends_first, live_within}
use Rattle.tree_arena.proofs.RoomLemmas.{in_order, some_open, lends_room}
use Rattle.tree_arena.proofs.KeptRoomLemmas.{leads_lent}
use Rattle.tree_arena.proofs.tree.Tree.lend_first.Goals as goal

pub last_open-place-requires-clause-within : goal.last_open-place-requires-clause-within
last_open-place-requires-clause-within c = λ place inside.
    let nodes_same = c.as_slice.ensures ∙ c.in_ok-reserve-2.ensures.items in
    let live_same = c.as_slice-2.ensures ∙ c.in_ok-reserve-3.ensures.items in
    rw (nodes_same, live_same)
    (live_within c.self.inside.nodes.items c.self.inside.live.items place
    c.self.invariant.roomy.order
    (subst (λ (ls : List ℕ). place < length ls) live_same inside))

pub last_open-place-requires-clause-some : goal.last_open-place-requires-clause-some
last_open-place-requires-clause-some c =
    let nodes_same = c.as_slice.ensures ∙ c.in_ok-reserve-2.ensures.items in
    let live_same = c.as_slice-2.ensures ∙ c.in_ok-reserve-3.ensures.items in
    rw (nodes_same, live_same)
    (some_open c.self.inside.nodes c.self.inside.live c.self.inside.lent c.args.self.now
    c.self.invariant.roomy c.self.view_is c.requires.some)

-- the place that was found, by the lists as they were
last_same : (nodes others : List Node) (live list : List ℕ) (place : ℕ) → nodes ≡ others
    → live ≡ list → IsLastOpen nodes live place → IsLastOpen others list place
last_same nodes others live list place same same_live last =
    subst (λ (ns : List Node). IsLastOpen ns list place) same
    (subst (λ (ls : List ℕ). IsLastOpen nodes ls place) same_live last)

pub write-requires : goal.write-requires
write-requires c =
    let live_same = c.as_slice-3.ensures ∙ c.in_ok-reserve-3.ensures.items in
    rw (live_same, c.in_ok-reserve-2.ensures.items)
    (live_within c.self.inside.nodes.items c.self.inside.live.items c.last_open-place.result
    c.self.invariant.roomy.order
    (last_same _ _ _ _ _ (c.as_slice.ensures ∙ c.in_ok-reserve-2.ensures.items)
    (c.as_slice-2.ensures ∙ c.in_ok-reserve-3.ensures.items) c.last_open-place.ensures).in_list)

last_is : (c : goal.After-push)
    → IsLastOpen c.self.inside.nodes.items c.self.inside.live.items c.last_open-place.result
last_is c =
    last_same _ _ _ _ _ (c.as_slice.ensures ∙ c.in_ok-reserve-2.ensures.items)
    (c.as_slice-2.ensures ∙ c.in_ok-reserve-3.ensures.items) c.last_open-place.ensures

done_is : (c : goal.After-push) → c.write.new.nodes.items
    ≡ set c.self.inside.nodes.items (get_or c.self.inside.live.items c.last_open-place.result 0)
    (with_kind (Lent c.args.number) (get_or c.self.inside.nodes.items
    (get_or c.self.inside.live.items c.last_open-place.result 0) any_node))
done_is c =
    let place = c.last_open-place.result in
    let kind = Lent c.args.number in
    let live_same = c.as_slice-3.ensures ∙ c.in_ok-reserve-3.ensures.items in
    c.write.ensures.items any_node
    ∙ ap (λ (ns : List Node). set ns (get_or c.as_slice-3.result.now place 0)
    (with_kind kind (get_or ns (get_or c.as_slice-3.result.now place 0) any_node)))
    c.in_ok-reserve-2.ensures.items
    ∙ ap (λ (ls : List ℕ). set c.self.inside.nodes.items (get_or ls place 0)
    (with_kind kind (get_or c.self.inside.nodes.items (get_or ls place 0) any_node))) live_same

lents_are : (c : goal.After-push) → c.push.new.self.items
    ≡ c.self.inside.lent.items
    ++ get_or c.self.inside.live.items c.last_open-place.result 0 ∷ []
lents_are c =
    let place = c.last_open-place.result in
    let live_same = c.as_slice-3.ensures ∙ c.in_ok-reserve-3.ensures.items in
    c.push.ensures.items
    ∙ ap (λ (ls : List ℕ). ls ++ get_or c.as_slice-3.result.now place 0 ∷ [])
    c.in_ok-reserve.ensures.items
    ∙ ap (λ (ls : List ℕ). c.self.inside.lent.items ++ get_or ls place 0 ∷ []) live_same

step : (c : goal.After-push) → LendsFirst c.args.number c.self.inside.nodes.items
    c.write.new.nodes.items c.self.inside.live.items c.push.new.self.items
step c =
    rw (done_is c, lents_are c)
    (lends_first c.args.number c.self.inside.nodes.items c.self.inside.live.items
    c.self.invariant.roomy.opens c.self.inside.lent.items c.last_open-place.result
    (in_order c.self.inside.nodes c.self.inside.live c.self.inside.lent c.self.invariant.roomy)
    (last_is c) (ap (times_lent c.args.number) c.self.view_is ∙ c.requires.free))

pub invariant_of-self-2 : goal.invariant_of-self-2
invariant_of-self-2 c =
    let nodes = c.self.inside.nodes.items in
    let leaf = get_or c.self.inside.live.items c.last_open-place.result 0 in
    let written = with_kind (Lent c.args.number) (get_or nodes leaf any_node) in
    let lends = step c in
    let last = last_is c in
    record {
      roomy = lends_room c.args.self.now c.self.inside.nodes c.reserve-2.new.self c.write.new.nodes
          c.self.inside.live c.reserve-3.new.self c.self.inside.lent c.push.new.self
          (c.len-many.result + 1) c.self.invariant.roomy c.self.view_is c.requires.few lends.opens
          lends.arena lends.order c.in_ok-reserve-3.ensures.items
          (ap length (done_is c) ∙ length-set nodes leaf written)
          (ap length (lents_are c) ∙ length-append c.self.inside.lent.items (leaf ∷ []))
          (ap (λ n. n + 1) c.len-many.ensures) c.in_ok-reserve-2.ensures.ok
          c.in_ok-reserve-3.ensures.ok c.write.ensures.room;
      leads = leads_lent c.self.inside.nodes c.write.new.nodes leaf (Lent c.args.number)
          (reverse c.self.inside.zone_box) c.self.inside.last
          (live_within nodes c.self.inside.live.items c.last_open-place.result
          c.self.invariant.roomy.order last.in_list) (last.kind any_node) (done_is c)
          c.self.invariant.leads;
    }

pub returns-clause-ok : goal.returns-clause-ok
returns-clause-ok c = (step c).back ∙ c.self.view_is

pub returns-clause-once : goal.returns-clause-once
returns-clause-once c = (step c).once

pub returns-clause-first : goal.returns-clause-first
returns-clause-first c = (step c).first
