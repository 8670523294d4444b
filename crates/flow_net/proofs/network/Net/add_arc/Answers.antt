use Rattle.std.proofs.Common.{◌≡◌, ◌<◌, sym, subst, [], ◌∷◌, ◌++◌, length, arith}
use Rattle.std.proofs.lemmas.List.{length_push}
use Rattle.flow_net.specs.declared.arcs.Arc.{Arc}
use Rattle.flow_net.specs.inside.NetView.{NetView}
use Rattle.flow_net.proofs.FillLemmas.{IsWholeFlow-add, IsWithinArcs-add}
use Rattle.flow_net.proofs.network.Net.add_arc.Goals as goal

pub invariant_of-self : goal.invariant_of-self
invariant_of-self c =
    let old = c.self.invariant in
    let arcs = c.self.inside.graph.arcs.items in
    let flow = c.self.inside.flow.items in
    let arc : Arc = record { from = c.args.from; to = c.args.to; capacity = c.args.capacity } in
    let items : c.push.new.self.items ≡ flow ++ 0 ∷ [] =
    rw c.unwrap.ensures at c.push.ensures.items in
    let room : length arcs < c.self.inside.room =
    subst (λ (n : NetView). length n.arcs < n.room) (sym c.self.view_is) c.requires.room in
    record {
      graph = c.add.ensures.graph;
      graph_room = c.add.ensures.room c.self.inside.room old.graph_room;
      flow_room = omega (arith, old.flow_room, c.push.ensures.capacity);
      fits = rw c.add.ensures.arcs (omega (arith, length_push arcs arc, room));
      few = old.few;
      within = rw (items, c.add.ensures.arcs) (IsWithinArcs-add arcs flow arc old.within);
      whole = λ ends held. rw (items, c.add.ensures.arcs)
          (IsWholeFlow-add arcs ends.source ends.sink flow arc (old.whole ends held));
    }
