use Rattle.std.proofs.Common.{◌≡◌, ◌≢◌, ◌≤◌, ◌<◌, ◌-◌, ℕ, length, get_or, set, sym, ap, ◌∙◌, subst}
use Rattle.std.proofs.Common.{arith, get_or-set_other}
use Rattle.std.proofs.lemmas.List.{get_or_read}
use Rattle.flow_net.specs.declared.search.Reach.{Reach}
use Rattle.flow_net.specs.inside.Flow.{arc_at}
use Rattle.flow_net.specs.inside.Direction.{head_of, room_of, sent_over}
use Rattle.flow_net.specs.inside.Moves.{IsMoved}
use Rattle.flow_net.specs.inside.Search.{IsOpen, no_reach, reached_at}
use Rattle.flow_net.proofs.MovesLemmas.{IsMoved-step, IsMoved-trans, IsWithinArcs-step}
use Rattle.flow_net.proofs.search.Search.send.Goals as goal

pub loop-place-preserved : goal.loop-place-preserved
loop-place-preserved c =
    let arcs = c.args.graph.now.arcs.items in
    let start = c.args.flow.now in
    let flow = c.loop-place.flow in
    let queue = c.args.self.now.queue.items in
    let place = c.loop-place.place in
    let amount = c.index.result.now.room in
    let to = (reached_at queue (length queue - 1)).node in
    let entry = c.index-reach.result.now in
    let at : entry ≡ reached_at queue place =
    get_or_read queue place entry c.loop-place.invariant.in_range c.index-reach.ensures no_reach
    in
    let was = c.requires.search.reached place c.loop-place-test.true c.loop-place.invariant.in_range
    in
    let Reached : Reach → Type 0 = λ e. (e.before < place)
    × IsOpen arcs start e.way e.arc e.room (reached_at queue e.before).node e.node
    × (e.room ≤ (reached_at queue e.before).room) in
    let reached : Reached entry = subst Reached (sym at) (was.earlier, was.step, was.narrows) in
    let step = reached.1 in
    let enough : amount ≤ entry.room =
    subst (λ (e : Reach). amount ≤ e.room) (sym at) c.loop-place.invariant.room in
    let same : get_or flow entry.arc 0 ≡ get_or start entry.arc 0 =
    subst (λ (e : Reach). get_or flow e.arc 0 ≡ get_or start e.arc 0) (sym at)
    (c.loop-place.invariant.untouched place c.loop-place-test.true (omega arith)) in
    let room : amount ≤ room_of entry.way (arc_at arcs entry.arc) (get_or flow entry.arc 0) =
    rw same (omega (arith, enough, step.room)) in
    let moved = IsMoved-step entry.way arcs flow entry.arc amount step.in_range
    c.loop-place.invariant.within.one_each room in
    let sent = set flow entry.arc (sent_over entry.way (get_or flow entry.arc 0) amount) in
    let moved' = subst (λ (n : ℕ). IsMoved arcs flow sent
    (reached_at queue entry.before).node n amount) (step.ends ∙ ap (λ (e : Reach). e.node) at)
    (subst (λ (n : ℕ). IsMoved arcs flow sent n
    (head_of entry.way (arc_at arcs entry.arc)) amount) step.begins moved) in
    rw c.sent.ensures
    record {
      in_range = omega (arith, reached.0, c.loop-place.invariant.in_range);
      within = IsWithinArcs-step entry.way arcs flow entry.arc amount step.in_range room
          c.loop-place.invariant.within;
      moved = IsMoved-trans arcs start flow sent (reached_at queue entry.before).node
          (reached_at queue place).node to amount c.loop-place.invariant.moved moved';
      untouched = λ older above up_to.
          let apart : (reached_at queue older).arc ≢ entry.arc =
          subst (λ (e : Reach). (reached_at queue older).arc ≢ e.arc) (sym at)
          (c.requires.search.apart older place above
          (omega (arith, reached.0)) c.loop-place.invariant.in_range) in
          get_or-set_other flow entry.arc (reached_at queue older).arc
          (sent_over entry.way (get_or flow entry.arc 0) amount) 0 apart
          ∙ c.loop-place.invariant.untouched older above (omega (arith, reached.0));
      room = omega (arith, enough, reached.2);
      some = c.loop-place.invariant.some;
    }
