use Rattle.std.proofs.Common.{◌≡◌, ◌+◌, ◌-◌, ◌*◌, ◌≤◌, ◌<◌, ℕ, length, get_or, take, subst, arith}
use Rattle.std.proofs.Math.Nat.{mul-le-mul_right}
use Rattle.flow_net.specs.inside.Flow.{carried}
use Rattle.flow_net.specs.inside.Lists.{IsNewest}
use Rattle.flow_net.specs.inside.Graph.{begins_at}
use Rattle.flow_net.proofs.ListsLemmas.{IsNewest-up_to}
use Rattle.flow_net.proofs.CarriedLemmas.{carried_le, carried_next, carried_newest}
use Rattle.flow_net.proofs.CarriedLemmas.{le-carried_newest}
use Rattle.flow_net.proofs.graph.Graph.carried.Goals as goal

pub loop-name-init : goal.loop-name-init
loop-name-init c = record {
  named = c.first-name.ensures.among;
  newest = IsNewest-up_to c.args.way c.args.self.now.arcs.items c.args.node
      (length c.args.self.now.arcs.items) c.first-name.result c.first-name.ensures;
  whole = omega (
    arith,
    carried_newest c.args.way c.args.self.now.arcs.items c.args.flow.now
        c.args.node c.first-name.result c.requires.one_each c.first-name.ensures,
  );
}

pub overflow_add-total : goal.overflow_add-total
overflow_add-total c =
    let arcs = c.args.self.now.arcs.items in
    let flow = c.args.flow.now in
    let node = c.args.node in
    let place = c.loop-name.name - 1 in
    let named : place + 1 ≡ c.loop-name.name = omega arith in
    let here = le-carried_newest c.args.way arcs flow node place
    (omega (arith, c.loop-name.invariant.named)) c.requires.one_each
    (c.loop-name.invariant.newest.at_node place named) in
    let here' = subst (λ (n : ℕ). get_or flow place 0 ≤ carried (begins_at c.args.way node)
    (take n arcs) (take n flow)) named here in
    let all = carried_le (begins_at c.args.way node) 4294967295 arcs flow
    (λ at. omega (arith, c.type_inv.flow at)) in
    let few : length arcs * 4294967295 ≤ 4294967295 * 4294967295 =
    mul-le-mul_right 4294967295 c.requires.graph.few in
    omega (arith, here', all, few, c.loop-name.invariant.whole)

pub loop-name-preserved : goal.loop-name-preserved
loop-name-preserved c =
    let arcs = c.args.self.now.arcs.items in
    let flow = c.args.flow.now in
    let node = c.args.node in
    let place = c.loop-name.name - 1 in
    let named : place + 1 ≡ c.loop-name.name = omega arith in
    let below : place < length arcs = omega (arith, c.loop-name.invariant.named) in
    let at_node = c.loop-name.invariant.newest.at_node place named in
    let newest = subst (λ (n : ℕ). IsNewest c.args.way arcs n place c.next-name.result) at_node
    c.next-name.ensures in
    let step = carried_next c.args.way arcs flow node place c.next-name.result below
    c.requires.one_each at_node newest in
    let step' = subst (λ (n : ℕ). carried (begins_at c.args.way node) (take n arcs) (take n flow)
    ≡ carried (begins_at c.args.way node) (take c.next-name.result arcs)
    (take c.next-name.result flow) + get_or flow place 0) named step in
    record {
      named = omega (arith, c.next-name.ensures.among);
      newest = IsNewest-up_to c.args.way arcs node place c.next-name.result newest;
      whole = omega (arith, step', c.loop-name.invariant.whole);
    }
