use Rattle.std.proofs.Common.{◌-◌, ℕ, ap, subst, arith}
use Rattle.std.proofs.lemmas.List.{get_or_read}
use Rattle.flow_net.specs.declared.search.Reach.{Reach}
use Rattle.flow_net.specs.inside.Lists.{IsNewest}
use Rattle.flow_net.specs.inside.Search.{no_reach, reached_at}
use Rattle.flow_net.proofs.ListsLemmas.{IsNewest-up_to}
use Rattle.flow_net.proofs.SearchLemmas.{marked-lt}
use Rattle.flow_net.proofs.GrownLemmas.{IsGrown-trans, IsScanned-grown, IsScanned-next}
use Rattle.flow_net.proofs.search.Search.scan.Goals as goal

pub first-name-requires-clause-node_in_range : goal.first-name-requires-clause-node_in_range
first-name-requires-clause-node_in_range c =
    let queue = c.args.self.now.queue.items in
    let from = get_or_read queue c.args.place c.index.result.now c.requires.place_in_range
    c.index.ensures no_reach in
    omega (
      arith,
      marked-lt c.args.self.now.reached.items (reached_at queue c.args.place).node
          (c.requires.search.all_marked c.args.place c.requires.place_in_range),
      ap (λ (r : Reach). r.node) from,
      c.requires.sized.one_each,
    )

pub loop-name-preserved : goal.loop-name-preserved
loop-name-preserved c =
    let arcs = c.args.graph.now.arcs.items in
    let flow = c.args.flow.now in
    let way = c.args.way in
    let old = c.loop-name.self in
    let new = c.step.new.self in
    let node = (reached_at c.args.self.now.queue.items c.args.place).node in
    let place = c.loop-name.name - 1 in
    let at_node = c.loop-name.invariant.newest.at_node place (omega arith) in
    let newest = subst (λ (n : ℕ). IsNewest way arcs n place c.next-name.result) at_node
    c.next-name.ensures in
    record {
      search = c.step.ensures.search;
      grown = IsGrown-trans c.args.self.now old new c.loop-name.invariant.grown
          c.step.ensures.grown;
      named = omega (arith, c.next-name.ensures.among, c.loop-name.invariant.named);
      newest = IsNewest-up_to way arcs node place c.next-name.result newest;
      scanned = IsScanned-next arcs flow way new.reached.items node c.loop-name.name
          c.next-name.result c.loop-name-test.true newest
          (IsScanned-grown arcs flow way old new node c.loop-name.name c.step.ensures.grown
          c.loop-name.invariant.scanned) c.step.ensures.reached;
      missed = c.if-step.ensures.missed c.loop-name.invariant.missed;
    }
