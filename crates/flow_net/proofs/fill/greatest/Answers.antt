use Rattle.std.proofs.Common.{◌-◌, ◌∙◌, ℕ, List, sym, subst, arith}
use Rattle.flow_net.specs.inside.Flow.{IsFlow, IsWholeFlow}
use Rattle.flow_net.proofs.DualityLemmas.{IsFlow-from_whole, IsLeastCut-from_search, sent_closed}
use Rattle.flow_net.proofs.FillLemmas.{IsWholeFlow-start_of}
use Rattle.flow_net.proofs.fill.greatest.Goals as goal

pub fill-requires-clause-whole : goal.fill-requires-clause-whole
fill-requires-clause-whole c =
    subst (λ (flow : List ℕ). IsWholeFlow c.args.graph.now.arcs.items c.args.source c.args.sink
    flow)
    (sym c.restart.ensures)
    (IsWholeFlow-start_of c.args.graph.now.arcs.items c.args.held c.args.flow.now c.args.source
    c.args.sink c.requires.one_each c.requires.held)

pub overflow_sub-result : goal.overflow_sub-result
overflow_sub-result c =
    omega (
      arith,
      sent_closed c.args.graph.now.arcs.items c.args.source c.args.sink c.fill.new.flow
          c.fill.ensures.whole c.fill.new.search.reached.items c.fill.ensures.closed,
      c.carried.ensures,
      c.carried-2.ensures,
    )

pub returns-clause-flow : goal.returns-clause-flow
returns-clause-flow c =
    IsFlow-from_whole c.args.graph.now.arcs.items c.args.source c.args.sink c.fill.new.flow
    c.fill.ensures.whole (c.carried.result - c.carried-2.result) c.requires.apart
    (omega (
      arith,
      sent_closed c.args.graph.now.arcs.items c.args.source c.args.sink c.fill.new.flow
          c.fill.ensures.whole c.fill.new.search.reached.items c.fill.ensures.closed,
      c.carried.ensures,
      c.carried-2.ensures,
    ))

pub returns-clause-cut : goal.returns-clause-cut
returns-clause-cut c =
    let arcs = c.args.graph.now.arcs.items in
    let value = c.carried.result - c.carried-2.result in
    let sent = sent_closed arcs c.args.source c.args.sink c.fill.new.flow c.fill.ensures.whole
    c.fill.new.search.reached.items c.fill.ensures.closed in
    let flow = IsFlow-from_whole arcs c.args.source c.args.sink c.fill.new.flow c.fill.ensures.whole
    value c.requires.apart (omega (arith, sent, c.carried.ensures, c.carried-2.ensures)) in
    IsLeastCut-from_search arcs c.args.source c.args.sink c.fill.new.flow value
    c.fill.new.search.reached.items c.fill.new.search.queue.items flow c.fill.ensures.search
    c.fill.ensures.source c.fill.ensures.closed

-- of a flow of this value nothing more was sent
pub returns-clause-goes_on : goal.returns-clause-goes_on
returns-clause-goes_on c = λ is_flow.
    let arcs = c.args.graph.now.arcs.items in
    let source = c.args.source in
    let sent = sent_closed arcs source c.args.sink c.fill.new.flow c.fill.ensures.whole
    c.fill.new.search.reached.items c.fill.ensures.closed in
    let is_flow' = subst (λ (flow : List ℕ). IsFlow arcs source c.args.sink flow
    (c.carried.result - c.carried-2.result)) (sym c.restart.ensures) is_flow in
    c.fill.ensures.goes_on (omega (
      arith,
      sent,
      is_flow'.sent,
      c.carried.ensures,
      c.carried-2.ensures,
    )) ∙ c.restart.ensures
