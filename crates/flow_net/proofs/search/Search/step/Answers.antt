use Rattle.std.proofs.Common.{◌≡◌, false, ◌<◌, [], ◌∷◌, ◌++◌, length, get_or, sym, ap, ◌∙◌, arith}
use Rattle.std.proofs.lemmas.List.{get_or_read}
use Rattle.flow_net.specs.declared.arcs.Arc.{Arc}
use Rattle.flow_net.specs.declared.search.Reach.{Reach}
use Rattle.flow_net.specs.inside.Flow.{arc_at, no_arc}
use Rattle.flow_net.specs.inside.Cut.{marked}
use Rattle.flow_net.specs.inside.Direction.{head_of, room_of}
use Rattle.flow_net.specs.inside.Search.{IsOpen, no_reach, reached_at}
use Rattle.flow_net.proofs.ArcLemmas.{head_in_range}
use Rattle.flow_net.proofs.SearchLemmas.{IsSearch-reach, mark_count-le, mark_count-lt}
use Rattle.flow_net.proofs.search.Search.step.Goals as goal

-- the queue is no longer than there are nodes
pub overflow_cast-reach : goal.overflow_cast-reach
overflow_cast-reach c =
    omega (
      arith,
      mark_count-le c.args.self.now.reached.items,
      c.requires.search.counted,
      c.requires.sized.one_each,
      c.requires.graph.few_nodes,
    )

-- while a node is free the queue is shorter
pub unwrap-requires : goal.unwrap-requires
unwrap-requires c =
    let arcs = c.args.graph.now.arcs.items in
    let marks = c.args.self.now.reached.items in
    let over : c.index-over.result.now ≡ arc_at arcs c.args.arc =
    get_or_read arcs c.args.arc c.index-over.result.now c.requires.arc_in_range
    c.index-over.ensures no_arc in
    let in_range : c.head-node.result < length marks =
    omega (
      arith,
      head_in_range c.args.way (arc_at arcs c.args.arc)
          (c.requires.graph.ends c.args.arc c.requires.arc_in_range),
      c.requires.sized.one_each,
      c.head-node.ensures ∙ ap (head_of c.args.way) over,
    ) in
    let free : marked marks c.head-node.result ≡ false =
    sym (get_or_read marks c.head-node.result c.index.result.now in_range c.index.ensures false)
    ∙ c.if-index.false in
    c.push.ensures.succeeds (omega (
      arith,
      mark_count-lt marks c.head-node.result in_range free,
      c.requires.search.counted,
      c.requires.sized.one_each,
      c.requires.sized.room,
      c.args.self.now.queue.ok.0,
    ))

pub returns-clause-search : goal.returns-clause-search
returns-clause-search c =
    let arcs = c.args.graph.now.arcs.items in
    let flow = c.args.flow.now in
    let marks = c.args.self.now.reached.items in
    let queue = c.args.self.now.queue.items in
    let node = c.head-node.result in
    let over : c.index-over.result.now ≡ arc_at arcs c.args.arc =
    get_or_read arcs c.args.arc c.index-over.result.now c.requires.arc_in_range
    c.index-over.ensures no_arc in
    let ends : head_of c.args.way (arc_at arcs c.args.arc) ≡ node =
    sym (c.head-node.ensures ∙ ap (head_of c.args.way) over) in
    let in_range : node < length marks =
    omega (
      arith,
      head_in_range c.args.way (arc_at arcs c.args.arc)
          (c.requires.graph.ends c.args.arc c.requires.arc_in_range),
      c.requires.sized.one_each,
      ends,
    )
    in
    let free : marked marks node ≡ false =
    sym (get_or_read marks node c.index.result.now in_range c.index.ensures false)
    ∙ c.if-index.false in
    let from : c.index-2.result.now ≡ reached_at queue c.args.place =
    get_or_read queue c.args.place c.index-2.result.now c.requires.place_in_range
    c.index-2.ensures no_reach in
    let room : c.room-room.result ≡ room_of c.args.way (arc_at arcs c.args.arc)
    (get_or flow c.args.arc 0) = c.room-room.ensures
    ∙ ap (λ (a : Arc). room_of c.args.way a (get_or flow c.args.arc 0)) over in
    let from_room : c.index-2.result.now.room ≡ (reached_at queue c.args.place).room =
    ap (λ (r : Reach). r.room) from in
    let reach : Reach = record {
      node = node;
      before = c.args.place;
      arc = c.args.arc;
      way =
          c.args.way;
      room = c.min-room.result;
    } in
    let items : c.push.new.self.items ≡ queue ++ reach ∷ [] =
    rw c.unwrap.ensures at c.push.ensures.items in
    let step : IsOpen arcs flow c.args.way c.args.arc c.min-room.result
    (reached_at queue c.args.place).node node = record {
      in_range = c.requires.arc_in_range;
      begins = c.requires.begins;
      ends = ends;
      room = omega (arith, c.min-room.ensures, room);
    } in
    rw items
    (IsSearch-reach arcs flow marks queue reach c.requires.search free in_range
    c.requires.place_in_range step (omega (arith, c.min-room.ensures, from_room))
    (omega (
      arith,
      c.min-room.ensures,
      from_room,
      c.requires.search.wide c.args.place c.requires.place_in_range,
      c.if-room-eq0.false,
    )))
