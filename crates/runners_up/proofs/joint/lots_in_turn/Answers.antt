use Rattle.std.proofs.Common.{◌∙◌, length, ap, arith}
use Rattle.tree_arena.specs.declared.example.Example.{Example}
use Rattle.runners_up.proofs.JointCodeLemmas.{lots_so_far, lots_room, lots_step}
use Rattle.runners_up.proofs.joint.lots_in_turn.Goals as goal

pub push_lots-requires-clause-few : goal.push_lots-requires-clause-few
push_lots-requires-clause-few c =
    omega (
      arith,
      c.requires.few,
      ap length c.loop-end.invariant,
      lots_so_far c.args.ends.now c.loop-end.end-index,
    )

pub push_lots-requires-clause-room : goal.push_lots-requires-clause-room
push_lots-requires-clause-room c =
    lots_room c.args.ends.now c.loop-end.end-index c.end-item.result c.loop-end.order.items
    c.order.result.now c.loop-end-test.true c.loop-end.invariant
    (c.order.ensures.order ∙ ap (λ (it : Example). it.lots) c.end-item.is) c.order.ensures.named
    c.requires.few

pub loop-end-preserved : goal.loop-end-preserved
loop-end-preserved c =
    lots_step c.args.ends.now c.loop-end.end-index c.end-item.result c.loop-end.order.items
    c.order.result.now c.push_lots.new.order.items c.loop-end-test.true c.loop-end.invariant
    (c.order.ensures.order ∙ ap (λ (it : Example). it.lots) c.end-item.is)
    c.in_ok-push_lots.ensures
