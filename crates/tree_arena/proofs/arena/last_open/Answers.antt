use Rattle.std.proofs.Common.{arith}
use Rattle.tree_arena.proofs.ArenaLemmas.{any_node}
use Rattle.tree_arena.proofs.FindLemmas.{none_among}
use Rattle.tree_arena.proofs.arena.last_open.Goals as goal

pub unreachable-requires : goal.unreachable-requires
unreachable-requires c =
    let none = none_among c.args.nodes.now c.args.list.now
    (λ k within. c.loop-place.invariant.none k any_node (omega arith) within) in
    let some = c.requires.some in
    omega arith
