use Rattle.std.proofs.Common.{arith}
use Rattle.tree_arena.proofs.MarkLemmas.{stands_at}
use Rattle.tree_arena.proofs.arena.place_of.Goals as goal

pub unreachable-requires : goal.unreachable-requires
unreachable-requires c =
    let stands = stands_at c.args.leaf c.args.list.now c.requires.some in
    c.loop-place.invariant.none stands.place (omega arith) stands.in_list stands.is
