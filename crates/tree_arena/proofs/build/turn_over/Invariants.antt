use Rattle.std.proofs.Common.{◌≡◌, ◌+◌, ◌++◌, length, reverse}
use Rattle.tree_arena.proofs.build.turn_over.Given as goal

abbrev pub invariant-loop-from : goal.invariant-loop-from
invariant-loop-from l = record {
  items : l.onto.items ++ reverse l.from.items ≡ l.fn.onto.items ++ reverse l.fn.from.items;
  room : l.onto.room + length l.fn.from.items ≡ l.fn.onto.room + length l.from.items;
}

abbrev pub decreases-loop-from : goal.decreases-loop-from
decreases-loop-from l = length l.from.items
