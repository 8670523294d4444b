use Rattle.std.proofs.Common.{◌≡◌, ◌-◌, [], length, drop, map, reverse}
use Rattle.league_core.specs.game.ClubSets.{clubs_in}
use Rattle.pool_save.specs.SavedReadings.{item_begun}
use Rattle.pool_save.proofs.so_far.SavedSoFar.begin_item.Given as goal

-- what is left of the questions decides, and no tree is being read
abbrev pub invariant-loop-alloc : goal.invariant-loop-alloc
invariant-loop-alloc l = record {
  same : item_begun l.sheet (drop (length l.self-inside.trees.items) l.asked)
      l.self-inside.trees.items l.fields
      ≡ item_begun l.sheet (drop (length l.fn.self.trees) l.asked) l.fn.self.trees l.fields;
  none : reverse (map clubs_in l.self-inside.due.items) ≡ [];
  nodes : l.self-inside.nodes.items ≡ [];
}

abbrev pub decreases-loop-alloc : goal.decreases-loop-alloc
decreases-loop-alloc l = length l.asked - length l.self-inside.trees.items
