use Rattle.std.proofs.Common.{◌≢◌, ℕ, ◌<◌, ◌≤◌, length, get_or}
use Rattle.tree_arena.proofs.arena.place_of.Given as goal

-- it does not stand from here on
abbrev pub invariant-loop-place : goal.invariant-loop-place
invariant-loop-place l = record {
  within : l.place ≤ length l.list;
  none : (k : ℕ) → l.place ≤ k → k < length l.list → get_or l.list k 0 ≢ l.leaf;
}

abbrev pub decreases-loop-place : goal.decreases-loop-place
decreases-loop-place l = l.place
