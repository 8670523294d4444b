use Rattle.std.proofs.Common.{◌≡◌, length}
use Rattle.branch_pool.proofs.AdoptAllLemmas.{AreLeft}
use Rattle.branch_pool.proofs.adopt.adopt_by.Given as goal

-- with the trees that are left the questions become what they were to become with all, and the box
-- stands at the root
abbrev pub invariant-loop-tree : goal.invariant-loop-tree
invariant-loop-tree l = record {
  left : AreLeft l.fn.zone_box.sheet l.fn.zone_box.season l.fn.seats.items l.fn.trees.items
      l.seats.items l.trees.items;
  same : l.zone_box ≡ l.fn.zone_box;
}

abbrev pub decreases-loop-tree : goal.decreases-loop-tree
decreases-loop-tree l = length l.trees.items
