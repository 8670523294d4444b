use Rattle.std.proofs.Common.{◌≡◌, map, take}
use Rattle.branch_pool.specs.inside.QuestionStates.{tree_for}
use Rattle.branch_pool.proofs.questions.trees_by.Given as goal

-- one tree for each seat so far, and the box stands at the root
abbrev pub invariant-loop-seat : goal.invariant-loop-seat
invariant-loop-seat l = record {
  trees : l.trees.items
      ≡ map (tree_for l.fn.zone_box.sheet l.fn.zone_box.season) (take l.seat-index l.seats);
  same : l.zone_box ≡ l.fn.zone_box;
}
