-- The box has the prefix that is to be left, and no less.
use Rattle.std.proofs.Common.{◌≡◌, ◌≤◌, length, take}
use Rattle.tree_reuse.proofs.box_moves.back_to.Given as goal

abbrev pub invariant-loop-zone_box : goal.invariant-loop-zone_box
invariant-loop-zone_box l =
    (l.zone_box ≡ record l.initial.zone_box { zone = l.zone_box.zone })
    × (l.depth ≤ length l.zone_box.zone)
    × (take l.depth l.zone_box.zone ≡ take l.depth l.initial.zone_box.zone)

abbrev pub decreases-loop-zone_box : goal.decreases-loop-zone_box
decreases-loop-zone_box l = length l.zone_box.zone
