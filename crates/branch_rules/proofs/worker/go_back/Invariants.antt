-- The zone has the prefix that is to be left, and no less.
use Rattle.std.proofs.Common.{◌≡◌, ◌≤◌, length, take}
use Rattle.branch_rules.proofs.worker.go_back.Given as goal

abbrev pub invariant-loop-zone_box : goal.invariant-loop-zone_box
invariant-loop-zone_box l =
    (l.zone_box ≡ record l.initial.zone_box { zone = l.zone_box.zone })
    × (l.left ≤ length l.zone_box.zone)
    × (take l.left l.zone_box.zone ≡ take l.left l.initial.zone_box.zone)

abbrev pub decreases-loop-zone_box : goal.decreases-loop-zone_box
decreases-loop-zone_box l = length l.zone_box.zone
