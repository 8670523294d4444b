-- The literals so far are at the end of the zone.
use Rattle.std.proofs.Common.{◌≡◌, ◌++◌, take}
use Rattle.branch_rules.proofs.worker.go_on.Given as goal

abbrev pub invariant-loop-literal : goal.invariant-loop-literal
invariant-loop-literal l =
    l.zone_box ≡ record l.initial.zone_box {
      zone = l.initial.zone_box.zone ++ take l.literal-index l.literals;
    }
