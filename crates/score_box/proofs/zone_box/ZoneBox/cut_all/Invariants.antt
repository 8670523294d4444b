use Rattle.std.proofs.Common.{◌≡◌, ◌++◌, take}
use Rattle.score_box.proofs.zone_box.ZoneBox.cut_all.Given as goal

-- the literals so far stand at the end of the zone
abbrev pub invariant-loop-literal : goal.invariant-loop-literal
invariant-loop-literal l =
    l.self ≡ record l.initial.self { zone = l.initial.self.zone ++ take l.literal-index l.literals }
