use Rattle.std.proofs.Common.{take}
use Rattle.runners_up.specs.inside.JointEnds.{AreGroupEnds}
use Rattle.runners_up.proofs.any_end.any_ends.Given as goal

-- the groups so far have ends
abbrev pub invariant-loop-group : goal.invariant-loop-group
invariant-loop-group l =
    AreGroupEnds (take l.group l.cup.groups) (take l.group l.seasons) l.ends.items
