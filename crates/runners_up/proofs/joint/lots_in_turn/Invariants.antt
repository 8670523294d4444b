use Rattle.std.proofs.Common.{◌≡◌, take}
use Rattle.runners_up.specs.inside.JointEnds.{lots_from}
use Rattle.runners_up.proofs.joint.lots_in_turn.Given as goal

-- the lots of the groups so far
abbrev pub invariant-loop-end : goal.invariant-loop-end
invariant-loop-end l = l.order.items ≡ lots_from 0 (take l.end-index l.ends)
