use Rattle.std.proofs.Common.{◌+◌}
use Rattle.tree_arena.specs.inside.LastPaths.{AreClimbing}
use Rattle.tree_arena.proofs.last_path.meet.Given as goal

abbrev pub invariant-loop-one : goal.invariant-loop-one
invariant-loop-one l = AreClimbing l.nodes l.to l.one l.other l.zone_box l.hand

abbrev pub decreases-loop-one : goal.decreases-loop-one
decreases-loop-one l = l.one + l.other
