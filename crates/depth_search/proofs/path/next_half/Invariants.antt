use Rattle.std.proofs.Common.{◌≡◌, length}
use Rattle.league_core.specs.inside.Pending.{pending_of}
use Rattle.depth_search.proofs.path.next_half.Given as goal

-- what is due is as before
abbrev pub invariant-loop-last : goal.invariant-loop-last
invariant-loop-last l = pending_of l.initial.path.items ≡ pending_of l.path.items

abbrev pub decreases-loop-last : goal.decreases-loop-last
decreases-loop-last l = length l.path.items
