use Rattle.std.proofs.Common.{◌≡◌, ◌++◌}
use Rattle.league_core.specs.search.Zones.{others_of}
use Rattle.final_rank.proofs.drawing.push_others.Given as goal

-- of the clubs that were passed all but the one are added
abbrev pub invariant-loop-other : goal.invariant-loop-other
invariant-loop-other l = l.order.items ≡ l.initial.order.items ++ others_of l.other l.club
