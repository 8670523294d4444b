use Rattle.std.proofs.Common.{◌≡◌, take}
use Rattle.check_bounds.proofs.trail.holds_in.Given as goal

-- the way of the literals so far
abbrev pub invariant-loop-literal : goal.invariant-loop-literal
invariant-loop-literal l =
    l.way ≡ record { sheet = l.sheet; season = l.season; zone = take l.literal-index l.zone }
