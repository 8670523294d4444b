use Rattle.std.proofs.Common.{◌≡◌, ◌++◌, ◌+◌, ℕ, map, take}
use Rattle.runners_up.proofs.joint.push_lots.Given as goal

-- the lots so far are added
abbrev pub invariant-loop-club : goal.invariant-loop-club
invariant-loop-club l =
    l.order.items
    ≡ l.initial.order.items ++ map (λ (club : ℕ). l.first + club) (take l.club-index l.lots)
