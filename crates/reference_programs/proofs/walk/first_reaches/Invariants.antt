use Rattle.std.proofs.Common.{◌≡◌, map, take}
use Rattle.reference_programs.specs.inside.Reaches.{reach_at}
use Rattle.reference_programs.proofs.walk.first_reaches.Given as goal

-- the reaches of the clubs that were passed
abbrev pub invariant-loop-span : goal.invariant-loop-span
invariant-loop-span l = l.found.items ≡ map (λ span. reach_at span l.finish)
    (take l.span-index l.span-items)
