use Rattle.std.proofs.Common.{None}
use Rattle.league_core.proofs.SeenLemmas.{IsFilled}
use Rattle.near_bound.specs.inside.PairLeads.{IsLessOf, played_in}
use Rattle.near_bound.specs.inside.PlayedParts.{pair_margin}
use Rattle.near_bound.proofs.tie.Tie.played_against.Given as goal

-- the third clubs passed have their leads, and the others none
abbrev pub invariant-loop-third : goal.invariant-loop-third
invariant-loop-third l = IsFilled None
    (λ rival. IsLessOf (pair_margin (played_in l.self) l.front rival)
    (pair_margin (played_in l.self) l.back rival))
    32 l.yielded l.against
