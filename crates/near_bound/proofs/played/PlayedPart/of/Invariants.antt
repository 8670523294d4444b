use Rattle.near_bound.specs.inside.PlayedParts.{IsPartSoFar}
use Rattle.near_bound.proofs.played.PlayedPart.of.Given as goal

-- the part over the fixtures passed
abbrev pub invariant-loop-i : goal.invariant-loop-i
invariant-loop-i l = IsPartSoFar l.sheet l.season l.i l.part
