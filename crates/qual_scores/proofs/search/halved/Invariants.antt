use Rattle.qual_scores.specs.inside.Searching.{IsNarrowed}
use Rattle.qual_scores.proofs.PointRangeLemmas.{numbers_in}
use Rattle.qual_scores.proofs.search.halved.Given as goal

-- what is left is a range on the way
abbrev pub invariant-loop-range : goal.invariant-loop-range
invariant-loop-range l = IsNarrowed l.sheet l.season l.sought l.range

abbrev pub decreases-loop-range : goal.decreases-loop-range
decreases-loop-range l = numbers_in l.range
