use Rattle.tie_bound.specs.inside.Answers.{by_overall_table}
use Rattle.tie_bound.proofs.AnswerLemmas.{AreSaidOf}
use Rattle.tie_bound.proofs.taken.take_overall.Given as goal

-- what the sums over all matches say of the clubs so far
abbrev pub invariant-loop-rival : goal.invariant-loop-rival
invariant-loop-rival l = AreSaidOf (by_overall_table l.sheet l.overall l.club) l.yielded l.said
