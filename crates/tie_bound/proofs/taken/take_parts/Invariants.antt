use Rattle.std.proofs.Common.{◌≡◌}
use Rattle.std.specs.List.{list_all}
use Rattle.tie_bound.specs.inside.Answers.{by_table, is_sure_by}
use Rattle.tie_bound.proofs.AnswerLemmas.{AreSaidOf}
use Rattle.tie_bound.proofs.taken.take_parts.Given as goal

-- what the parts say of the clubs so far, and whether each of them is sure
abbrev pub invariant-loop-rival : goal.invariant-loop-rival
invariant-loop-rival l = record {
  said : AreSaidOf (by_table l.parts l.table l.club) l.yielded l.said;
  sure : l.is_sure ≡ list_all (is_sure_by l.parts l.table l.club) l.yielded;
}
