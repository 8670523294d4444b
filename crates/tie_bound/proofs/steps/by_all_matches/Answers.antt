use Rattle.tie_bound.proofs.RowLemmas.{none_at}
use Rattle.tie_bound.proofs.steps.by_all_matches.Goals as goal

pub put_sums_over-requires-clause-none : goal.put_sums_over-requires-clause-none
put_sums_over-requires-clause-none c = none_at 24
