use Rattle.example_finish.proofs.ProposedTotalLemmas.{at_rows}
use Rattle.example_finish.proofs.totals.no_rows.Goals as goal

pub returns-clause-none : goal.returns-clause-none
returns-clause-none c = λ club. at_rows 24 club
