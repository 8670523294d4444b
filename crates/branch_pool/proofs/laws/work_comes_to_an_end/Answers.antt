use Rattle.branch_pool.proofs.RunLemmas.{no_work_answers, turns_leave_less}
use Rattle.branch_pool.proofs.laws.work_comes_to_an_end.Goals as goal

pub returns : goal.returns
returns c = record { less = turns_leave_less; answered = no_work_answers }
