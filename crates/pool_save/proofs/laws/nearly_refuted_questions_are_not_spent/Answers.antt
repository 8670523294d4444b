use Rattle.pool_save.proofs.NearlyLemmas.{turn_nearly, work_nearly, nearly_known, saved_unspent}
use Rattle.pool_save.proofs.laws.nearly_refuted_questions_are_not_spent.Goals as goal

pub returns-clause-turn : goal.returns-clause-turn
returns-clause-turn c = turn_nearly

pub returns-clause-work : goal.returns-clause-work
returns-clause-work c = work_nearly

pub returns-clause-known : goal.returns-clause-known
returns-clause-known c = nearly_known

pub returns-clause-saved : goal.returns-clause-saved
returns-clause-saved c = saved_unspent
