use Rattle.pool_save.proofs.SavedPoolLemmas.{taken_nearly_saved, works_nearly_saved}
use Rattle.pool_save.proofs.unspent_laws.nearly_saved_questions_stay_so.Goals as goal

pub returns-clause-taken : goal.returns-clause-taken
returns-clause-taken c = taken_nearly_saved

pub returns-clause-work : goal.returns-clause-work
returns-clause-work c = works_nearly_saved
