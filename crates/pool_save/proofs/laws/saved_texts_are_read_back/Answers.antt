use Rattle.pool_save.proofs.SavedBackLemmas.{saved_is_read}
use Rattle.pool_save.proofs.OwnRowLemmas.{questions_have_own_rows}
use Rattle.pool_save.proofs.laws.saved_texts_are_read_back.Goals as goal

pub returns-clause-texts : goal.returns-clause-texts
returns-clause-texts c = saved_is_read

pub returns-clause-own_rows : goal.returns-clause-own_rows
returns-clause-own_rows c = questions_have_own_rows
