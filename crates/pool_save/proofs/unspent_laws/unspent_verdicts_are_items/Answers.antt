use Rattle.pool_save.proofs.UnspentItemLemmas.{unspent_items_made, unspent_items_there}
use Rattle.pool_save.proofs.unspent_laws.unspent_verdicts_are_items.Goals as goal

pub returns-clause-items : goal.returns-clause-items
returns-clause-items c = unspent_items_made

pub returns-clause-there : goal.returns-clause-there
returns-clause-there c = unspent_items_there
