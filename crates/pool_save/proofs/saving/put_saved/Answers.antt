use Rattle.pool_save.proofs.SavingLemmas.{saved_put}
use Rattle.pool_save.proofs.saving.put_saved.Goals as goal

pub returns-clause-text : goal.returns-clause-text
returns-clause-text g c =
    saved_put c.args.pool.now _ _ c.put_text.result c.recall_invariant.ensures.sound
    c.requires.asked c.requires.home c.requires.settled c.requires.fresh c.put_text.ensures.text
