use Rattle.pool_save.proofs.TakingUpLemmas.{may_adopt_all}
use Rattle.pool_save.proofs.taking_up.take_up.Goals as goal

pub adopt_all-requires : goal.adopt_all-requires
adopt_all-requires c =
    may_adopt_all c.args.pool c.args.trees.items c.requires.home c.requires.asked
