use Rattle.std.proofs.Common.{IsTrue}
use Rattle.league_core.proofs.TreeLemmas.{zones-leaves_from, lent_zones-leaves_from}
use Rattle.league_core.proofs.TreeLemmas.{has_open-leaves_from, is_refuted-leaves_from, leaves_meet}
use Rattle.league_core.proofs.tree_laws.leaves_tell_the_tree.Goals as goal

pub returns-clause-zones : goal.returns-clause-zones
returns-clause-zones c = zones-leaves_from

pub returns-clause-lent : goal.returns-clause-lent
returns-clause-lent c = lent_zones-leaves_from

pub returns-clause-open_leaf : goal.returns-clause-open_leaf
returns-clause-open_leaf c = has_open-leaves_from

pub returns-clause-refuted : goal.returns-clause-refuted
returns-clause-refuted c = is_refuted-leaves_from

pub returns-clause-facts : goal.returns-clause-facts
returns-clause-facts c = λ fact. leaves_meet (λ z node. IsTrue (fact z node))
