use Rattle.league_core.proofs.TreeLemmas.{length-preorder, length-leaves_from, new_count-le}
use Rattle.league_core.proofs.tree_laws.nodes_are_counted.Goals as goal

pub returns-clause-listed : goal.returns-clause-listed
returns-clause-listed c = length-preorder

pub returns-clause-leaves : goal.returns-clause-leaves
returns-clause-leaves c = length-leaves_from

pub returns-clause-fresh : goal.returns-clause-fresh
returns-clause-fresh c = new_count-le
