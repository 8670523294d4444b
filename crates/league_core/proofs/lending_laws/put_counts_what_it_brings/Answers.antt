use Rattle.std.proofs.lemmas.Bool.{ne_eqb}
use Rattle.league_core.proofs.PutLemmas.{new_count-put, lent_count-put, node_count-put}
use Rattle.league_core.proofs.PutLemmas.{times_lent-put_same, times_lent-put_other, has_open-put}
use Rattle.league_core.proofs.lending_laws.put_counts_what_it_brings.Goals as goal

pub returns-clause-fresh : goal.returns-clause-fresh
returns-clause-fresh c = new_count-put

pub returns-clause-lent : goal.returns-clause-lent
returns-clause-lent c = lent_count-put

pub returns-clause-nodes : goal.returns-clause-nodes
returns-clause-nodes c = node_count-put

pub returns-clause-number : goal.returns-clause-number
returns-clause-number c = times_lent-put_same

pub returns-clause-others : goal.returns-clause-others
returns-clause-others c = λ number other new tree apart. times_lent-put_other number other new tree
    (ne_eqb other number apart)

pub returns-clause-open_leaf : goal.returns-clause-open_leaf
returns-clause-open_leaf c = has_open-put
