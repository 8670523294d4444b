use Rattle.league_core.proofs.LendingLemmas.{lent_count-all_opened, lent_zones-all_opened}
use Rattle.league_core.proofs.LendingLemmas.{zones_from-all_opened, node_count-all_opened}
use Rattle.league_core.proofs.LendingLemmas.{new_count-all_opened, has_open-all_opened}
use Rattle.league_core.proofs.LendingLemmas.{is_refuted-all_opened}
use Rattle.league_core.proofs.lending_laws.opened_trees_lend_nothing.Goals as goal

pub returns-clause-taken : goal.returns-clause-taken
returns-clause-taken c = λ number tree zone.
    (lent_count-all_opened tree, lent_zones-all_opened number tree zone)

pub returns-clause-kept : goal.returns-clause-kept
returns-clause-kept c = λ tree zone.
    (zones_from-all_opened tree zone, node_count-all_opened tree, new_count-all_opened tree)

pub returns-clause-opened : goal.returns-clause-opened
returns-clause-opened c = λ tree. (has_open-all_opened tree, is_refuted-all_opened tree)
