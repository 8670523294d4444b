use Rattle.league_core.proofs.LendingLemmas.{length-lent_zones, times_lent-le, lent_count-none}
use Rattle.league_core.proofs.LendingLemmas.{refuted_is_settled, settled_is_refuted}
use Rattle.league_core.proofs.LendingLemmas.{lent_zones_absent}
use Rattle.league_core.proofs.lending_laws.loans_are_counted.Goals as goal

pub returns-clause-zones : goal.returns-clause-zones
returns-clause-zones c = length-lent_zones

pub returns-clause-among : goal.returns-clause-among
returns-clause-among c = times_lent-le

pub returns-clause-none : goal.returns-clause-none
returns-clause-none c = lent_count-none

pub returns-clause-settled : goal.returns-clause-settled
returns-clause-settled c = λ tree.
    (refuted_is_settled tree, λ settled. settled_is_refuted tree settled.0 settled.1)

pub returns-clause-absent : goal.returns-clause-absent
returns-clause-absent c = lent_zones_absent
