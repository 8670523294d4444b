use Rattle.what_if.proofs.BaseLemmas.{base_for, base_member}
use Rattle.what_if.proofs.BelowLemmas.{lent_zones-below}
use Rattle.what_if.proofs.laws.bases_are_zones.Goals as goal

pub returns-clause-zones : goal.returns-clause-zones
returns-clause-zones c = base_for

pub returns-clause-members : goal.returns-clause-members
returns-clause-members c = base_member

pub returns-clause-loans : goal.returns-clause-loans
returns-clause-loans c = lent_zones-below
