use Rattle.league_core.proofs.ProposalLemmas.{proposed_in_box, proposed_is_finish}
use Rattle.league_core.proofs.proposal_laws.proposed_finishes_are_finishes.Goals as goal

pub returns-clause-in_box : goal.returns-clause-in_box
returns-clause-in_box c = proposed_in_box

pub returns-clause-finish : goal.returns-clause-finish
returns-clause-finish c = proposed_is_finish
