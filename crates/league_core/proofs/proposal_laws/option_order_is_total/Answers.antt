use Rattle.league_core.proofs.ProposalLemmas.{option_order-equal, option_order_total}
use Rattle.league_core.proofs.proposal_laws.option_order_is_total.Goals as goal

pub returns-clause-total : goal.returns-clause-total
returns-clause-total c = option_order_total

pub returns-clause-apart : goal.returns-clause-apart
returns-clause-apart c = option_order-equal
