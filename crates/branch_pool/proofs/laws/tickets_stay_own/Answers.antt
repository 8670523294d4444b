use Rattle.branch_pool.proofs.TicketLemmas.{taken_is_own, stays_over_step}
use Rattle.branch_pool.proofs.laws.tickets_stay_own.Goals as goal

pub returns : goal.returns
returns c = record { taken = taken_is_own; kept = stays_over_step }
