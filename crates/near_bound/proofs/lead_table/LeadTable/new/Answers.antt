use Rattle.std.proofs.Common.{refl}
use Rattle.near_bound.proofs.LeadTableLemmas.{nothing_taken}
use Rattle.near_bound.proofs.lead_table.LeadTable.new.Goals as goal

pub returns : goal.returns
returns c = nothing_taken _ refl c.empty.ensures
