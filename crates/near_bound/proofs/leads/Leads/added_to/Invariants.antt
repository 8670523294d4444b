-- What has been added so far, and how far it is from zero.
use Rattle.std.proofs.Common.{◌≡◌, ◌*◌, ◌+◌, ℕ, length}
use Rattle.near_laws.specs.Leads.{total_lead}
use Rattle.near_bound.specs.inside.Margins.{IsLeadWithin, lead_by, record_parts}
use Rattle.near_bound.specs.inside.Decisions.{third_lead}
use Rattle.near_bound.proofs.leads.Leads.added_to.Given as goal

abbrev pub invariant-loop-club : goal.invariant-loop-club
invariant-loop-club l = record {
  value : lead_by record_parts l.total ≡ total_lead (lead_by record_parts l.fn.lead)
      (third_lead l.capped l.self) l.yielded;
  near : (bound : ℕ) → IsLeadWithin bound l.fn.lead
      → IsLeadWithin (bound + 400000 * length l.yielded) l.total;
}
