-- Whether leads decide in a group, by the leads that are kept.
use Rattle.std.specs.Prelude.{ℕ, Bool, true, false, List, Some}
use Rattle.near_laws.specs.Leads.{Lead, at_most, total_lead}
use Rattle.league_core.specs.declared.sheet.Sheet.{Sheet}
use Rattle.league_core.specs.declared.season.Score.{Score}
use Rattle.near_laws.specs.SureLeads.{even_record, with_part, decide_by, lead_against, group_lead}
use Rattle.near_laws.specs.SureLeads.{any_group_lead, first_lead, tail_lead}
use Rattle.near_bound.specs.declared.leads.Leads.{Leads}
use Rattle.near_bound.specs.inside.Margins.{lead_by, record_parts, first_parts, overall_parts}
use Rattle.near_bound.specs.inside.PairLeads.{kept_lead}

-- the lead by a third club, or if it is to be no more than nothing, the lesser of both
abbrev pub third_lead : Bool → Leads → ℕ → Lead
third_lead true leads rival =
    Some (at_most even_record (lead_by record_parts (kept_lead leads.against rival)))
third_lead false leads rival = lead_by record_parts (kept_lead leads.against rival)

-- of the two alone with those by third clubs
abbrev pub total_by : Bool → Leads → List ℕ → Lead
total_by capped leads others =
    total_lead (lead_by record_parts leads.pair) (third_lead capped leads) others

-- of the two alone with those by the clubs that are sure; the loose ones add nothing
abbrev pub total_with : Bool → Leads → List ℕ → List ℕ → Lead
total_with capped leads sure loose =
    total_lead (total_by capped leads sure) (third_lead true leads) loose

-- the leads decide in each group with the sure clubs and any of the loose ones
abbrev pub leads_decide_anyway : Leads → List ℕ → List ℕ → Bool
leads_decide_anyway leads sure loose =
    decide_by leads.order (total_with false leads sure loose) (total_with true leads sure loose)
    (lead_by first_parts leads.overall)
    (with_part leads.rank (lead_by overall_parts leads.overall))

-- a lead by a third club that adds nothing
abbrev pub lead_capped : Sheet → (List ℕ → List (List Score)) → ℕ → ℕ → ℕ → Lead
lead_capped sheet fits front back rival =
    Some (at_most even_record (lead_against sheet fits front back rival))

-- of two clubs the one is surely ahead in each such group
abbrev pub leads_anyway : Sheet → (List ℕ → List (List Score)) → ℕ → ℕ → List ℕ → List ℕ → Bool
leads_anyway sheet fits front back sure loose =
    let capped = lead_capped sheet fits front back in
    decide_by sheet.order (total_lead (group_lead sheet fits front back sure) capped loose)
    (total_lead (any_group_lead sheet fits front back sure) capped loose)
    (first_lead sheet fits front back) (tail_lead sheet fits front back)
