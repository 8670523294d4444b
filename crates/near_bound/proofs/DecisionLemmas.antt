-- The leads that are kept decide exactly where those of the zone do.
use Rattle.std.proofs.Common.{◌≡◌, ℕ, true, false, List, [], ◌∷◌, Option, Some, None}
use Rattle.std.proofs.Common.{IsSome, refl, sym, ap, ◌∙◌, eq-eqb, ◌||◌, ◌==◌}
use Rattle.std.proofs.Math.Bool.{or-true}
use Rattle.league_core.specs.declared.club_set.ClubSet.{ClubSet}
use Rattle.league_core.specs.declared.zone.Literal.{Literal}
use Rattle.league_core.specs.game.Sums.{has_club}
use Rattle.near_laws.specs.Leads.{Lead, added_leads, at_most, total_lead}
use Rattle.near_laws.specs.SureLeads.{decide_by, with_part, even_record, pair_lead}
use Rattle.near_laws.specs.SureLeads.{lead_against}
use Rattle.near_bound.specs.declared.margin.Margin.{Margin}
use Rattle.near_bound.specs.declared.tie.Tie.{Tie}
use Rattle.near_bound.specs.declared.leads.Leads.{Leads}
use Rattle.near_bound.specs.inside.Margins.{lead_by, record_parts}
use Rattle.near_bound.specs.inside.Ties.{fits_of}
use Rattle.near_bound.specs.inside.PairLeads.{AreLeadsIn, AreLeadsOf}
use Rattle.near_bound.specs.inside.Decisions.{third_lead, leads_decide_anyway, leads_anyway}
use Rattle.near_bound.specs.inside.Decisions.{lead_capped}
use Rattle.near_bound.specs.inside.GroupsLeft.{AreOthers}

nothing_finite : (lead : Lead) → added_leads lead None ≡ None
nothing_finite None = refl
nothing_finite (Some numbers) = refl

total_none : (lead : ℕ → Lead) (others : List ℕ) → total_lead None lead others ≡ None
total_none lead [] = refl
total_none lead (club ∷ others) =
    ap (added_leads (lead club)) (total_none lead others) ∙ nothing_finite (lead club)

total_each : (first : Lead) (lead other : ℕ → Lead) (others : List ℕ)
    → ((club : ℕ) → has_club others club ≡ true → lead club ≡ other club)
    → total_lead first lead others ≡ total_lead first other others
total_each first lead other [] each = refl
total_each first lead other (club ∷ others) each =
    λ i. added_leads
    (each club (ap (λ b. b || has_club others club) (eq-eqb club club refl)) i)
    (total_each first lead other others
    (λ x has. each x (ap (λ b. (club == x) || b) has ∙ or-true (club == x))) i)

-- if the first lead is infinite the others do not matter
all_none : (lead other : ℕ → Lead) (sure loose : List ℕ)
    → total_lead (total_lead None lead sure) other loose ≡ None
all_none lead other sure loose =
    ap (λ (l : Lead). total_lead l other loose) (total_none lead sure) ∙ total_none other loose

-- the leads of a zone that were kept
module _ (tie : Tie) (zone : List Literal) (able : ClubSet) (front back : ℕ) (leads : Leads)
    (are : AreLeadsIn tie able front back zone leads) where
  abbrev lead_in : ℕ → Lead
  lead_in = lead_against tie.left.now.sheet.now (fits_of tie zone) front back

  abbrev cap_in : ℕ → Lead
  cap_in = lead_capped tie.left.now.sheet.now (fits_of tie zone) front back

  abbrev pair_in : Lead
  pair_in = pair_lead tie.left.now.sheet.now (fits_of tie zone) front back

  against_is : (others : List ℕ) → AreOthers able front back others → IsSome leads.pair
      → (club : ℕ) → has_club others club ≡ true → third_lead false leads club ≡ lead_in club
  against_is others among some club has =
      are.against some club (among club has).0 (among club has).1 (among club has).2

  capped_is : (others : List ℕ) → AreOthers able front back others → IsSome leads.pair
      → (club : ℕ) → has_club others club ≡ true → third_lead true leads club ≡ cap_in club
  capped_is others among some club has =
      ap (λ (l : Lead). Some (at_most even_record l)) (against_is others among some club has)

  -- one list of clubs after the other
  both_same : (lead other : ℕ → Lead) (sure loose : List ℕ)
      → (IsSome leads.pair → (club : ℕ) → has_club sure club ≡ true → lead club ≡ other club)
      → (IsSome leads.pair → (club : ℕ) → has_club loose club ≡ true
      → third_lead true leads club ≡ cap_in club)
      → total_lead (total_lead (lead_by record_parts leads.pair) lead sure) (third_lead true leads)
      loose
      ≡ total_lead (total_lead pair_in other sure) cap_in loose
  both_same lead other sure loose one two =
      by_pair leads.pair one two
      ∙ ap (λ (l : Lead). total_lead (total_lead l other sure) cap_in loose) are.pair
    where
      by_pair : (pair : Option Margin)
          → (IsSome pair → (club : ℕ) → has_club sure club ≡ true → lead club ≡ other club)
          → (IsSome pair → (club : ℕ) → has_club loose club ≡ true
          → third_lead true leads club ≡ cap_in club)
          → total_lead (total_lead (lead_by record_parts pair) lead sure) (third_lead true leads)
          loose
          ≡ total_lead (total_lead (lead_by record_parts pair) other sure) cap_in loose
      by_pair None one two =
          all_none lead (third_lead true leads) sure loose ∙ sym (all_none other cap_in sure loose)
      by_pair (Some margin) one two =
          ap (λ (l : Lead). total_lead l (third_lead true leads) loose)
          (total_each (Some (record_parts margin)) lead other sure (one refl))
          ∙ total_each (total_lead (Some (record_parts margin)) other sure)
          (third_lead true leads) cap_in loose (two refl)

  pub decide_is : (sure loose : List ℕ) → AreLeadsOf tie front back leads
      → AreOthers able front back sure → AreOthers able front back loose
      → leads_decide_anyway leads sure loose
      ≡ leads_anyway tie.left.now.sheet.now (fits_of tie zone) front back sure loose
  decide_is sure loose of_tie with_sure with_loose =
      let whole = both_same (third_lead false leads) lead_in sure loose (against_is sure with_sure)
      (capped_is loose with_loose) in
      let part = both_same (third_lead true leads) cap_in sure loose (capped_is sure with_sure)
      (capped_is loose with_loose) in
      (λ i. decide_by (of_tie.order i) (whole i) (part i) (are.first i)
      (with_part (of_tie.rank i) (are.overall i)))
