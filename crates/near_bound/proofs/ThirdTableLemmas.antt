-- The leads of one club over another by third clubs, in a table: what a fixture does to each of
-- them, and the table before the first.
use Rattle.std.proofs.Common.{◌≡◌, ◌≢◌, ℕ, ◌+◌, ◌<◌, ◌⊎◌, Bool, true, false, not, ◌||◌}
use Rattle.std.proofs.Common.{◌==◌}
use Rattle.std.proofs.Common.{cond, List, [], ◌∷◌, length, get_or, set, Option, None, refl}
use Rattle.std.proofs.Common.{sym, ap, ◌∙◌, subst, eq-eqb, inl, inr, arith}
use Rattle.std.proofs.Math.Bool.{or-true}
use Rattle.std.proofs.lemmas.Bool.{cases_eq}
use Rattle.league_core.specs.declared.sheet.Fixture.{Fixture}
use Rattle.league_core.specs.declared.zone.Literal.{Literal}
use Rattle.league_core.specs.game.Sums.{has_club}
use Rattle.near_laws.specs.Leads.{added_leads, margins, worth_against}
use Rattle.near_laws.specs.SureLeads.{record_worths}
use Rattle.near_bound.specs.declared.margin.Margin.{Margin}
use Rattle.near_bound.specs.declared.tie.Tie.{Tie}
use Rattle.near_bound.specs.inside.Margins.{lead_by, record_parts, IsLeastMargin, IsLeadWithin}
use Rattle.near_bound.specs.inside.Ties.{IsTie, IsTieIn, fits_of}
use Rattle.near_bound.specs.inside.PairLeads.{HasFit, HaveCommonFit, LeadGoesOn, kept_lead}
use Rattle.near_bound.proofs.CommonFitLemmas.{StaysOut}
use Rattle.near_bound.proofs.PairLeadLemmas.{both_out}
use Rattle.near_bound.proofs.MarginLemmas.{lead_wider}
use Rattle.std.proofs.lemmas.List.{get_or-set_same, get_or-set_other}
use Rattle.near_bound.proofs.ThirdClubLemmas.{Passes, rival_out, two_out, rival_takes, plays_or_not}
use Rattle.near_bound.proofs.ThirdClubLemmas.{third_is, neither_is}

-- ---- what a fixture does to each third club

pub passes_unless_one : (tie : Tie) (zone : List Literal) (front back rival k : ℕ)
    (match d : Fixture) (lead : Option Margin) (home away : Bool) → IsTie tie → IsTieIn tie zone
    → k < length tie.left.now.sheet.now.fixtures
    → match ≡ get_or tie.left.now.sheet.now.fixtures k d
    → HaveCommonFit tie zone front back → HasFit tie zone front → HasFit tie zone back
    → HasFit tie zone rival → rival ≢ front → rival ≢ back
    → home ≡ has_club (front ∷ back ∷ []) match.home
    → away ≡ has_club (front ∷ back ∷ []) match.away → cond home (not away) away ≡ false
    → Passes tie zone front back rival k lead
passes_unless_one tie zone front back rival k match d lead home away of_tie is inside match_is
    common
    has_front has_back has_rival apart also home_is away_is one =
    elim (plays_or_not match rival) as (λ _. Passes tie zone front back rival k lead) [
      | inl plays ↦
          let none = both_out front back match
          (neither_is front back rival match home away apart also home_is away_is one plays) in
          two_out tie zone front back rival k d lead of_tie is inside has_front has_back has_rival
          (subst (λ (m : Fixture). has_club (m.home ∷ m.away ∷ []) rival ≡ true) match_is plays)
          (subst (λ (m : Fixture). StaysOut m front) match_is none.0)
          (subst (λ (m : Fixture). StaysOut m back) match_is none.1)
      | inr out ↦ rival_out tie zone front back rival k d lead of_tie is inside common has_rival
          (subst (λ (m : Fixture). StaysOut m rival) match_is out)
    ]

pub passes_unless_third : (tie : Tie) (zone : List Literal) (front back rival k third : ℕ)
    (match d : Fixture) (lead : Option Margin) (home away : Bool) → IsTie tie → IsTieIn tie zone
    → k < length tie.left.now.sheet.now.fixtures
    → match ≡ get_or tie.left.now.sheet.now.fixtures k d
    → HaveCommonFit tie zone front back → HasFit tie zone rival → rival ≢ front → rival ≢ back
    → home ≡ has_club (front ∷ back ∷ []) match.home
    → away ≡ has_club (front ∷ back ∷ []) match.away → cond home (not away) away ≡ true
    → third ≡ cond home match.away match.home → third ≢ rival
    → Passes tie zone front back rival k lead
passes_unless_third tie zone front back rival k third match d lead home away of_tie is inside
    match_is
    common has_rival apart also home_is away_is one third_at other =
    elim (plays_or_not match rival) as (λ _. Passes tie zone front back rival k lead) [
      | inl plays ↦ absurd (other (third_at
          ∙ third_is front back rival match home away apart also home_is away_is one plays))
      | inr out ↦ rival_out tie zone front back rival k d lead of_tie is inside common has_rival
          (subst (λ (m : Fixture). StaysOut m rival) match_is out)
    ]

-- the third club of a match plays in it
third_plays : (match : Fixture) (home : Bool)
    → has_club (match.home ∷ match.away ∷ []) (cond home match.away match.home) ≡ true
third_plays match true =
    ap (λ b. (match.home == match.away) || (b || false)) (eq-eqb match.away match.away refl)
    ∙ or-true (match.home == match.away)
third_plays match false =
    ap (λ b. b || ((match.away == match.home) || false)) (eq-eqb match.home match.home refl)

-- the leads by the third club take the fixture, those by the others go on
pub third_takes : (tie : Tie) (zone : List Literal) (front back rival k third : ℕ)
    (match d : Fixture) (table : List (Option Margin)) (here new : Option Margin) (home away : Bool)
    → IsTie tie → IsTieIn tie zone → k < length tie.left.now.sheet.now.fixtures
    → match ≡ get_or tie.left.now.sheet.now.fixtures k d → HaveCommonFit tie zone front back
    → HasFit tie zone rival → rival ≢ front → rival ≢ back
    → home ≡ has_club (front ∷ back ∷ []) match.home
    → away ≡ has_club (front ∷ back ∷ []) match.away → cond home (not away) away ≡ true
    → third ≡ cond home match.away match.home → third < length table
    → IsLeastMargin match (get_or (fits_of tie zone (front ∷ back ∷ third ∷ [])) k []) front back
    here
    → lead_by record_parts new
    ≡ added_leads (lead_by record_parts (kept_lead table third)) (lead_by record_parts here)
    → LeadGoesOn (margins (worth_against rival) record_worths front back)
    tie.left.now.sheet.now.fixtures (fits_of tie zone (front ∷ back ∷ rival ∷ [])) k
    (lead_by record_parts (kept_lead table rival))
    (lead_by record_parts (kept_lead (set table third new) rival))
third_takes tie zone front back rival k third match d table here new home away of_tie is inside
    match_is common has_rival apart also home_is away_is one third_at short least sum =
    at (cases_eq third rival)
  where
    Goes : Option Margin → Type 0
    Goes found =
        LeadGoesOn (margins (worth_against rival) record_worths front back)
        tie.left.now.sheet.now.fixtures (fits_of tie zone (front ∷ back ∷ rival ∷ [])) k
        (lead_by record_parts (kept_lead table rival)) (lead_by record_parts found)

    taken : third ≡ rival → Goes new
    taken same =
        rival_takes tie zone front back rival k match d (kept_lead table rival) here new of_tie is
        inside match_is
        (subst (λ (n : ℕ). has_club (match.home ∷ match.away ∷ []) n ≡ true) (sym third_at ∙ same)
        (third_plays match home))
        (subst (λ (n : ℕ). IsLeastMargin match
        (get_or (fits_of tie zone (front ∷ back ∷ n ∷ [])) k []) front back here) same least)
        (sum ∙ ap (λ n. added_leads (lead_by record_parts (kept_lead table n))
        (lead_by record_parts here)) same)

    at : (third ≡ rival) ⊎ (third ≢ rival) → Goes (kept_lead (set table third new) rival)
    at (inl same) =
        subst Goes
        (sym (get_or-set_same table third new None short)
        ∙ ap (λ n. get_or (set table third new) n None) same) (taken same)
    at (inr other) =
        subst Goes (sym (get_or-set_other table third rival new None (λ e. other (sym e))))
        (passes_unless_third tie zone front back rival k third match d
        (kept_lead table rival) home away of_tie is inside match_is common
        has_rival apart also home_is away_is one third_at other)

-- and all of them are near
pub third_near : (table : List (Option Margin)) (third bound : ℕ) (new : Option Margin)
    → third < length table → ((club : ℕ) → IsLeadWithin bound (kept_lead table club))
    → IsLeadWithin (bound + 510) new → (club : ℕ)
    → IsLeadWithin (bound + 510) (kept_lead (set table third new) club)
third_near table third bound new short near here club = at (cases_eq club third)
  where
    at : (club ≡ third) ⊎ (club ≢ third)
        → IsLeadWithin (bound + 510) (kept_lead (set table third new) club)
    at (inl same) =
        subst (λ (n : ℕ). IsLeadWithin (bound + 510) (kept_lead (set table third new) n)) (sym same)
        (subst (λ (l : Option Margin). IsLeadWithin (bound + 510) l)
        (sym (get_or-set_same table third new None short)) here)
    at (inr other) =
        subst (λ (l : Option Margin). IsLeadWithin (bound + 510) l)
        (sym (get_or-set_other table third club new None other))
        (lead_wider bound (bound + 510) (kept_lead table club) (omega arith) (near club))
