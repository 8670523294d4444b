-- What one fixture adds to the leads of one club over another by the matches with third clubs.
use Rattle.std.proofs.Common.{◌≡◌, ◌≢◌, ℕ, ℤ, ◌<◌, ◌⊎◌, Bool, true, false, not, ◌&&◌, ◌||◌}
use Rattle.std.proofs.Common.{◌==◌}
use Rattle.std.proofs.Common.{cond, List, [], ◌∷◌, length, get_or, Option, refl}
use Rattle.std.proofs.Common.{sym, ap, ◌∙◌, eq-eqb, inl, inr, arith}
use Rattle.std.proofs.Math.Bool.{or-true, or-false}
use Rattle.std.proofs.lemmas.Bool.{ne_eqb, eqb-true, cases_eq, true≢false, or_cases}
use Rattle.league_core.specs.declared.sheet.Fixture.{Fixture}
use Rattle.league_core.specs.declared.season.Score.{Score}
use Rattle.league_core.specs.declared.zone.Literal.{Literal}
use Rattle.league_core.specs.game.Sums.{has_club}
use Rattle.league_core.proofs.plain.TruthValues.{and_comm}
use Rattle.near_laws.specs.Leads.{added_leads, least_of, numbers_at, margins, worth_against}
use Rattle.near_laws.specs.SureLeads.{record_worths}
use Rattle.near_bound.specs.declared.margin.Margin.{Margin}
use Rattle.near_bound.specs.declared.tie.Tie.{Tie}
use Rattle.near_bound.specs.inside.Margins.{lead_by, record_parts, IsLeastMargin}
use Rattle.near_bound.specs.inside.Ties.{IsTie, IsTieIn, fits_of}
use Rattle.near_bound.specs.inside.PairLeads.{HasFit, HaveCommonFit, LeadGoesOn}
use Rattle.near_bound.proofs.PairLeadLemmas.{record_size}
use Rattle.near_bound.proofs.LeadWalkLemmas.{so_far_more, so_far_same}
use Rattle.near_bound.proofs.CommonFitLemmas.{StaysOut, some_fit, some_with}
use Rattle.near_bound.proofs.GroupWorthLemmas.{against_is, not_against_is, no_record}

-- the leads by a third club go on unchanged
abbrev pub Passes : Tie → List Literal → ℕ → ℕ → ℕ → ℕ → Option Margin → Type 0
Passes tie zone front back rival k lead =
    LeadGoesOn (margins (worth_against rival) record_worths front back)
    tie.left.now.sheet.now.fixtures
    (fits_of tie zone (front ∷ back ∷ rival ∷ [])) k (lead_by record_parts lead)
    (lead_by record_parts lead)

-- the third club does not play
pub rival_out : (tie : Tie) (zone : List Literal) (front back rival k : ℕ) (d : Fixture)
    (lead : Option Margin) → IsTie tie → IsTieIn tie zone
    → k < length tie.left.now.sheet.now.fixtures
    → HaveCommonFit tie zone front back → HasFit tie zone rival
    → StaysOut (get_or tie.left.now.sheet.now.fixtures k d) rival
    → Passes tie zone front back rival k lead
rival_out tie zone front back rival k d lead of_tie is inside common has_rival out fixtures
    so_far =
    let left = tie.left.now in
    let clubs = front ∷ back ∷ rival ∷ [] in
    let match = get_or left.sheet.now.fixtures k d in
    so_far_same (margins (worth_against rival) record_worths front back) left.sheet.now.fixtures
    (fits_of tie zone clubs) k d fixtures (lead_by record_parts lead) inside (record_size lead)
    so_far
    (λ score. not_against_is rival front back match score
    ((λ i. ne_eqb match.home rival out.0 i || (ne_eqb match.away rival out.1 i || false))))
    (some_with left zone tie.points (front ∷ back ∷ []) clubs rival k d of_tie.left is.stands inside
    (some_fit left zone tie.points (front ∷ back ∷ []) k of_tie.left is.stands inside common)
    has_rival out (λ test. split (test front) (test back) (test rival)))
  where
    split : (a b c : Bool) → (a && (b && (c && true))) ≡ ((a && (b && true)) && c)
    split a b c = grind (arith)

-- neither of the two plays
pub two_out : (tie : Tie) (zone : List Literal) (front back rival k : ℕ) (d : Fixture)
    (lead : Option Margin) → IsTie tie → IsTieIn tie zone
    → k < length tie.left.now.sheet.now.fixtures
    → HasFit tie zone front → HasFit tie zone back → HasFit tie zone rival
    → has_club ((get_or tie.left.now.sheet.now.fixtures k d).home
    ∷ (get_or tie.left.now.sheet.now.fixtures k d).away ∷ []) rival ≡ true
    → StaysOut (get_or tie.left.now.sheet.now.fixtures k d) front
    → StaysOut (get_or tie.left.now.sheet.now.fixtures k d) back
    → Passes tie zone front back rival k lead
two_out tie zone front back rival k d lead of_tie is inside has_front has_back has_rival plays out
    also fixtures so_far =
    let left = tie.left.now in
    let clubs = front ∷ back ∷ rival ∷ [] in
    let match = get_or left.sheet.now.fixtures k d in
    so_far_same (margins (worth_against rival) record_worths front back) left.sheet.now.fixtures
    (fits_of tie zone clubs) k d fixtures (lead_by record_parts lead) inside (record_size lead)
    so_far
    (λ score.
    sym (λ i. against_is rival front back match plays i score)
    ∙ no_record front back match score out also)
    (some_with left zone tie.points (back ∷ rival ∷ []) clubs front k d of_tie.left is.stands inside
    (some_with left zone tie.points (rival ∷ []) (back ∷ rival ∷ []) back k d of_tie.left is.stands
    inside
    (some_fit left zone tie.points (rival ∷ []) k of_tie.left is.stands inside has_rival) has_back
    also (λ test. and_comm (test back) (test rival && true)))
    has_front out (λ test. and_comm (test front) (test back && (test rival && true))))

-- it plays one of the two
pub rival_takes : (tie : Tie) (zone : List Literal) (front back rival k : ℕ) (match d : Fixture)
    (old here new : Option Margin) → IsTie tie → IsTieIn tie zone
    → k < length tie.left.now.sheet.now.fixtures
    → match ≡ get_or tie.left.now.sheet.now.fixtures k d
    → has_club (match.home ∷ match.away ∷ []) rival ≡ true
    → IsLeastMargin match (get_or (fits_of tie zone (front ∷ back ∷ rival ∷ [])) k []) front back
    here
    → lead_by record_parts new
    ≡ added_leads (lead_by record_parts old) (lead_by record_parts here)
    → LeadGoesOn (margins (worth_against rival) record_worths front back)
    tie.left.now.sheet.now.fixtures (fits_of tie zone (front ∷ back ∷ rival ∷ [])) k
    (lead_by record_parts old) (lead_by record_parts new)
rival_takes tie zone front back rival k match d old here new of_tie is inside match_is plays least
    sum fixtures so_far =
    let left = tie.left.now in
    let clubs = front ∷ back ∷ rival ∷ [] in
    let own = get_or (fits_of tie zone clubs) k [] in
    so_far_more (margins (worth_against rival) record_worths front back) left.sheet.now.fixtures
    (fits_of tie zone clubs) k d fixtures (lead_by record_parts old)
    (lead_by record_parts here) (lead_by record_parts new) inside so_far
    (least.record_lead
    ∙ ap (λ (f : Score → List ℤ). least_of f own) (against_is rival front back match plays)
    ∙ ap (λ (m : Fixture). least_of
    (numbers_at (margins (worth_against rival) record_worths front back) m) own) match_is)
    sum

-- ---- who the third club is

-- a club plays in a match, or it stays out
pub plays_or_not : (match : Fixture) (club : ℕ)
    → (has_club (match.home ∷ match.away ∷ []) club ≡ true) ⊎ StaysOut match club
plays_or_not match club = by_home (cases_eq match.home club)
  where
    by_away : match.home ≢ club → (match.away ≡ club) ⊎ (match.away ≢ club)
        → (has_club (match.home ∷ match.away ∷ []) club ≡ true) ⊎ StaysOut match club
    by_away home (inl away) = inl
        (ap (λ b. (match.home == club) || (b || false)) (eq-eqb match.away club away)
        ∙ or-true (match.home == club))
    by_away home (inr away) = inr (home, away)

    by_home : (match.home ≡ club) ⊎ (match.home ≢ club)
        → (has_club (match.home ∷ match.away ∷ []) club ≡ true) ⊎ StaysOut match club
    by_home (inl home) = inl
        (ap (λ b. b || ((match.away == club) || false)) (eq-eqb match.home club home))
    by_home (inr home) = by_away home (cases_eq match.away club)

not_one_of : (front back club : ℕ) → club ≢ front → club ≢ back
    → has_club (front ∷ back ∷ []) club ≡ false
not_one_of front back club apart also =
    λ i. ne_eqb front club (λ e. apart (sym e)) i ||
    (ne_eqb back club (λ e. also (sym e)) i || false)

-- if one side of a match is one of two, and another club plays, it is the other side
pub third_is : (front back rival : ℕ) (match : Fixture) (home away : Bool) → rival ≢ front
    → rival ≢ back → home ≡ has_club (front ∷ back ∷ []) match.home
    → away ≡ has_club (front ∷ back ∷ []) match.away
    → cond home (not away) away ≡ true → has_club (match.home ∷ match.away ∷ []) rival ≡ true
    → cond home match.away match.home ≡ rival
third_is front back rival match true away apart also home_is away_is one plays =
    elim (or_cases (match.home == rival) ((match.away == rival) || false) plays) as (λ _.
    match.away ≡ rival) [
      | inl at_home ↦ absurd
          (true≢false (home_is
          ∙ ap (has_club (front ∷ back ∷ [])) (eqb-true match.home rival at_home)
          ∙ not_one_of front back rival apart also))
      | inr later ↦ eqb-true match.away rival (sym (or-false (match.away == rival)) ∙ later)
    ]
third_is front back rival match false away apart also home_is away_is one plays =
    elim (or_cases (match.home == rival) ((match.away == rival) || false) plays) as (λ _.
    match.home ≡ rival) [
      | inl at_home ↦ eqb-true match.home rival at_home
      | inr later ↦ absurd
          (true≢false (sym one ∙ away_is
          ∙ ap (has_club (front ∷ back ∷ []))
          (eqb-true match.away rival (sym (or-false (match.away == rival)) ∙ later))
          ∙ not_one_of front back rival apart also))
    ]

-- if not just one side is one of two, and another club plays, neither is
pub neither_is : (front back rival : ℕ) (match : Fixture) (home away : Bool) → rival ≢ front
    → rival ≢ back → home ≡ has_club (front ∷ back ∷ []) match.home
    → away ≡ has_club (front ∷ back ∷ []) match.away
    → cond home (not away) away ≡ false → has_club (match.home ∷ match.away ∷ []) rival ≡ true
    → (has_club (front ∷ back ∷ []) match.home || has_club (front ∷ back ∷ []) match.away) ≡ false
neither_is front back rival match true false apart also home_is away_is one plays = absurd
    (true≢false one)
neither_is front back rival match false true apart also home_is away_is one plays = absurd
    (true≢false one)
neither_is front back rival match false false apart also home_is away_is one plays =
    λ i. sym home_is i || sym away_is i
neither_is front back rival match true true apart also home_is away_is one plays =
    elim (or_cases (match.home == rival) ((match.away == rival) || false) plays) as (λ _.
    (has_club (front ∷ back ∷ []) match.home || has_club (front ∷ back ∷ []) match.away)
    ≡ false) [
      | inl at_home ↦ absurd
          (true≢false (home_is
          ∙ ap (has_club (front ∷ back ∷ [])) (eqb-true match.home rival at_home)
          ∙ not_one_of front back rival apart also))
      | inr later ↦ absurd
          (true≢false (away_is
          ∙ ap (has_club (front ∷ back ∷ []))
          (eqb-true match.away rival (sym (or-false (match.away == rival)) ∙ later))
          ∙ not_one_of front back rival apart also))
    ]
