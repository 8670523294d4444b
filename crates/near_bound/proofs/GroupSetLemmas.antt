-- The clubs of a set: the first one and the rest, or all but one.
use Rattle.std.proofs.Common.{◌≡◌, ℕ, ◌≤◌, Bool, true, false, ◌&&◌, ◌||◌, ◌==◌, not, List}
use Rattle.std.proofs.Common.{[]}
use Rattle.std.proofs.Common.{◌∷◌, filter, sym, ap, ◌∙◌}
use Rattle.league_core.specs.declared.club_set.ClubSet.{ClubSet}
use Rattle.league_core.specs.game.Sums.{has_club}
use Rattle.league_core.specs.game.ClubSets.{clubs_in}
use Rattle.std.proofs.Common.{eq-eqb, Option, Some, None, MatchOption}
use Rattle.std.proofs.Common.{inl, inr}
use Rattle.std.specs.List.{list_any}
use Rattle.std.proofs.Math.Bool.{or-false, or-true}
use Rattle.std.proofs.lemmas.Bool.{false≢true, and_parts, or_cases, eqb-true}
use Rattle.league_core.specs.declared.zone.Literal.{Literal}
use Rattle.league_core.proofs.ClubSetLemmas.{clubs_below-filter}
use Rattle.league_core.proofs.WalkLemmas.{first_of_clubs}
use Rattle.league_core.proofs.plain.Numbers.{eqb-swap}
use Rattle.near_bound.specs.declared.tie.Tie.{Tie}
use Rattle.near_bound.specs.declared.leads.Leads.{Leads}
use Rattle.near_bound.specs.inside.PairLeads.{AreLeadsNear, HaveFits}
use Rattle.near_bound.specs.inside.GroupsLeft.{IsMarkedLead, AreOthers, AreAmong, RivalsFit}

-- a set is its first club and the others
pub first_and_rest : (set single rest : ClubSet) (first : ℕ)
    → has_club (clubs_in set) first ≡ true
    → ((club : ℕ) → has_club (clubs_in set) club ≡ true → first ≤ club)
    → clubs_in single ≡ first ∷ []
    → ((club : ℕ) → has_club (clubs_in rest) club
    ≡ (has_club (clubs_in set) club && not (has_club (clubs_in single) club)))
    → clubs_in set ≡ first ∷ clubs_in rest
first_and_rest set single rest first among least one is =
    first_of_clubs set rest first among least
    (λ club. is club
    ∙ ap (λ (xs : List ℕ). has_club (clubs_in set) club && not (has_club xs club)) one)

-- a set without one club
pub without_one : (group single others : ClubSet) (rival : ℕ) → clubs_in single ≡ rival ∷ []
    → ((club : ℕ) → has_club (clubs_in others) club
    ≡ (has_club (clubs_in group) club && not (has_club (clubs_in single) club)))
    → clubs_in others ≡ filter (λ other. not (other == rival)) (clubs_in group)
without_one group single others rival one is =
    clubs_below-filter 32 others.bits group.bits (λ other. not (other == rival))
    (λ club. is club
    ∙ ap (λ (xs : List ℕ). has_club (clubs_in group) club && not (has_club xs club)) one
    ∙ ap (λ b. has_club (clubs_in group) club && not b)
    (or-false (rival == club) ∙ eqb-swap rival club))

-- the others of a rival in a group of a club's rivals
pub others_are : (able group single others : ClubSet) (club rival : ℕ)
    → has_club (clubs_in able) club ≡ false → AreAmong group able → clubs_in single ≡ rival ∷ []
    → ((x : ℕ) → has_club (clubs_in others) x
    ≡ (has_club (clubs_in group) x && not (has_club (clubs_in single) x)))
    → AreOthers able rival club (clubs_in others)
others_are able group single others club rival not_club among one is x has =
    let parts = and_parts (has_club (clubs_in group) x) (not (has_club (rival ∷ []) x))
    (sym (is x
    ∙ ap (λ (xs : List ℕ). has_club (clubs_in group) x && not (has_club xs x)) one) ∙ has) in (
      among x parts.0,
      λ same. false≢true (sym (ap (λ b. not (b || false)) (eq-eqb rival x (sym same))) ∙ parts.1),
      λ same. false≢true (sym not_club ∙ ap (has_club (clubs_in able)) (sym same)
          ∙ among x parts.0),
    )

pub turned_others : (able : ClubSet) (front back : ℕ) (others : List ℕ)
    → AreOthers able front back others → AreOthers able back front others
turned_others able front back others are x has =
    ((are x has).0, (are x has).2, (are x has).1)

pub marked_near : (tie : Tie) (able : ClubSet) (front back : ℕ) (marked : Bool)
    (leads : Option Leads) → IsMarkedLead tie able front back marked leads
    → MatchOption leads (Unit {0}) AreLeadsNear
marked_near tie able front back marked None are = tt
marked_near tie able front back marked (Some leads) are = are.1

pub rivals_fit : (tie : Tie) (able : ClubSet) (club rival : ℕ) (zone : List Literal)
    → RivalsFit tie able club zone → has_club (clubs_in able) rival ≡ true
    → HaveFits tie able rival club zone × HaveFits tie able club rival zone
rivals_fit tie able club rival zone fit among = (
  record {
    front_fits = fit.rivals_fit rival among;
    back_fits = fit.club_fits;
    each_fits = fit.rivals_fit;
  },
  record {
    front_fits = fit.club_fits;
    back_fits = fit.rivals_fit rival among;
    each_fits = fit.rivals_fit;
  },
)

-- some club of the list that passes
pub any_member_passes : (test : ℕ → Bool) (clubs : List ℕ) (club : ℕ) → has_club clubs club ≡ true
    → test club ≡ true → list_any test clubs ≡ true
any_member_passes test [] club has passes = absurd (false≢true has)
any_member_passes test (first ∷ clubs) club has passes =
    elim (or_cases (first == club) (has_club clubs club) has) as (λ _.
    (test first || list_any test clubs) ≡ true) [
      | inl here ↦ ap (λ b. b || list_any test clubs)
          (ap test (eqb-true first club here) ∙ passes)
      | inr later ↦
          ap (λ b. test first || b) (any_member_passes test clubs club later passes)
          ∙ or-true (test first)
    ]
