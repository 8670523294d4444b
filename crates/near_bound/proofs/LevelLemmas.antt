-- The sets of a level, and the table of its leads.
use Rattle.std.proofs.Common.{◌≡◌, ℕ, ◌<◌, ◌≤◌, Bool, true, false, ◌&&◌, ◌||◌, ◌==◌, not, List, []}
use Rattle.std.proofs.Common.{◌∷◌}
use Rattle.std.proofs.Common.{length, filter, ltb, refl, sym, ap, ◌∙◌, subst, inl, inr}
use Rattle.std.proofs.lemmas.Bool.{and_parts, or_cases, ltb-true, eq-eqb, eqb-true}
use Rattle.std.proofs.Math.Bool.{or-false, or-true, and-false, and-true}
use Rattle.league_core.specs.declared.club_set.ClubSet.{ClubSet}
use Rattle.league_core.specs.declared.zone.Literal.{Literal}
use Rattle.league_core.specs.game.ClubSets.{clubs_in}
use Rattle.league_core.specs.game.Sums.{has_club}
use Rattle.league_core.specs.search.Zones.{others_of}
use Rattle.league_core.proofs.ClubSetLemmas.{clubs_below-filter}
use Rattle.league_core.proofs.plain.Numbers.{eqb-swap}
use Rattle.near_laws.specs.Fits.{is_surely_on}
use Rattle.near_bound.specs.declared.groups.Groups.{Groups}
use Rattle.near_bound.specs.declared.tie.Tie.{Tie}
use Rattle.near_bound.specs.declared.lead_table.LeadTable.{LeadTable}
use Rattle.near_bound.specs.inside.Ties.{IsTieIn}
use Rattle.near_bound.specs.inside.GroupsLeft.{AreRivals, AreAmong, IsLeadTableOf, IsLeadTable}
use Rattle.near_bound.specs.inside.AbleRivals.{AreAbleRivals, AreHeldRivals, is_able_in}
use Rattle.near_bound.specs.inside.AbleRivals.{lacks_fit}
use Rattle.near_bound.specs.inside.Levels.{AreAbleClubs, AreSurelyOn, AreApart}
use Rattle.near_bound.proofs.AbleRivalLemmas.{rivals_list}

-- the able rivals are the able clubs among all others
pub able_rivals_are : (tie : Tie) (able others single rivals : ClubSet) (clubs club : ℕ)
    → clubs ≡ length tie.left.now.sheet.now.clubs → clubs ≤ 32
    → clubs_in single ≡ club ∷ []
    → ((x : ℕ) → has_club (clubs_in others) x
    ≡ (ltb x clubs && not (has_club (clubs_in single) x)))
    → ((x : ℕ) → has_club (clubs_in rivals) x
    ≡ (has_club (clubs_in able) x && has_club (clubs_in others) x))
    → AreAbleClubs tie able → AreAbleRivals tie rivals club
able_rivals_are tie able others single rivals clubs club many few one other_is is are zone in_zone =
    clubs_below-filter 32 rivals.bits others.bits (is_able_in tie zone)
    (λ x. is x
    ∙ (λ i. are zone in_zone x i && other_is x i)
    ∙ ap (λ n. (ltb x n && is_able_in tie zone x)
    && (ltb x clubs && not (has_club (clubs_in single) x))) (sym many)
    ∙ moved (ltb x clubs) (is_able_in tie zone x) (not (has_club (clubs_in single) x))
    ∙ ap (λ b. b && is_able_in tie zone x) (sym (other_is x)))
    ∙ ap (filter (is_able_in tie zone))
    (rivals_list others single clubs club few one other_is
    ∙ ap (λ n. others_of n club) many)
  where
    moved : (a b c : Bool) → ((a && b) && (a && c)) ≡ ((a && c) && b)
    moved false b c = refl
    moved true false c = sym (and-false c)
    moved true true c = sym (and-true c)

-- they are clubs of the sheet, and not the club
pub are_rivals : (tie : Tie) (able others single rivals : ClubSet) (clubs club : ℕ)
    → clubs ≡ length tie.left.now.sheet.now.clubs
    → club < length tie.left.now.sheet.now.clubs
    → clubs_in single ≡ club ∷ []
    → ((x : ℕ) → has_club (clubs_in others) x
    ≡ (ltb x clubs && not (has_club (clubs_in single) x)))
    → ((x : ℕ) → has_club (clubs_in rivals) x
    ≡ (has_club (clubs_in able) x && has_club (clubs_in others) x))
    → AreRivals tie rivals club
are_rivals tie able others single rivals clubs club many inside one other_is is = record {
  club_in = inside;
  of_sheet = λ x has.
      let there = (and_parts (has_club (clubs_in able) x) (has_club (clubs_in others) x)
      (sym (is x) ∙ has)).1 in
      let below = (and_parts (ltb x clubs) (not (has_club (clubs_in single) x))
      (sym (other_is x) ∙ there)).0 in
      subst (λ (n : ℕ). x < n) many (ltb-true x clubs below);
  not_club =
      is club
      ∙ ap (λ b. has_club (clubs_in able) club && b)
      (other_is club
      ∙ ap (λ (xs : List ℕ). ltb club clubs && not (has_club xs club)) one
      ∙ ap (λ b. ltb club clubs && not (b || false)) (itself club)
      ∙ and-false (ltb club clubs))
      ∙ and-false (has_club (clubs_in able) club);
}
  where
    itself : (x : ℕ) → (x == x) ≡ true
    itself x = eq-eqb x x refl

-- the rival with those that are surely on the points
pub held_are : (tie : Tie) (rivals core held : ClubSet) (rival : ℕ) → AreSurelyOn tie rivals core
    → ((x : ℕ) → has_club (clubs_in held) x
    ≡ (has_club (clubs_in core) x || (has_club (clubs_in rivals) rival && (rival == x))))
    → AreHeldRivals tie rivals rival held
held_are tie rivals core held rival on is zone in_zone x =
    is x
    ∙ ap (λ b. b || (has_club (clubs_in rivals) rival && (rival == x))) (on zone in_zone x)
    ∙ by_same (rival == x) refl
    ∙ ap (λ b. has_club (clubs_in rivals) x && (b || surely)) (eqb-swap rival x)
  where
    surely : Bool
    surely = is_surely_on tie.left.now.sheet.now tie.left.now.season.now zone tie.points x

    by_same : (b : Bool) → (rival == x) ≡ b
        → ((has_club (clubs_in rivals) x && surely) || (has_club (clubs_in rivals) rival && b))
        ≡ (has_club (clubs_in rivals) x && (b || surely))
    by_same true same =
        ap (λ n. (has_club (clubs_in rivals) x && surely)
        || (has_club (clubs_in rivals) n && true)) (eqb-true rival x same)
        ∙ both (has_club (clubs_in rivals) x) surely
      where
        both : (a b : Bool) → ((a && b) || (a && true)) ≡ (a && true)
        both false b = refl
        both true b = or-true b
    by_same false same =
        ap (λ b. (has_club (clubs_in rivals) x && surely) || b)
        (and-false (has_club (clubs_in rivals) rival))
        ∙ or-false (has_club (clubs_in rivals) x && surely)

pub held_in : (rivals core held : ClubSet) (rival : ℕ) → AreAmong core rivals
    → ((x : ℕ) → has_club (clubs_in held) x
    ≡ (has_club (clubs_in core) x || (has_club (clubs_in rivals) rival && (rival == x))))
    → AreAmong held rivals
held_in rivals core held rival among is x has =
    elim (or_cases (has_club (clubs_in core) x)
    (has_club (clubs_in rivals) rival && (rival == x)) (sym (is x) ∙ has)) as
    (λ _. has_club (clubs_in rivals) x ≡ true) [
      | inl old ↦ among x old
      | inr new ↦
          let parts = and_parts (has_club (clubs_in rivals) rival) (rival == x) new in
          ap (has_club (clubs_in rivals)) (sym (eqb-true rival x parts.1)) ∙ parts.0
    ]

-- the held ones that cannot meet the club
pub apart_list : (tie : Tie) (rivals apart held found : ClubSet) (club : ℕ) (zone : List Literal)
    → AreApart tie rivals club apart → AreAmong held rivals
    → ((x : ℕ) → has_club (clubs_in found) x
    ≡ (has_club (clubs_in held) x && has_club (clubs_in apart) x))
    → IsTieIn tie zone → is_able_in tie zone club ≡ true
    → clubs_in found ≡ filter (lacks_fit tie zone club) (clubs_in held)
apart_list tie rivals apart held found club zone are among is in_zone own =
    clubs_below-filter 32 found.bits held.bits (lacks_fit tie zone club)
    (λ x. is x
    ∙ ap (λ b. has_club (clubs_in held) x && b) (are zone in_zone own x)
    ∙ within (has_club (clubs_in held) x) (has_club (clubs_in rivals) x)
    (lacks_fit tie zone club x) (among x))
  where
    within : (a b c : Bool) → (a ≡ true → b ≡ true) → (a && (b && c)) ≡ (a && c)
    within false b c so = refl
    within true b c so = ap (λ x. x && c) (so refl)

-- a table of a level is one of its groups, and the other way round
pub to_groups : (groups : Groups) (tie : Tie) (club : ℕ) (able : ClubSet) (table : LeadTable)
    → groups.tie.now ≡ tie → groups.club ≡ club → groups.able ≡ able
    → IsLeadTableOf tie able club table → IsLeadTable groups table
to_groups groups tie club able table tie_is club_is able_is is =
    subst (λ (t : Tie). IsLeadTableOf t groups.able groups.club table) (sym tie_is)
    (subst (λ (a : ClubSet). IsLeadTableOf tie a groups.club table) (sym able_is)
    (subst (λ (n : ℕ). IsLeadTableOf tie able n table) (sym club_is) is))

pub from_groups : (groups : Groups) (tie : Tie) (club : ℕ) (able : ClubSet) (table : LeadTable)
    → groups.tie.now ≡ tie → groups.club ≡ club → groups.able ≡ able
    → IsLeadTable groups table → IsLeadTableOf tie able club table
from_groups groups tie club able table tie_is club_is able_is is =
    subst (λ (t : Tie). IsLeadTableOf t able club table) tie_is
    (subst (λ (a : ClubSet). IsLeadTableOf groups.tie.now a club table) able_is
    (subst (λ (n : ℕ). IsLeadTableOf groups.tie.now groups.able n table) club_is is))
