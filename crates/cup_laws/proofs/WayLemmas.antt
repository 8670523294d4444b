-- A club that is on a side at a joint finish is so by its own group and by candidates of others.
use Rattle.std.proofs.Common.{◌≡◌, inl, inr, ℕ, ◌-◌, Bool, true, false}
use Rattle.std.proofs.Common.{not, ◌&&◌, ◌==◌, List, [], length, count_by}
use Rattle.std.proofs.Common.{nat_le, nat_lt, Some, refl, sym, ap, ◌∙◌, arith}
use Rattle.std.specs.Prelude.{slice_get}
use Rattle.std.specs.List.{list_any}
use Rattle.std.proofs.lemmas.Bool.{false≢true, and_parts, and_from, or_cases, cases_Bool}
use Rattle.std.proofs.lemmas.Bool.{ltb-true, ltb-false}
use Rattle.league_core.specs.declared.question.Claim.{Claim}
use Rattle.league_core.specs.declared.question.Claim.TheVariants.{Inside, Outside}
use Rattle.league_core.specs.game.Results.{Results}
use Rattle.league_core.specs.search.Keys.{key_of, is_key_from}
use Rattle.league_core.proofs.plain.Counts.{count_by-filter}
use Rattle.club_keys.proofs.KeyOrderLemmas.{from_itself}
use Rattle.cup_sheet.specs.declared.cup.Cup.{Cup}
use Rattle.cup_sheet.specs.declared.question.GroupKind.TheVariants.{Top, Below, SecondAtLeast}
use Rattle.cup_sheet.specs.declared.question.GroupKind.TheVariants.{SecondAtMost}
use Rattle.cup_sheet.specs.CupLimits.{direct_places}
use Rattle.cup_sheet.specs.Cups.{IsCup, clubs_together}
use Rattle.cup_sheet.specs.JointFinishes.{GroupState, is_in_block, number_in_group}
use Rattle.cup_sheet.specs.JointFinishes.{states_of}
use Rattle.cup_sheet.specs.JointFinishes.{IsJointFinish}
use Rattle.cup_sheet.specs.Qualifying.{place_in_group, is_candidate, has_better}
use Rattle.cup_sheet.specs.Qualifying.{other_groups, qualifies_in, qualifies_at}
use Rattle.cup_sheet.specs.CupAnswers.{IsClubOf}
use Rattle.cup_laws.specs.inside.CupTruths.{AreCupResults}
use Rattle.cup_laws.specs.inside.GroupWays.{CanBeOnSide}
use Rattle.cup_laws.specs.inside.GroupWays.{SidesAreByGroups}
use Rattle.cup_laws.proofs.GroupTruthLemmas.{neither_side}
use Rattle.cup_laws.proofs.GroupEndLemmas.{get_there, any_there, there_is, ended, IsEndOf}
use Rattle.cup_laws.proofs.GroupEndLemmas.{states_are_all, one_group}
use Rattle.cup_laws.proofs.GroupCountLemmas.{places_counted, left_counted}
use Rattle.cup_laws.proofs.CandidateLemmas.{after_true}
use Rattle.cup_laws.proofs.CupTruthLemmas.{have_ends, in_own_block}
use Rattle.cup_laws.proofs.CandidateLemmas.{candidate_else}
use Rattle.cup_laws.proofs.SideLemmas.{shown_at_end, one_begins}
use Rattle.cup_laws.proofs.OtherGroupLemmas.{better_shown, worse_shown, candidates_at}

-- what is known of the club's own group
pub own_side : (cup : Cup) (seasons : List Results) (claim : Claim) (club : ℕ) (mine : GroupState)
    (own : ℕ) → IsCup cup → AreCupResults seasons → IsClubOf cup seasons club mine own
    → (finishes : List Results) (lots : List ℕ) → IsJointFinish cup seasons finishes lots
    → (answer : Bool) → qualifies_at cup finishes lots club ≡ answer
    → (finish : Results) × (k : ℕ)
    × (slice_get (states_of cup finishes) k ≡ Some (ended mine finish))
    × IsEndOf (clubs_together cup.groups) mine finish
    × (qualifies_in direct_places cup.quota lots (states_of cup finishes) (ended mine finish) own
    ≡ answer)
own_side cup seasons claim club mine own is_cup results of_club finishes lots joint answer is =
    let clubs = clubs_together cup.groups in
    let states = states_of cup finishes in
    let at = of_club.group_of in
    let end = have_ends cup seasons finishes lots is_cup results joint at.0 mine
    (get_there (states_of cup seasons) at.0 mine at.1 ∙ ap Some at.2) in
    let self = ended mine end.0 in
    let here = in_own_block clubs mine end.0 club own end.2 of_club.own_club of_club.number in
    let own_answer = qualifies_in direct_places cup.quota lots states self own in
    let passes : GroupState → Bool = λ group. is_in_block group.block club
    && qualifies_in direct_places cup.quota lots states group (number_in_group group.block club) in
    let by_number : passes self ≡ own_answer =
    ap (λ b. b && qualifies_in direct_places cup.quota lots states self
    (number_in_group mine.block club)) here.0
    ∙ ap (qualifies_in direct_places cup.quota lots states self) here.1 in
    let agrees : list_any passes states ≡ own_answer =
    elim (cases_Bool own_answer) as (λ _. list_any passes states ≡ own_answer) [
      | inl holds ↦ any_there passes states at.0 self end.1 (by_number ∙ holds) ∙ sym holds
      | inr fails ↦ elim (cases_Bool (list_any passes states)) as
          (λ _. list_any passes states ≡ own_answer) [
            | inl some ↦ let found = there_is passes states some in
                let both = and_parts (is_in_block found.1.block club)
                (qualifies_in direct_places cup.quota lots states found.1
                (number_in_group found.1.block club)) found.3 in
                let same = one_group 0 club cup.groups finishes found.0 at.0 found.1 self found.2
                end.1 both.0 here.0 in
                absurd (false≢true (sym fails ∙ sym by_number ∙ ap passes (sym same) ∙ found.3))
            | inr none ↦ none ∙ sym fails
          ]
    ] in
    (end.0, at.0, end.1, end.2, sym agrees ∙ is)

-- where a club misses, it can be below the candidate, or as many other groups as qualify can have a
-- candidate with as great a key
missing_by_groups : (cup : Cup) (seasons : List Results) (club : ℕ) (mine : GroupState) (own : ℕ)
    → IsCup cup → AreCupResults seasons → IsClubOf cup seasons club mine own
    → (finishes : List Results) (lots : List ℕ) → IsJointFinish cup seasons finishes lots
    → qualifies_at cup finishes lots club ≡ false → CanBeOnSide cup seasons Outside mine own
missing_by_groups cup seasons club mine own is_cup results of_club finishes lots joint misses =
    let clubs = clubs_together cup.groups in
    let states = states_of cup finishes in
    let known = own_side cup seasons Outside club mine own is_cup results of_club finishes lots
    joint false misses in
    let finish = known.0 in
    let end = known.3 in
    let self = ended mine finish in
    let place = place_in_group lots self own in
    let own_key = key_of mine.sheet finish own in
    let better : GroupState → Bool = has_better direct_places lots self own in
    let front = count_by better (other_groups self states) in
    let parts = neither_side (nat_le place 1)
    (is_candidate direct_places lots self own && nat_lt front cup.quota) known.4 in
    elim (cases_Bool (nat_lt 2 place)) as (λ _. CanBeOnSide cup seasons Outside mine own) [
      | inl below ↦ inl (shown_at_end clubs mine finish lots
          (record { kind = Below; club = own; key = [] }) end joint.drawn
          (and_from (nat_lt 2 place) true below refl))
      | inr reached ↦ let second = candidate_else place parts.0 reached in
          let enough = ltb-false front cup.quota
          (after_true (place == 2) (nat_lt front cup.quota) second parts.1) in
          let places = places_counted
          (λ group. not (group.block.first == self.block.first) && better group) states cup.quota
          (omega (
            arith,
            enough,
            count_by-filter (λ group. not (group.block.first == self.block.first)) better states,
          )) in
          inr (
            own_key,
            shown_at_end clubs mine finish lots
                (record { kind = SecondAtMost; club = own; key = own_key }) end joint.drawn
                (and_from (place == 2) (is_key_from own_key own_key) second (from_itself own_key)),
            places.0,
            places.1,
            places.2,
            candidates_at cup seasons finishes SecondAtLeast mine self own_key better places.0
                (have_ends cup seasons finishes lots is_cup results joint) joint.each refl
                (λ group other is holds. better_shown clubs group other lots self own is joint.drawn
                holds) places.3,
          )
    ]

-- where a club qualifies, it can be at a direct place, or as many other groups as do not qualify
-- can have a candidate with a key that is no greater
qualifying_by_groups : (cup : Cup) (seasons : List Results) (club : ℕ) (mine : GroupState)
    (own : ℕ) → IsCup cup → AreCupResults seasons → IsClubOf cup seasons club mine own
    → (finishes : List Results) (lots : List ℕ) → IsJointFinish cup seasons finishes lots
    → qualifies_at cup finishes lots club ≡ true → CanBeOnSide cup seasons Inside mine own
qualifying_by_groups cup seasons club mine own is_cup results of_club finishes lots joint is_in =
    let clubs = clubs_together cup.groups in
    let states = states_of cup finishes in
    let known = own_side cup seasons Inside club mine own is_cup results of_club finishes lots
    joint true is_in in
    let finish = known.0 in
    let end = known.3 in
    let self = ended mine finish in
    let place = place_in_group lots self own in
    let own_key = key_of mine.sheet finish own in
    let better : GroupState → Bool = has_better direct_places lots self own in
    let taken : GroupState → Bool = λ group. group.block.first == self.block.first in
    let front = count_by better (other_groups self states) in
    elim (or_cases (nat_le place 1)
    (is_candidate direct_places lots self own && nat_lt front cup.quota) known.4) as
    (λ _. CanBeOnSide cup seasons Inside mine own) [
      | inl direct ↦ inl (shown_at_end clubs mine finish lots
          (record { kind = Top; club = own; key = [] }) end joint.drawn
          (and_from (nat_le place 1) true direct refl))
      | inr candidate ↦ let both = and_parts (is_candidate direct_places lots self own)
          (nat_lt front cup.quota) candidate in
          let few = ltb-true front cup.quota both.1 in
          let places = places_counted (λ group. not (taken group) && not (better group)) states
          (length cup.groups - cup.quota)
          (omega (
            arith,
            few,
            left_counted taken better states,
            one_begins self.block.first 0 is_cup.groups.0 is_cup.groups.1 cup.groups finishes
                is_cup.groups.2,
            states_are_all 0 cup.groups seasons finishes joint.each,
          )) in
          inr (
            own_key,
            shown_at_end clubs mine finish lots
                (record { kind = SecondAtLeast; club = own; key = own_key }) end joint.drawn
                (and_from (place == 2) (is_key_from own_key own_key) both.0 (from_itself own_key)),
            places.0,
            places.1,
            places.2,
            candidates_at cup seasons finishes SecondAtMost mine self own_key
                (λ group. not (better group)) places.0
                (have_ends cup seasons finishes lots is_cup results joint) joint.each refl
                (λ group other is holds. worse_shown clubs group other lots self own is joint.drawn
                (turned (better (ended group other)) holds)) places.3,
          )
    ]
  where
    turned : (b : Bool) → not b ≡ true → b ≡ false
    turned true fails = sym fails
    turned false fails = refl

pub sides_by_groups : SidesAreByGroups
sides_by_groups cup seasons Outside club mine own is_cup results of_club can =
    missing_by_groups cup seasons club mine own is_cup results of_club can.0 can.1 can.2 can.3
sides_by_groups cup seasons Inside club mine own is_cup results of_club can =
    qualifying_by_groups cup seasons club mine own is_cup results of_club can.0 can.1 can.2 can.3
