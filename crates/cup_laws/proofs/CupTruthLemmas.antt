-- What an answer for a cup shows holds at every joint finish: the club's own group and the listed
-- ones leave too few candidates before it, or too many.
use Rattle.std.proofs.Common.{◌≡◌, ◌<◌, inl, inr, ℕ, ◌+◌, ℤ, Bool, true, false}
use Rattle.std.proofs.Common.{not, ◌&&◌, ◌==◌, List, [], length, count_by, nat_le}
use Rattle.std.proofs.Common.{nat_lt, Some, refl, sym, ap, ◌∙◌, subst, arith, slice_index_or}
use Rattle.std.specs.Prelude.{slice_get, All}
use Rattle.std.specs.List.{list_any}
use Rattle.std.proofs.lemmas.Bool.{and_parts, and_from, or_cases, cases_Bool, eq-eqb}
use Rattle.std.proofs.lemmas.Bool.{ltb-true, ltb-false, lt-ltb, le-leb}
use Rattle.league_core.specs.declared.question.Claim.TheVariants.{Inside, Outside}
use Rattle.league_core.specs.game.Results.{Results}
use Rattle.league_core.specs.game.Ranking.{are_lots}
use Rattle.league_core.specs.search.Keys.{key_of, is_key_from}
use Rattle.league_core.proofs.plain.Counts.{count_by-filter}
use Rattle.cup_sheet.specs.declared.cup.Cup.{Cup}
use Rattle.cup_sheet.specs.declared.question.GroupKind.TheVariants.{Top, Below, SecondLess}
use Rattle.cup_sheet.specs.declared.question.GroupKind.TheVariants.{SecondMore}
use Rattle.cup_sheet.specs.CupLimits.{direct_places}
use Rattle.cup_sheet.specs.Cups.{IsCup, clubs_together}
use Rattle.cup_sheet.specs.JointFinishes.{GroupState, is_in_block, number_in_group}
use Rattle.cup_sheet.specs.JointFinishes.{states_of, IsJointFinish}
use Rattle.cup_sheet.specs.Qualifying.{place_in_group, is_candidate, has_better}
use Rattle.cup_sheet.specs.Qualifying.{other_groups, qualifies_in, qualifies_at}
use Rattle.cup_sheet.specs.CupAnswers.{IsCupRefuted}
use Rattle.cup_laws.specs.inside.CupTruths.{AreCupResults, ClinchedIsTrueInCup, LostIsTrueInCup}
use Rattle.cup_laws.proofs.GroupTruthLemmas.{neither_side}
use Rattle.cup_laws.proofs.GroupEndLemmas.{get_there, any_there, there_is, ended, IsEndOf}
use Rattle.cup_laws.proofs.GroupEndLemmas.{EndsAt, state_at, states_are_all, one_group}
use Rattle.cup_laws.proofs.GroupCountLemmas.{PassesAt, rising_counts, passes_counts, parts_counted}
use Rattle.cup_laws.proofs.CandidateLemmas.{not_at_end, candidate_else, after_true, none_better}
use Rattle.cup_laws.proofs.CandidateLemmas.{some_better}

-- the groups as they end
abbrev pub HaveEnds : Cup → List Results → List Results → Type 0
HaveEnds cup seasons finishes =
    (k : ℕ) (group : GroupState) → slice_get (states_of cup seasons) k ≡ Some group
    → EndsAt (clubs_together cup.groups) 0 cup.groups finishes k group

pub have_ends : (cup : Cup) (seasons finishes : List Results) (lots : List ℕ) → IsCup cup
    → AreCupResults seasons → IsJointFinish cup seasons finishes lots
    → HaveEnds cup seasons finishes
have_ends cup seasons finishes lots is_cup results joint k group there =
    state_at is_cup.groups.0 is_cup.groups.1 (clubs_together cup.groups) 0 cup.groups seasons
    finishes (record { are_groups = is_cup.groups.2; have_results = results }) joint.each
    (omega arith) k group there

-- the club is in the block of its group, and has its number there
pub in_own_block : (clubs : ℕ) (group : GroupState) (finish : Results) (club own : ℕ)
    → IsEndOf clubs group finish → own < length group.sheet.clubs
    → club ≡ group.block.first + own
    → (is_in_block group.block club ≡ true) × (number_in_group group.block club ≡ own)
in_own_block clubs group finish club own end inside number =
    let width = end.count in (
      and_from (nat_le group.block.first club)
          (nat_lt club (group.block.first + group.block.count))
          (le-leb group.block.first club (omega (arith, number)))
          (lt-ltb club (group.block.first + group.block.count)
          (omega (arith, number, inside, width))),
      omega (arith, number),
    )

-- the club qualifies in its group
own_qualifies : (cup : Cup) (seasons finishes : List Results) (lots : List ℕ) (club : ℕ)
    (key : List ℤ) (listed : List ℕ) (refuted : IsCupRefuted cup seasons Outside club key listed)
    → HaveEnds cup seasons finishes
    → length (states_of cup finishes) ≡ length cup.groups → cup.quota < length cup.groups
    → are_lots (clubs_together cup.groups) lots ≡ true → (k : ℕ) (finish : Results)
    → slice_get (states_of cup finishes) k ≡ Some (ended refuted.mine finish)
    → IsEndOf (clubs_together cup.groups) refuted.mine finish
    → qualifies_in direct_places cup.quota lots (states_of cup finishes)
    (ended refuted.mine finish) refuted.own ≡ true
own_qualifies cup seasons finishes lots club key listed refuted ends many few drawn k finish there
    end =
    let clubs = clubs_together cup.groups in
    let mine = refuted.mine in
    let own = refuted.own in
    let inside = refuted.of_club.own_club in
    let states = states_of cup finishes in
    let self = ended mine finish in
    let place = place_in_group lots self own in
    let own_key = key_of mine.sheet finish own in
    let better : GroupState → Bool = has_better direct_places lots self own in
    let taken : GroupState → Bool = λ group. group.block.first == self.block.first in
    let front = count_by better (other_groups self states) in
    elim (cases_Bool (qualifies_in direct_places cup.quota lots states self own)) as
    (λ _. qualifies_in direct_places cup.quota lots states self own ≡ true) [
      | inl is ↦ is
      | inr fails ↦ let parts = neither_side (nat_le place 1)
          (is_candidate direct_places lots self own && nat_lt front cup.quota) fails in
          let past : nat_lt 2 place ≡ false = elim (cases_Bool (nat_lt 2 place)) as
          (λ _. nat_lt 2 place ≡ false) [
            | inl below ↦ absurd (not_at_end clubs mine finish lots
                (record { kind = Below; club = own; key = [] }) end drawn inside refuted.place
                (and_from (nat_lt 2 place) true below refl))
            | inr other ↦ other
          ] in
          let second = candidate_else place parts.0 past in
          let own_from : is_key_from key own_key ≡ true =
          elim (cases_Bool (is_key_from key own_key)) as (λ _. is_key_from key own_key ≡ true) [
            | inl is ↦ is
            | inr other ↦ absurd (not_at_end clubs mine finish lots
                (record { kind = SecondLess; club = own; key = key }) end drawn inside
                refuted.nearer
                (and_from (place == 2) (not (is_key_from key own_key)) second (ap not other)))
          ] in
          let behind : All (PassesAt (λ group. not (taken group) && not (better group)) states)
          listed = λ i d below.
          let shown = refuted.others i d below in
          let at = ends (slice_index_or listed i d) shown.0 shown.1 in (
            ended shown.0 at.0,
            at.1,
            and_from (not (taken shown.0)) (not (better (ended shown.0 at.0))) shown.2
                (ap not (none_better clubs shown.0 at.0 lots self own key at.2 drawn shown.3
                own_from)),
          ) in
          absurd (omega (
            arith,
            many,
            few,
            refuted.count,
            rising_counts (λ group. not (taken group) && not (better group)) states listed
                refuted.rising behind,
            passes_counts taken states k self there
                (eq-eqb self.block.first self.block.first refl),
            parts_counted taken better states,
            ltb-false front cup.quota
                (after_true (place == 2) (nat_lt front cup.quota) second parts.1),
          ))
    ]

pub clinched_is_true : ClinchedIsTrueInCup
clinched_is_true cup seasons club key listed is_cup results refuted finishes lots joint =
    let clubs = clubs_together cup.groups in
    let mine = refuted.mine in
    let states = states_of cup finishes in
    let ends = have_ends cup seasons finishes lots is_cup results joint in
    let at = refuted.of_club.group_of in
    let end = ends at.0 mine (get_there (states_of cup seasons) at.0 mine at.1 ∙ ap Some at.2) in
    let self = ended mine end.0 in
    let own = in_own_block clubs mine end.0 club refuted.own end.2 refuted.of_club.own_club
    refuted.of_club.number in
    let qualifies = own_qualifies cup seasons finishes lots club key listed refuted ends
    (states_are_all 0 cup.groups seasons finishes joint.each) is_cup.most_quota joint.drawn at.0
    end.0 end.1 end.2 in
    any_there
    (λ group. is_in_block group.block club
    && qualifies_in direct_places cup.quota lots states group (number_in_group group.block club))
    states at.0 self end.1
    (and_from (is_in_block mine.block club)
    (qualifies_in direct_places cup.quota lots states self (number_in_group mine.block club)) own.0
    (ap (qualifies_in direct_places cup.quota lots states self) own.1 ∙ qualifies))

-- the club does not qualify in its group
own_fails : (cup : Cup) (seasons finishes : List Results) (lots : List ℕ) (club : ℕ)
    (key : List ℤ) (listed : List ℕ) (refuted : IsCupRefuted cup seasons Inside club key listed)
    → HaveEnds cup seasons finishes → are_lots (clubs_together cup.groups) lots ≡ true
    → (finish : Results) → IsEndOf (clubs_together cup.groups) refuted.mine finish
    → qualifies_in direct_places cup.quota lots (states_of cup finishes)
    (ended refuted.mine finish) refuted.own ≡ true → ⊥
own_fails cup seasons finishes lots club key listed refuted ends drawn finish end qualifies =
    let clubs = clubs_together cup.groups in
    let mine = refuted.mine in
    let own = refuted.own in
    let inside = refuted.of_club.own_club in
    let states = states_of cup finishes in
    let self = ended mine finish in
    let place = place_in_group lots self own in
    let own_key = key_of mine.sheet finish own in
    let better : GroupState → Bool = has_better direct_places lots self own in
    let kept : GroupState → Bool = λ group. not (group.block.first == self.block.first) in
    let front = count_by better (other_groups self states) in
    elim (or_cases (nat_le place 1)
    (is_candidate direct_places lots self own && nat_lt front cup.quota) qualifies) as (λ _. ⊥) [
      | inl direct ↦ not_at_end clubs mine finish lots
          (record { kind = Top; club = own; key = [] }) end drawn inside refuted.place
          (and_from (nat_le place 1) true direct refl)
      | inr candidate ↦ let both = and_parts (is_candidate direct_places lots self own)
          (nat_lt front cup.quota) candidate in
          let up_to : is_key_from own_key key ≡ true =
          elim (cases_Bool (is_key_from own_key key)) as (λ _. is_key_from own_key key ≡ true) [
            | inl is ↦ is
            | inr other ↦ absurd (not_at_end clubs mine finish lots
                (record { kind = SecondMore; club = own; key = key }) end drawn inside
                refuted.nearer
                (and_from (place == 2) (not (is_key_from own_key key)) both.0 (ap not other)))
          ] in
          let ahead : All (PassesAt (λ group. kept group && better group) states) listed =
          λ i d below.
          let shown = refuted.others i d below in
          let at = ends (slice_index_or listed i d) shown.0 shown.1 in (
            ended shown.0 at.0,
            at.1,
            and_from (kept shown.0) (better (ended shown.0 at.0)) shown.2
                (some_better clubs shown.0 at.0 lots self own key at.2 drawn shown.3 up_to),
          ) in
          omega (
            arith,
            refuted.count,
            rising_counts (λ group. kept group && better group) states listed refuted.rising ahead,
            count_by-filter kept better states,
            ltb-true front cup.quota both.1,
          )
    ]

pub lost_is_true : LostIsTrueInCup
lost_is_true cup seasons club key listed is_cup results refuted finishes lots joint =
    let clubs = clubs_together cup.groups in
    let mine = refuted.mine in
    let states = states_of cup finishes in
    let ends = have_ends cup seasons finishes lots is_cup results joint in
    let at = refuted.of_club.group_of in
    let end = ends at.0 mine (get_there (states_of cup seasons) at.0 mine at.1 ∙ ap Some at.2) in
    let self = ended mine end.0 in
    let own = in_own_block clubs mine end.0 club refuted.own end.2 refuted.of_club.own_club
    refuted.of_club.number in
    let passes : GroupState → Bool = λ group. is_in_block group.block club
    && qualifies_in direct_places cup.quota lots states group (number_in_group group.block club) in
    elim (cases_Bool (list_any passes states)) as (λ _. qualifies_at cup finishes lots club
    ≡ false) [
      | inl some ↦ let found = there_is passes states some in
          let group = found.1 in
          let both = and_parts (is_in_block group.block club)
          (qualifies_in direct_places cup.quota lots states group
          (number_in_group group.block club)) found.3 in
          let same : group ≡ self = one_group 0 club cup.groups finishes found.0 at.0 group self
          found.2 end.1 both.0 own.0 in
          let qualifies = subst (λ it. qualifies_in direct_places cup.quota lots states it
          (number_in_group it.block club) ≡ true) same both.1 in
          absurd (own_fails cup seasons finishes lots club key listed refuted ends joint.drawn
          end.0 end.2
          (ap (qualifies_in direct_places cup.quota lots states self) (sym own.1) ∙ qualifies))
      | inr none ↦ none
    ]
