-- Ends of the groups that show a side for a club: put together they are an example of it.
use Rattle.std.proofs.Common.{◌≡◌, ◌≤◌, inl, inr, ℕ, Bool, true, false, not, ◌&&◌, ◌||◌}
use Rattle.std.proofs.Common.{◌==◌, List, length, count_by, nat_le, nat_lt, Some, refl, sym, ap}
use Rattle.std.proofs.Common.{◌∙◌, subst, arith, slice_index_or}
use Rattle.std.specs.Prelude.{slice_get, All}
use Rattle.std.specs.List.{list_any}
use Rattle.std.proofs.lemmas.Bool.{false≢true, and_parts, and_from, cases_Bool}
use Rattle.std.proofs.lemmas.Bool.{eq-eqb, eqb-true, or_left, lt-ltb}
use Rattle.std.proofs.lemmas.Bool.Decides.{nat_tests}
use Rattle.league_core.specs.declared.sheet.Sheet.{Sheet}
use Rattle.league_core.specs.declared.question.Claim.{Claim}
use Rattle.league_core.specs.declared.question.Claim.TheVariants.{Inside, Outside}
use Rattle.league_core.specs.game.Results.{Results}
use Rattle.league_core.specs.game.Ranking.{place_of}
use Rattle.league_core.proofs.plain.Counts.{count_by-filter}
use Rattle.tree_arena.specs.declared.example.Example.{Example}
use Rattle.cup_sheet.specs.declared.cup.Cup.{Cup}
use Rattle.cup_sheet.specs.CupLimits.{direct_places}
use Rattle.cup_sheet.specs.Cups.{clubs_together}
use Rattle.cup_sheet.specs.JointFinishes.{GroupState, is_in_block, number_in_group}
use Rattle.cup_sheet.specs.JointFinishes.{states_of}
use Rattle.cup_sheet.specs.Qualifying.{has_better, other_groups}
use Rattle.cup_sheet.specs.Qualifying.{qualifies_in, qualifies_at}
use Rattle.cup_sheet.specs.CupAnswers.{qualifies_on}
use Rattle.cup_laws.proofs.GroupEndLemmas.{any_there, there_is, states_are_all, one_group}
use Rattle.cup_laws.proofs.GroupCountLemmas.{PassesAt, rising_counts, passes_counts, parts_counted}
use Rattle.runners_up.specs.inside.JointEnds.{group_finishes}
use Rattle.runners_up.specs.inside.JointEnds.{block_of, lots_from, is_drawn_early}
use Rattle.cup_groups.specs.GroupStarts.{clubs_before}
use Rattle.runners_up.specs.inside.JointEnds.{joint_lots, IsShownByKey, IsSideShown, JointEndsShow}
use Rattle.runners_up.proofs.LaidEndsLemmas.{state_with, ends_finish, lots_count, lots_have_all}
use Rattle.runners_up.proofs.LaidEndsLemmas.{end_drawn}
use Rattle.runners_up.proofs.JointLotsLemmas.{sides_are_lots}
use Rattle.runners_up.proofs.FarCandidateLemmas.{far_is_better, far_is_no_better}
use Rattle.runners_up.proofs.JointDrawnLemmas.{Given, Other, state_at_number, not_one_start}
use Rattle.runners_up.proofs.JointDrawnLemmas.{own_lots_within, other_lots_within, in_block}
use Rattle.runners_up.proofs.JointDrawnLemmas.{drawn_last, drawn_first}

-- ---- what a place says

-- below the candidate's place a club does not qualify
below_fails : (place : ℕ) (few : Bool) → nat_lt 2 place ≡ true
    → (nat_le place 1 || ((place == 2) && few)) ≡ false
below_fails place few below =
    let past : nat_le place 1 ≡ false = grind (arith, nat_tests, below) in
    let other : (place == 2) ≡ false = grind (arith, nat_tests, below) in
    (λ i. past i || (other i && few))

-- at the candidate's place it depends on how many are before it
second_depends : (place : ℕ) (few : Bool) → place ≡ 2
    → (nat_le place 1 || ((place == 2) && few)) ≡ few
second_depends place few at = (λ i. nat_le (at i) 1 || ((at i == 2) && few))

-- a group that begins elsewhere is another
pub starts_differ : (one other : ℕ) → (one ≡ other → ⊥) → not (one == other) ≡ true
starts_differ one other differ =
    elim (cases_Bool (one == other)) as (λ _. not (one == other) ≡ true) [
      | inl same ↦ absurd (differ (eqb-true one other same))
      | inr is ↦ ap not is
    ]

-- as many as the bound are not fewer
not_fewer : (count bound : ℕ) → bound ≤ count → nat_lt count bound ≡ false
not_fewer count bound most = grind (arith, nat_tests, most)

-- ---- the club in its group

-- for missing so many candidates are before it
own_misses : (cup : Cup) (seasons : List Results) (ends : List Example) (club mine own : ℕ)
    (sheet : Sheet) (end : Example) → Given cup seasons ends club mine own sheet end
    → IsShownByKey cup ends Outside mine own sheet end
    → nat_lt (count_by (has_better direct_places
    (joint_lots Outside (block_of cup.groups mine sheet) ends)
    (state_with (clubs_before cup.groups mine) sheet end) own)
    (other_groups (state_with (clubs_before cup.groups mine) sheet end)
    (states_of cup (group_finishes ends)))) cup.quota ≡ false
own_misses cup seasons ends club mine own sheet end given shown =
    let lots = joint_lots Outside (block_of cup.groups mine sheet) ends in
    let self = state_with (clubs_before cup.groups mine) sheet end in
    let states = states_of cup (group_finishes ends) in
    let better : GroupState → Bool = has_better direct_places lots self own in
    let kept : GroupState → Bool = λ group. not (group.block.first == self.block.first) in
    let ahead : All (PassesAt (λ group. kept group && better group) states) shown.shown =
    λ i d below.
    let number = slice_index_or shown.shown i d in
    let one = shown.others i d below in
    let other : Other cup ends mine number one.0 one.1 = record {
      there = one.2;
      ends_there = one.3;
      differ = one.4;
    } in
    let first = clubs_before cup.groups number in
    let group = state_with first one.0 one.1 in (
      group,
      state_at_number cup ends number one.0 one.1 one.2 one.3,
      and_from (kept group) (better group)
          (starts_differ first self.block.first
          (λ same. not_one_start cup number mine one.0 sheet given.is_cup one.2 given.at.there one.4
          same))
          (far_is_better lots self own first one.0 one.1
          (other_lots_within cup seasons ends Outside club mine own sheet end given number one.0
          one.1 other) one.5
          (λ x inside. drawn_last cup seasons ends club mine own sheet end given number one.0 one.1
          other x inside)),
    ) in
    not_fewer (count_by better (other_groups self states)) cup.quota (omega (
      arith,
      shown.count,
      rising_counts (λ group. kept group && better group) states shown.shown shown.rising ahead,
      count_by-filter kept better states,
    ))

-- for qualifying so many are not
own_enters : (cup : Cup) (seasons : List Results) (ends : List Example) (club mine own : ℕ)
    (sheet : Sheet) (end : Example) → Given cup seasons ends club mine own sheet end
    → IsShownByKey cup ends Inside mine own sheet end
    → nat_lt (count_by (has_better direct_places
    (joint_lots Inside (block_of cup.groups mine sheet) ends)
    (state_with (clubs_before cup.groups mine) sheet end) own)
    (other_groups (state_with (clubs_before cup.groups mine) sheet end)
    (states_of cup (group_finishes ends)))) cup.quota ≡ true
own_enters cup seasons ends club mine own sheet end given shown =
    let lots = joint_lots Inside (block_of cup.groups mine sheet) ends in
    let self = state_with (clubs_before cup.groups mine) sheet end in
    let states = states_of cup (group_finishes ends) in
    let better : GroupState → Bool = has_better direct_places lots self own in
    let taken : GroupState → Bool = λ group. group.block.first == self.block.first in
    let behind : All (PassesAt (λ group. not (taken group) && not (better group)) states)
    shown.shown =
    λ i d below.
    let number = slice_index_or shown.shown i d in
    let one = shown.others i d below in
    let other : Other cup ends mine number one.0 one.1 = record {
      there = one.2;
      ends_there = one.3;
      differ = one.4;
    } in
    let first = clubs_before cup.groups number in
    let group = state_with first one.0 one.1 in (
      group,
      state_at_number cup ends number one.0 one.1 one.2 one.3,
      and_from (not (taken group)) (not (better group))
          (starts_differ first self.block.first
          (λ same. not_one_start cup number mine one.0 sheet given.is_cup one.2 given.at.there one.4
          same))
          (ap not (far_is_no_better lots self own first one.0 one.1
          (end_drawn cup.groups seasons ends given.each number one.0 one.1 one.2 one.3)
          (other_lots_within cup seasons ends Inside club mine own sheet end given number one.0
          one.1 other) one.5
          (λ x inside. drawn_first cup seasons ends club mine own sheet end given number one.0 one.1
          other x inside))),
    ) in
    lt-ltb (count_by better (other_groups self states)) cup.quota (omega (
      arith,
      shown.count,
      given.is_cup.most_quota,
      states_are_all 0 cup.groups seasons (group_finishes ends)
          (ends_finish cup.groups seasons ends given.each),
      rising_counts (λ group. not (taken group) && not (better group)) states shown.shown
          shown.rising behind,
      passes_counts taken states mine self
          (state_at_number cup ends mine sheet end given.at.there given.ends_at)
          (eq-eqb self.block.first self.block.first refl),
      parts_counted taken better states,
    ))

-- in its group it is on the side
own_side : (cup : Cup) (seasons : List Results) (ends : List Example) (claim : Claim)
    (club mine own : ℕ) (sheet : Sheet) (end : Example)
    → Given cup seasons ends club mine own sheet end
    → IsSideShown cup ends claim mine own sheet end
    → qualifies_in direct_places cup.quota
    (joint_lots claim (block_of cup.groups mine sheet) ends) (states_of cup (group_finishes ends))
    (state_with (clubs_before cup.groups mine) sheet end) own ≡ qualifies_on claim
own_side cup seasons ends claim club mine own sheet end given shown =
    ap (λ (drawn : List ℕ). nat_le (place_of sheet end.finish drawn own) 1
    || ((place_of sheet end.finish drawn own == 2) && few claim))
    (own_lots_within cup seasons ends claim club mine own sheet end given)
    ∙ by claim shown
  where
    few : Claim → Bool
    few claim = nat_lt (count_by (has_better direct_places
        (joint_lots claim (block_of cup.groups mine sheet) ends)
        (state_with (clubs_before cup.groups mine) sheet end) own)
        (other_groups (state_with (clubs_before cup.groups mine) sheet end)
        (states_of cup (group_finishes ends)))) cup.quota

    by : (claim : Claim) → IsSideShown cup ends claim mine own sheet end
        → (nat_le (place_of sheet end.finish end.lots own) 1
        || ((place_of sheet end.finish end.lots own == 2) && few claim)) ≡ qualifies_on claim
    by Outside (inl place) =
        below_fails (place_of sheet end.finish end.lots own) (few Outside)
        (and_parts (nat_lt 2 (place_of sheet end.finish end.lots own)) true place).0
    by Outside (inr key) =
        second_depends (place_of sheet end.finish end.lots own) (few Outside) key.candidate
        ∙ own_misses cup seasons ends club mine own sheet end given key
    by Inside (inl place) =
        or_left (nat_le (place_of sheet end.finish end.lots own) 1)
        ((place_of sheet end.finish end.lots own == 2) && few Inside)
        (and_parts (nat_le (place_of sheet end.finish end.lots own) 1) true place).0
    by Inside (inr key) =
        second_depends (place_of sheet end.finish end.lots own) (few Inside) key.candidate
        ∙ own_enters cup seasons ends club mine own sheet end given key

-- ---- the club in the cup

-- what the club comes to in its own group it comes to in the cup
cup_side : (cup : Cup) (seasons : List Results) (ends : List Example) (club mine own : ℕ)
    (sheet : Sheet) (end : Example) (lots : List ℕ) (answer : Bool)
    → Given cup seasons ends club mine own sheet end
    → qualifies_in direct_places cup.quota lots (states_of cup (group_finishes ends))
    (state_with (clubs_before cup.groups mine) sheet end) own ≡ answer
    → qualifies_at cup (group_finishes ends) lots club ≡ answer
cup_side cup seasons ends club mine own sheet end lots answer given is = by answer is
  where
    states : List GroupState
    states = states_of cup (group_finishes ends)

    self : GroupState
    self = state_with (clubs_before cup.groups mine) sheet end

    passes : GroupState → Bool
    passes group = is_in_block group.block club
        && qualifies_in direct_places cup.quota lots states group
        (number_in_group group.block club)

    there : slice_get states mine ≡ Some self
    there = state_at_number cup ends mine sheet end given.at.there given.ends_at

    inside : is_in_block self.block club ≡ true
    inside = ap (is_in_block self.block) given.at.number
        ∙ in_block (clubs_before cup.groups mine) (length sheet.clubs) own given.at.inside

    number : number_in_group self.block club ≡ own
    number = omega (arith, given.at.number)

    by : (answer : Bool)
        → qualifies_in direct_places cup.quota lots states self own ≡ answer
        → qualifies_at cup (group_finishes ends) lots club ≡ answer
    by true is =
        any_there passes states mine self there
        (and_from (is_in_block self.block club)
        (qualifies_in direct_places cup.quota lots states self (number_in_group self.block club))
        inside (ap (qualifies_in direct_places cup.quota lots states self) number ∙ is))
    by false is =
        elim (cases_Bool (list_any passes states)) as
        (λ _. qualifies_at cup (group_finishes ends) lots club ≡ false) [
          | inl some ↦ let found = there_is passes states some in
              let group = found.1 in
              let both = and_parts (is_in_block group.block club)
              (qualifies_in direct_places cup.quota lots states group
              (number_in_group group.block club)) found.3 in
              let same : group ≡ self = one_group 0 club cup.groups (group_finishes ends) found.0
              mine group self found.2 there both.0 inside in
              let one : qualifies_in direct_places cup.quota lots states self
              (number_in_group self.block club) ≡ true =
              subst (λ it. qualifies_in direct_places cup.quota lots states it
              (number_in_group it.block club) ≡ true) same both.1 in
              absurd (false≢true (sym is
              ∙ ap (qualifies_in direct_places cup.quota lots states self) (sym number) ∙ one))
          | inr none ↦ none
        ]

pub ends_show : JointEndsShow
ends_show cup seasons ends claim club mine own sheet end is_cup each at ends_at shown =
    let given : Given cup seasons ends club mine own sheet end = record {
      is_cup = is_cup;
      each = each;
      at = at;
      ends_at = ends_at;
    } in
    let block = block_of cup.groups mine sheet in
    record {
      joint = record {
        each = ends_finish cup.groups seasons ends each;
        drawn = sides_are_lots (is_drawn_early claim block) (clubs_together cup.groups)
            (lots_from 0 ends) (lots_count 0 cup.groups seasons ends each)
            (λ it inside. lots_have_all 0 cup.groups seasons ends each it (omega arith)
            (omega (arith, inside)));
      };
      on_side = cup_side cup seasons ends club mine own sheet end (joint_lots claim block ends)
          (qualifies_on claim) given
          (own_side cup seasons ends claim club mine own sheet end given shown);
    }
