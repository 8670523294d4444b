-- Candidates of one group as it ends: what a refuted question says of them, and whether one is
-- before a club of another group.
use Rattle.std.proofs.Common.{◌≡◌, ◌<◌, inl, inr, ℕ, ℤ, Bool, true, false}
use Rattle.std.proofs.Common.{not, ◌&&◌, ◌==◌, List, length, nat_le}
use Rattle.std.proofs.Common.{nat_lt, refl, sym, ap, ◌∙◌, subst, arith}
use Rattle.std.specs.List.{list_any}
use Rattle.std.specs.Ordering.{nat_cmp, ordering_then, is_lt, is_le}
use Rattle.std.specs.declared.cmp.Ordering.{Ordering}
use Rattle.std.specs.declared.cmp.Ordering.TheVariants.{Less, Equal, Greater}
use Rattle.std.proofs.lemmas.Bool.{false≢true, and_parts, and_from, cases_Bool, eq-eqb}
use Rattle.std.proofs.lemmas.Bool.Decides.{nat_tests}
use Rattle.league_core.specs.declared.question.Claim.TheVariants.{Inside, Outside}
use Rattle.league_core.specs.game.Results.{Results}
use Rattle.league_core.specs.game.Sheets.{clubs_of}
use Rattle.league_core.specs.game.HeadToHead.{by_first_difference}
use Rattle.league_core.specs.game.Ranking.{are_lots, lot_of, place_of}
use Rattle.league_core.specs.search.Keys.{key_of, is_key_from}
use Rattle.league_core.proofs.plain.Orderings.{first_decides}
use Rattle.club_keys.proofs.KeyOrderLemmas.{from_lesser, above_or_below}
use Rattle.cup_sheet.specs.declared.question.GroupKind.TheVariants.{SecondAtLeast}
use Rattle.cup_sheet.specs.declared.question.GroupKind.TheVariants.{SecondAtMost}
use Rattle.cup_sheet.specs.CupLimits.{direct_places}
use Rattle.cup_sheet.specs.JointFinishes.{GroupState, number_in_cup}
use Rattle.cup_sheet.specs.JointFinishes.{lots_within}
use Rattle.cup_sheet.specs.Qualifying.{place_in_group, is_candidate, is_before_across, has_better}
use Rattle.cup_sheet.specs.GroupQuestions.{GroupQuestion, holds_in_group}
use Rattle.cup_sheet.specs.CupAnswers.{IsRefutedInGroup, IsRefutedForAll}
use Rattle.cup_sheet.proofs.WithinLotsLemmas.{restricted_drawn}
use Rattle.cup_laws.proofs.GroupTruthLemmas.{group_refuted}
use Rattle.cup_laws.proofs.PlaceTakenLemmas.{some_in_range, any_in_range, place_taken}
use Rattle.cup_laws.proofs.GroupEndLemmas.{ended, IsEndOf}

-- the lots of the cup are lots of the group
pub own_drawn : (clubs : ℕ) (group : GroupState) (finish : Results) (lots : List ℕ)
    → IsEndOf clubs group finish → are_lots clubs lots ≡ true
    → are_lots (length group.sheet.clubs) (lots_within group.block lots) ≡ true
own_drawn clubs group finish lots end drawn =
    subst (λ (n : ℕ). are_lots n (lots_within group.block lots) ≡ true) end.count
    (restricted_drawn group.block clubs lots end.within drawn)

-- a question that is refuted does not hold there
pub not_at_end : (clubs : ℕ) (group : GroupState) (finish : Results) (lots : List ℕ)
    (question : GroupQuestion) → IsEndOf clubs group finish → are_lots clubs lots ≡ true
    → question.club < length group.sheet.clubs → IsRefutedInGroup group question
    → holds_in_group direct_places group.sheet question finish (lots_within group.block lots)
    ≡ true → ⊥
not_at_end clubs group finish lots question end drawn inside refuted holds =
    group_refuted direct_places group.sheet group.results question refuted.0 end.limits end.results
    inside refuted.1 (
      finish,
      lots_within group.block lots,
      record {
        is_finish = end.is_finish;
        is_drawn = own_drawn clubs group finish lots end drawn;
        holds = holds;
      },
    )

-- a place that is neither direct nor past the candidate's is the candidate's
pub candidate_else : (place : ℕ) → nat_le place 1 ≡ false → nat_lt 2 place ≡ false
    → (place == 2) ≡ true
candidate_else place direct past = grind (arith, nat_tests, direct, past)

-- what comes first, whatever the lots say, has as great a key
pub up_to_before : (order lots : Ordering) → is_lt (ordering_then order lots) ≡ true
    → is_le order ≡ true
up_to_before Less lots is = refl
up_to_before Equal lots is = refl
up_to_before Greater lots is = absurd (false≢true is)

-- what is left of an `and` that fails
pub after_true : (a b : Bool) → a ≡ true → (a && b) ≡ false → b ≡ false
after_true true b is fails = fails
after_true false b is fails = absurd (false≢true is)

-- no candidate of a listed group is before a club whose key is as great as the key
pub none_better : (clubs : ℕ) (group : GroupState) (finish : Results) (lots : List ℕ)
    (mine : GroupState) (club : ℕ) (key : List ℤ) → IsEndOf clubs group finish
    → are_lots clubs lots ≡ true → IsRefutedForAll Outside key group
    → is_key_from key (key_of mine.sheet mine.results club) ≡ true
    → has_better direct_places lots mine club (ended group finish) ≡ false
none_better clubs group finish lots mine club key end drawn refuted own_from =
    let better = λ (other : ℕ). is_candidate direct_places lots (ended group finish) other
    && is_before_across lots (ended group finish) other mine club in
    elim (cases_Bool (list_any better (clubs_of group.sheet))) as
    (λ _. has_better direct_places lots mine club (ended group finish) ≡ false) [
      | inl some ↦ let found = some_in_range better 0 (length group.sheet.clubs) some in
          let other = found.0 in
          let other_key = key_of group.sheet finish other in
          let own_key = key_of mine.sheet mine.results club in
          let inside : other < length group.sheet.clubs = omega (arith, found.2) in
          let both = and_parts (is_candidate direct_places lots (ended group finish) other)
          (is_before_across lots (ended group finish) other mine club) found.3 in
          let from_own = up_to_before (by_first_difference other_key own_key) _ both.1 in
          absurd (not_at_end clubs group finish lots
          (record { kind = SecondAtLeast; club = other; key = key }) end drawn inside
          (refuted other inside)
          (and_from (place_in_group lots (ended group finish) other == 2)
          (is_key_from key other_key) both.0
          (from_lesser key own_key other_key own_from from_own)))
      | inr none ↦ none
    ]

-- the candidate of a listed group is before a club whose key is no greater than the key
pub some_better : (clubs : ℕ) (group : GroupState) (finish : Results) (lots : List ℕ)
    (mine : GroupState) (club : ℕ) (key : List ℤ) → IsEndOf clubs group finish
    → are_lots clubs lots ≡ true → IsRefutedForAll Inside key group
    → is_key_from (key_of mine.sheet mine.results club) key ≡ true
    → has_better direct_places lots mine club (ended group finish) ≡ true
some_better clubs group finish lots mine club key end drawn refuted own_up_to =
    let within = lots_within group.block lots in
    let least = end.least_clubs in
    let found = place_taken group.sheet finish within 2
    (own_drawn clubs group finish lots end drawn) (omega arith) (omega (arith, least)) in
    let other = found.0 in
    let other_key = key_of group.sheet finish other in
    let own_key = key_of mine.sheet mine.results club in
    let second = eq-eqb (place_of group.sheet finish within other) 2 found.2 in
    let past_key : is_key_from other_key key ≡ false =
    elim (cases_Bool (is_key_from other_key key)) as (λ _. is_key_from other_key key ≡ false) [
      | inl is ↦ absurd (not_at_end clubs group finish lots
          (record { kind = SecondAtMost; club = other; key = key }) end drawn found.1
          (refuted other found.1)
          (and_from (place_of group.sheet finish within other == 2) (is_key_from other_key key)
          second is))
      | inr is ↦ is
    ] in
    let past_own : is_key_from other_key own_key ≡ false =
    elim (cases_Bool (is_key_from other_key own_key)) as
    (λ _. is_key_from other_key own_key ≡ false) [
      | inl is ↦ absurd (false≢true (sym past_key
          ∙ from_lesser other_key own_key key is own_up_to))
      | inr is ↦ is
    ] in
    let before = first_decides (by_first_difference other_key own_key)
    (nat_cmp (lot_of lots (number_in_cup group.block other))
    (lot_of lots (number_in_cup mine.block club)))
    (above_or_below other_key own_key ∙ ap not past_own) in
    any_in_range
    (λ it. is_candidate direct_places lots (ended group finish) it
    && is_before_across lots (ended group finish) it mine club) 0
    (length group.sheet.clubs) other (omega arith) (omega (arith, found.1))
    (and_from (is_candidate direct_places lots (ended group finish) other)
    (is_before_across lots (ended group finish) other mine club) second before)
