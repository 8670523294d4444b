-- Another group at its end, beside a club at its own: whether its candidate is before the club.
use Rattle.std.proofs.Common.{◌≡◌, ◌<◌, inl, inr, ℕ, ◌+◌, Bool, true, false, not, ◌&&◌, ◌==◌}
use Rattle.std.proofs.Common.{List, length, refl, sym, ap, ◌∙◌, subst, arith}
use Rattle.std.specs.List.{list_any}
use Rattle.std.specs.Ordering.{nat_cmp, ordering_then, is_lt, is_le}
use Rattle.std.specs.declared.cmp.Ordering.{Ordering}
use Rattle.std.specs.declared.cmp.Ordering.TheVariants.{Less, Equal, Greater}
use Rattle.std.proofs.lemmas.Bool.{false≢true, and_parts, and_from, cases_Bool, eq-eqb, eqb-true}
use Rattle.league_core.specs.declared.sheet.Sheet.{Sheet}
use Rattle.league_core.specs.declared.question.Claim.TheVariants.{Inside, Outside}
use Rattle.league_core.specs.game.Results.{Results}
use Rattle.league_core.specs.game.Sheets.{clubs_of}
use Rattle.league_core.specs.game.HeadToHead.{by_first_difference}
use Rattle.league_core.specs.game.Ranking.{are_lots, lot_of, place_of}
use Rattle.league_core.specs.search.Keys.{key_of, is_key_from}
use Rattle.league_core.proofs.PlaceLemmas.{place_of-before}
use Rattle.league_core.proofs.RankingLemmas.{ranks_before-one}
use Rattle.league_core.proofs.plain.Orderings.{nat_cmp-less, nat_cmp-greater}
use Rattle.club_keys.proofs.KeyOrderLemmas.{above_or_below}
use Rattle.tree_arena.specs.declared.example.Example.{Example}
use Rattle.cup_sheet.specs.CupLimits.{direct_places}
use Rattle.cup_sheet.specs.JointFinishes.{GroupState, number_in_cup, lots_within}
use Rattle.cup_sheet.specs.Qualifying.{is_candidate, is_before_across, has_better}
use Rattle.cup_laws.proofs.PlaceTakenLemmas.{some_in_range, any_in_range}
use Rattle.runners_up.specs.inside.JointEnds.{HasFarCandidate}
use Rattle.runners_up.proofs.LaidEndsLemmas.{state_with}

-- an order that is not Greater, and lots in which the one is first
lots_put_first : (order : Ordering) (one other : ℕ) → is_le order ≡ true → one < other
    → is_lt (ordering_then order (nat_cmp one other)) ≡ true
lots_put_first Less one other up_to first = refl
lots_put_first Equal one other up_to first = ap is_lt (nat_cmp-less one other first)
lots_put_first Greater one other up_to first = absurd (false≢true up_to)

-- an order that is not Less, and lots in which the other is first
lots_put_last : (order : Ordering) (one other : ℕ) → is_lt order ≡ false → other < one
    → is_lt (ordering_then order (nat_cmp one other)) ≡ false
lots_put_last Less one other not_less first = absurd (false≢true (sym not_less))
lots_put_last Equal one other not_less first = ap is_lt (nat_cmp-greater one other first)
lots_put_last Greater one other not_less first = refl

-- no two clubs have one place
one_place : (sheet : Sheet) (finish : Results) (lots : List ℕ) (club other : ℕ)
    → are_lots (length sheet.clubs) lots ≡ true → club < length sheet.clubs
    → other < length sheet.clubs
    → place_of sheet finish lots club ≡ place_of sheet finish lots other → club ≡ other
one_place sheet finish lots club other drawn inside other_inside same =
    elim (cases_Bool (club == other)) as (λ _. club ≡ other) [
      | inl is ↦ eqb-true club other is
      | inr differ ↦ elim (ranks_before-one sheet finish lots club other drawn inside
          other_inside (λ is. false≢true (sym differ ∙ eq-eqb club other is))) as
          (λ _. club ≡ other) [
            | inl before ↦ absurd (omega (
              arith,
              same,
              place_of-before sheet finish lots club other inside before,
            ))
            | inr before ↦ absurd (omega (
              arith,
              same,
              place_of-before sheet finish lots other club other_inside before,
            ))
          ]
    ]

-- with a key no less, and lots that put the club last, the group's candidate is before it
pub far_is_better : (lots : List ℕ) (mine : GroupState) (own first : ℕ) (sheet : Sheet)
    (end : Example) → lots_within (state_with first sheet end).block lots ≡ end.lots
    → HasFarCandidate Outside (key_of mine.sheet mine.results own) sheet end
    → ((other : ℕ) → other < length sheet.clubs → lot_of lots (first + other)
    < lot_of lots (number_in_cup mine.block own))
    → has_better direct_places lots mine own (state_with first sheet end) ≡ true
far_is_better lots mine own first sheet end within far last =
    let group = state_with first sheet end in
    let own_key = key_of mine.sheet mine.results own in
    let other = far.0 in
    let key = key_of sheet end.finish other in
    let both = and_parts (place_of sheet end.finish end.lots other == 2)
    (is_key_from own_key key) far.2 in
    let candidate : is_candidate direct_places lots group other ≡ true =
    ap (λ (drawn : List ℕ). place_of sheet end.finish drawn other == 2) within ∙ both.0 in
    let before : is_before_across lots group other mine own ≡ true =
    lots_put_first (by_first_difference key own_key) (lot_of lots (first + other))
    (lot_of lots (number_in_cup mine.block own)) both.1 (last other far.1) in
    any_in_range
    (λ it. is_candidate direct_places lots group it && is_before_across lots group it mine own) 0
    (length sheet.clubs) other (omega arith) (omega (arith, far.1))
    (and_from (is_candidate direct_places lots group other)
    (is_before_across lots group other mine own) candidate before)

-- with a key no greater, and lots that put the club first, it is not
pub far_is_no_better : (lots : List ℕ) (mine : GroupState) (own first : ℕ) (sheet : Sheet)
    (end : Example) → are_lots (length sheet.clubs) end.lots ≡ true
    → lots_within (state_with first sheet end).block lots ≡ end.lots
    → HasFarCandidate Inside (key_of mine.sheet mine.results own) sheet end
    → ((other : ℕ) → other < length sheet.clubs
    → lot_of lots (number_in_cup mine.block own) < lot_of lots (first + other))
    → has_better direct_places lots mine own (state_with first sheet end) ≡ false
far_is_no_better lots mine own first sheet end drawn within far ahead =
    let group = state_with first sheet end in
    let better : ℕ → Bool = λ it. is_candidate direct_places lots group it
    && is_before_across lots group it mine own in
    elim (cases_Bool (list_any better (clubs_of sheet))) as
    (λ _. has_better direct_places lots mine own group ≡ false) [
      | inl some ↦ let found = some_in_range better 0 (length sheet.clubs) some in
          absurd (none found.0 (omega (arith, found.2)) found.3)
      | inr other ↦ other
    ]
  where
    none : (it : ℕ) → it < length sheet.clubs
        → (is_candidate direct_places lots (state_with first sheet end) it
        && is_before_across lots (state_with first sheet end) it mine own) ≡ true → ⊥
    none it inside passes =
        let group = state_with first sheet end in
        let own_key = key_of mine.sheet mine.results own in
        let other = far.0 in
        let key = key_of sheet end.finish other in
        let both = and_parts (place_of sheet end.finish end.lots other == 2)
        (is_key_from key own_key) far.2 in
        let parts = and_parts (is_candidate direct_places lots group it)
        (is_before_across lots group it mine own) passes in
        let place : (place_of sheet end.finish end.lots it == 2) ≡ true =
        ap (λ (drawn : List ℕ). place_of sheet end.finish drawn it == 2) (sym within) ∙ parts.0 in
        let same : it ≡ other = one_place sheet end.finish end.lots it other drawn inside far.1
        (eqb-true (place_of sheet end.finish end.lots it) 2 place
        ∙ sym (eqb-true (place_of sheet end.finish end.lots other) 2 both.0)) in
        let no_more : is_lt (by_first_difference key own_key) ≡ false =
        above_or_below key own_key ∙ ap not both.1 in
        let behind : is_before_across lots group other mine own ≡ false =
        lots_put_last (by_first_difference key own_key) (lot_of lots (first + other))
        (lot_of lots (number_in_cup mine.block own)) no_more (ahead other far.1) in
        false≢true (sym behind
        ∙ subst (λ (club : ℕ). is_before_across lots group club mine own ≡ true) same parts.1)
