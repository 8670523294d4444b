-- Lots in which one club is drawn first and another right after it: that they are lots, and that
-- some of them leave a club second wherever some lots do.
use Rattle.std.proofs.Common.{◌≡◌, ◌≢◌, ℕ, ◌+◌, ◌<◌, ◌≤◌, Bool, true, false, not, ◌&&◌, ◌==◌}
use Rattle.std.proofs.Common.{cond, List, [], ◌∷◌, ◌++◌, length, filter, count_by, Ordering, Less}
use Rattle.std.proofs.Common.{Equal, Greater, is_lt, nat_cmp, refl, sym, ◌∙◌, ap, ap₂, subst}
use Rattle.std.proofs.Common.{inl, inr, arith}
use Rattle.std.specs.List.{list_all, range_with_len}
use Rattle.std.specs.Ordering.{ordering_then}
use Rattle.std.proofs.lemmas.Bool.{false≢true, true≢false, and_from, or_left, or_right, eq-eqb}
use Rattle.std.proofs.lemmas.Bool.{ne_eqb, eqb-true, lt-ltb, le-ltb, cases_eq}
use Rattle.std.proofs.lemmas.List.{map-id}
use Rattle.std.proofs.lemmas.List.FromFn.{filter_of_map_range_with_len_more}
use Rattle.std.proofs.lemmas.List.Sums.{length-filter}
use Rattle.std.proofs.lemmas.Map.Views.{any-filter_same}
use Rattle.league_core.specs.declared.sheet.Sheet.{Sheet}
use Rattle.league_core.specs.declared.question.Claim.TheVariants.{Inside}
use Rattle.league_core.specs.game.Results.{Results}
use Rattle.league_core.specs.game.Sums.{has_club}
use Rattle.league_core.specs.game.Ranking.{are_lots, lot_of, ranks_before, place_of}
use Rattle.league_core.specs.inside.LotsFor.{order_without_lots, lots_for_claim, best_place_of}
use Rattle.league_core.proofs.ClubLemmas.{range_has}
use Rattle.league_core.proofs.LotsLemmas.{best_place_of-le}
use Rattle.league_core.proofs.OthersLemmas.{length-others_of}
use Rattle.league_core.proofs.RankingLemmas.{order_of-lots, ranks_before-itself}
use Rattle.league_core.proofs.plain.Counts.{count_one_more}
use Rattle.league_core.proofs.plain.Orderings.{is_lt-nat_cmp}
use Rattle.league_core.proofs.plain.Runs.{all_in_range}
use Rattle.group_search.specs.inside.SecondLots.{is_neither, second_lots}
use Rattle.group_search.proofs.CountedLemmas.{none_counted, nothing_counted, some_counted}
use Rattle.group_search.proofs.CountedLemmas.{one_counted}

-- ---- they are lots

-- of one club more the rest is the rest so far, and this club if it is neither
pub rest_of-suc : (clubs first club : ℕ)
    → filter (is_neither first club) (range_with_len 0 (clubs + 1))
    ≡ filter (is_neither first club) (range_with_len 0 clubs)
    ++ cond (is_neither first club clubs) (clubs ∷ []) []
rest_of-suc clubs first club =
    let more = filter_of_map_range_with_len_more (is_neither first club) (λ (x : ℕ). x) 0 clubs
    clubs (omega arith) in
    rw (map-id, map-id) at more

-- all but two clubs are two fewer
neither_counted : (clubs first club : ℕ) → first < clubs → club < clubs → first ≢ club
    → count_by (is_neither first club) (range_with_len 0 clubs) + 2 ≡ clubs
neither_counted clubs first club first_in club_in different =
    let others : ℕ → Bool = λ x. not (x == club) in
    let one : count_by (is_neither first club) (range_with_len 0 clubs) + 1
    ≡ count_by others (range_with_len 0 clubs) =
    count_one_more (is_neither first club) others clubs first first_in
    (λ x low other. ap (λ b. not b && not (x == club)) (ne_eqb x first other))
    (ap (λ b. not b && not (first == club)) (eq-eqb first first refl))
    (ap not (ne_eqb first club different)) in
    omega (
      arith,
      one,
      length-filter others (range_with_len 0 clubs),
      length-others_of clubs club club_in,
    )

-- each other club is among the rest
rest_has : (clubs first club other : ℕ) → other < clubs → other ≢ first → other ≢ club
    → has_club (filter (is_neither first club) (range_with_len 0 clubs)) other ≡ true
rest_has clubs first club other below not_first not_club =
    any-filter_same (λ member. member == other) (is_neither first club) true
    (λ k same. ap₂ (λ a b. not a && not b)
    (ne_eqb k first (λ e. not_first (sym (eqb-true k other same) ∙ e)))
    (ne_eqb k club (λ e. not_club (sym (eqb-true k other same) ∙ e))))
    (range_with_len 0 clubs)
    ∙ range_has clubs other below

-- they are lots of all clubs
pub second_lots-are_lots : (clubs first club : ℕ) → first < clubs → club < clubs → first ≢ club
    → are_lots clubs (second_lots clubs first club) ≡ true
second_lots-are_lots clubs first club first_in club_in different =
    let rest = filter (is_neither first club) (range_with_len 0 clubs) in
    and_from (length (second_lots clubs first club) == clubs)
    (list_all (has_club (second_lots clubs first club)) (range_with_len 0 clubs))
    (eq-eqb (length (second_lots clubs first club)) clubs
    (omega (
      arith,
      neither_counted clubs first club first_in club_in different,
      length-filter (is_neither first club) (range_with_len 0 clubs),
    )))
    (all_in_range (has_club (second_lots clubs first club)) 0 clubs
    (λ other _ high. elim (cases_eq other first) [
      | inl same ↦ or_left (first == other) (has_club (club ∷ rest) other)
          (eq-eqb first other (sym same))
      | inr not_first ↦ or_right (first == other) (has_club (club ∷ rest) other)
          (elim (cases_eq other club) [
            | inl same ↦ or_left (club == other) (has_club rest other)
                (eq-eqb club other (sym same))
            | inr not_club ↦ or_right (club == other) (has_club rest other)
                (rest_has clubs first club other (omega (arith, high)) not_first not_club)
          ])
    ]))

-- ---- where they place clubs

-- a club that is not at the head stands one further
lot_of-later : (drawn : ℕ) (lots : List ℕ) (club : ℕ) → (drawn == club) ≡ false
    → lot_of (drawn ∷ lots) club ≡ 1 + lot_of lots club
lot_of-later drawn lots club other =
    subst (λ (b : Bool). cond (not b) (1 + lot_of lots club) 0 ≡ 1 + lot_of lots club)
    (sym other) refl

lot_of-head : (club : ℕ) (lots : List ℕ) → lot_of (club ∷ lots) club ≡ 0
lot_of-head club lots =
    subst (λ (b : Bool). cond (not b) (1 + lot_of lots club) 0 ≡ 0)
    (sym (eq-eqb club club refl)) refl

-- the club is the second
club_is_second : (clubs first club : ℕ) → first ≢ club
    → lot_of (second_lots clubs first club) club ≡ 1
club_is_second clubs first club different =
    let rest = filter (is_neither first club) (range_with_len 0 clubs) in
    omega (
      arith,
      lot_of-later first (club ∷ rest) club (ne_eqb first club different),
      lot_of-head club rest,
    )

-- all others but the first are later
others_are_later : (clubs first club other : ℕ) → first ≢ club → other ≢ first
    → other ≢ club → lot_of (second_lots clubs first club) club
    ≤ lot_of (second_lots clubs first club) other
others_are_later clubs first club other different not_first not_club =
    let rest = filter (is_neither first club) (range_with_len 0 clubs) in
    omega (
      arith,
      club_is_second clubs first club different,
      lot_of-later first (club ∷ rest) other (ne_eqb first other (λ e. not_first (sym e))),
      lot_of-later club rest other (ne_eqb club other (λ e. not_club (sym e))),
    )

-- ---- who ranks before the club

-- what does not come before, and is drawn no earlier, does not come before with the lots
late : (o : Ordering) (i j : ℕ) → j ≤ i → is_lt o ≡ false
    → is_lt (ordering_then o (nat_cmp i j)) ≡ false
late Less i j low not_less = absurd (true≢false not_less)
late Greater i j low not_less = refl
late Equal i j low not_less = is_lt-nat_cmp i j ∙ le-ltb i j low

-- what comes before with some lots does so with lots in which it is drawn earlier
early : (o : Ordering) (i j k m : ℕ) → k < m → is_lt (ordering_then o (nat_cmp i j)) ≡ true
    → is_lt (ordering_then o (nat_cmp k m)) ≡ true
early Less i j k m low before = refl
early Greater i j k m low before = absurd (false≢true before)
early Equal i j k m low before = is_lt-nat_cmp k m ∙ lt-ltb k m low

-- what does not come before with some lots does not do so without
not_less : (o : Ordering) (i j : ℕ) → is_lt (ordering_then o (nat_cmp i j)) ≡ false
    → is_lt o ≡ false
not_less Less i j behind = behind
not_less Greater i j behind = refl
not_less Equal i j behind = refl

module _ (sheet : Sheet) (season : Results) where
  -- before the lots this club does not come before the other
  abbrev IsBehind : ℕ → ℕ → Type 0
  IsBehind club other = is_lt (order_without_lots sheet season other club) ≡ false

  is_behind : (lots : List ℕ) (club other : ℕ) → ranks_before sheet season lots other club ≡ false
      → IsBehind club other
  is_behind lots club other behind =
      not_less (order_without_lots sheet season other club) (lot_of lots other) (lot_of lots club)
      (sym (ap is_lt (order_of-lots sheet season lots other club)) ∙ behind)

  -- a club that does not come before it otherwise does not with these lots
  stays_behind : (first club other : ℕ) → first ≢ club → other ≢ first → IsBehind club other
      → ranks_before sheet season (second_lots (length sheet.clubs) first club) other club ≡ false
  stays_behind first club other different not_first behind =
      let lots = second_lots (length sheet.clubs) first club in
      elim (cases_eq other club) as (λ _. ranks_before sheet season lots other club ≡ false) [
        | inl same ↦ ap (λ x. ranks_before sheet season lots x club) same
            ∙ ranks_before-itself sheet season lots club
        | inr not_club ↦ ap is_lt (order_of-lots sheet season lots other club)
            ∙ late (order_without_lots sheet season other club) (lot_of lots other)
            (lot_of lots club)
            (others_are_later (length sheet.clubs) first club other different not_first not_club)
            behind
      ]

  -- the first of them comes before it if some lots make it do so
  comes_before : (lots : List ℕ) (first club : ℕ) → first ≢ club
      → ranks_before sheet season lots first club ≡ true
      → ranks_before sheet season (second_lots (length sheet.clubs) first club) first club ≡ true
  comes_before lots first club different before =
      let second = second_lots (length sheet.clubs) first club in
      let rest = filter (is_neither first club) (range_with_len 0 (length sheet.clubs)) in
      ap is_lt (order_of-lots sheet season second first club)
      ∙ early (order_without_lots sheet season first club) (lot_of lots first) (lot_of lots club)
      (lot_of second first) (lot_of second club)
      (omega (
        arith,
        lot_of-head first (club ∷ rest),
        club_is_second (length sheet.clubs) first club different,
      ))
      (sym (ap is_lt (order_of-lots sheet season lots first club)) ∙ before)

  -- so the club is second where no other club comes before it otherwise
  second_place : (lots : List ℕ) (first club : ℕ) → first < length sheet.clubs → first ≢ club
      → ranks_before sheet season lots first club ≡ true
      → ((other : ℕ) → other < length sheet.clubs → other ≢ first → IsBehind club other)
      → place_of sheet season (second_lots (length sheet.clubs) first club) club ≡ 2
  second_place lots first club first_in different before behind =
      let second = second_lots (length sheet.clubs) first club in
      let one = count_one_more (λ (x : ℕ). false)
      (λ other. ranks_before sheet season second other club) (length sheet.clubs) first first_in
      (λ x low other. sym (stays_behind first club x different other (behind x low other))) refl
      (comes_before lots first club different before) in
      omega (arith, one, nothing_counted (length sheet.clubs))

  -- a club that ranks before another is not that one
  not_itself : (lots : List ℕ) (first club : ℕ) → ranks_before sheet season lots first club ≡ true
      → first ≢ club
  not_itself lots first club before same =
      false≢true (sym (ranks_before-itself sheet season lots club)
      ∙ ap (λ x. ranks_before sheet season lots x club) (sym same) ∙ before)

  -- with some club first these lots leave the club second
  abbrev pub HasSecondLots : ℕ → Type 0
  HasSecondLots club =
      (first : ℕ) × (first < length sheet.clubs) × (first ≢ club)
      × (place_of sheet season (second_lots (length sheet.clubs) first club) club ≡ 2)

  -- if some lots leave it second
  pub second_by_some : (lots : List ℕ) (club : ℕ) → place_of sheet season lots club ≡ 2
      → HasSecondLots club
  second_by_some lots club place =
      let before : ℕ → Bool = λ other. ranks_before sheet season lots other club in
      let found = one_counted before (length sheet.clubs) (omega (arith, place)) in
      let different = not_itself lots found.0 club found.1.passes in (
        found.0,
        found.1.below,
        different,
        second_place lots found.0 club found.1.below different found.1.passes
            (λ other below not_first.
            is_behind lots club other (found.1.others other below not_first)),
      )

  -- if some lots leave it second or better, and some second or worse
  pub second_between : (lots others : List ℕ) (club : ℕ) → place_of sheet season lots club ≤ 2
      → 2 ≤ place_of sheet season others club → HasSecondLots club
  second_between lots others club better worse =
      let first_lots = lots_for_claim (length sheet.clubs) club Inside in
      elim (cases_eq (best_place_of sheet season club) 2) as (λ _. HasSecondLots club) [
        | inl two ↦ second_by_some first_lots club two
        | inr not_two ↦
            let best = best_place_of-le sheet season lots club in
            let none = none_counted (λ other. ranks_before sheet season first_lots other club)
            (length sheet.clubs) (omega (arith, best, better, not_two)) in
            let some = some_counted (λ other. ranks_before sheet season others other club)
            (length sheet.clubs) (omega (arith, worse)) in
            let different = not_itself others some.0 club some.2 in (
              some.0,
              some.1,
              different,
              second_place others some.0 club some.1 different some.2
                  (λ other below not_first.
                  is_behind first_lots club other (none other below)),
            )
      ]
