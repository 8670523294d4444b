-- Joined lots: what each group keeps of them, that they are lots, and the order of the candidates.
use Rattle.std.proofs.Common.{◌≡◌, ◌<◌, ◌≤◌, inl, inr, ℕ, ◌+◌, ◌-◌, Bool, true}
use Rattle.std.proofs.Common.{false, not, ◌&&◌, ◌||◌, ◌==◌, cond, List, [], ◌∷◌, ◌++◌, filter, map}
use Rattle.std.proofs.Common.{length, refl, sym, ap, ◌∙◌, arith, subst, nat_lt}
use Rattle.std.proofs.Common.{IsPermutation}
use Rattle.std.specs.List.{list_all, range_with_len}
use Rattle.std.specs.Ordering.{nat_cmp}
use Rattle.std.proofs.lemmas.Bool.{false≢true, true≢false, and_parts, and_from, or_cases, eq-eqb}
use Rattle.std.proofs.lemmas.Bool.{eqb-true, or_left, ltb-true, ltb-false}
use Rattle.std.proofs.lemmas.Bool.Decides.{nat_tests}
use Rattle.std.proofs.lemmas.List.{length-append, length-map, map-append}
use Rattle.std.proofs.lemmas.List.Sums.{length-filter}
use Rattle.std.proofs.lemmas.List.Elements.{filter-append}
use Rattle.std.proofs.lemmas.List.Folds.{list_all-append}
use Rattle.std.proofs.lemmas.List.Sorted.{length_permutation, list_any-IsPermutation}
use Rattle.std.proofs.lemmas.List.Sorted.{sum_by-IsPermutation}
use Rattle.league_core.specs.game.Sums.{has_club}
use Rattle.league_core.specs.game.Ranking.{lot_of}
use Rattle.league_core.proofs.plain.Runs.{all_in_range}
use Rattle.league_core.proofs.ClubSetLemmas.{has_club-filter}
use Rattle.league_core.proofs.OthersLemmas.{lot_of-absent}
use Rattle.league_core.proofs.RankingLemmas.{lots_have}
use Rattle.cup_sheet.specs.JointFinishes.{ClubBlock, is_in_block, number_in_cup}
use Rattle.cup_sheet.specs.LotLaws.{GroupLots, own_lots, part_of_each}
use Rattle.cup_sheet.specs.LotLaws.{candidates_of, joined_lots, lots_together, AreLaid}
use Rattle.cup_sheet.specs.LotLaws.{AreWithin}
use Rattle.cup_sheet.specs.LotLaws.{LotsCanBeJoined}
use Rattle.cup_sheet.proofs.CupLotsLemmas.{as_many_lots, lots_below, not_before}
use Rattle.cup_sheet.proofs.LaidLotsLemmas.{IsPart, AllKept, all_kept}

-- ---- parts

-- the clubs before the candidate are a part
earlier_part : IsPart (λ it. it.earlier)
earlier_part it below =
    let test = λ (club : ℕ). nat_lt club it.block.count in
    (and_parts (list_all test it.earlier) (list_all test (it.candidate ∷ it.later))
    (sym (list_all-append test it.earlier (it.candidate ∷ it.later)) ∙ below)).0

-- the candidate is one
candidate_part : IsPart (λ it. it.candidate ∷ [])
candidate_part it below =
    let test = λ (club : ℕ). nat_lt club it.block.count in
    let back = (and_parts (list_all test it.earlier) (list_all test (it.candidate ∷ it.later))
    (sym (list_all-append test it.earlier (it.candidate ∷ it.later)) ∙ below)).1 in
    let own = (and_parts (test it.candidate) (list_all test it.later) back).0 in
    and_from (test it.candidate) true own refl

-- the clubs after it are one
later_part : IsPart (λ it. it.later)
later_part it below =
    let test = λ (club : ℕ). nat_lt club it.block.count in
    let back = (and_parts (list_all test it.earlier) (list_all test (it.candidate ∷ it.later))
    (sym (list_all-append test it.earlier (it.candidate ∷ it.later)) ∙ below)).1 in
    (and_parts (test it.candidate) (list_all test it.later) back).1

-- ---- the order of the candidates within one group

-- a list of one number that has a club is that club
only_one : (clubs : List ℕ) (club : ℕ) → length clubs ≡ 1 → has_club clubs club ≡ true
    → clubs ≡ club ∷ []
only_one [] club one has = absurd (omega (arith, one))
only_one (first ∷ []) club one has =
    elim (or_cases (first == club) false has) [
      | inl same ↦ ap (λ it. it ∷ []) (eqb-true first club same)
      | inr none ↦ absurd (false≢true none)
    ]
only_one (first ∷ second ∷ clubs) club one has = absurd (omega (arith, one))

-- an order of the candidates has within a group its candidate alone
one_candidate : (group : ClubBlock) (candidate : ℕ) (all order : List ℕ) → IsPermutation all order
    → filter (is_in_block group) all ≡ number_in_cup group candidate ∷ []
    → filter (is_in_block group) order ≡ number_in_cup group candidate ∷ []
one_candidate group candidate all order same kept =
    let p = is_in_block group in
    let club = number_in_cup group candidate in
    let one : length (filter p order) ≡ 1 = omega (
      arith,
      length-filter p order,
      length-filter p all,
      sum_by-IsPermutation (λ x. cond (p x) 1 0) all order same,
      ap length kept,
    ) in
    let there : has_club (filter p all) club ≡ true =
    ap (λ it. has_club it club) kept ∙ (or_left (club == club) false (eq-eqb club club refl)) in
    only_one (filter p order) club one
    (has_club-filter p order club
    ∙ ap (λ it. it && p club) (sym (list_any-IsPermutation (λ it. it == club) all order same))
    ∙ sym (has_club-filter p all club) ∙ there)

-- the same of each group
order_kept : (all order : List ℕ) (groups : List GroupLots) → IsPermutation all order
    → AllKept (λ it. it.candidate ∷ []) all groups → AllKept (λ it. it.candidate ∷ []) order groups
order_kept all order [] same kept = tt
order_kept all order (it ∷ later) same kept = (
  one_candidate it.block it.candidate all order same kept.0,
  order_kept all order later same kept.1,
)

-- ---- within each group

-- three parts of each group, one after another, are its lots
three_kept : (front middle back : List ℕ) (groups : List GroupLots)
    → AllKept (λ it. it.earlier) front groups → AllKept (λ it. it.candidate ∷ []) middle groups
    → AllKept (λ it. it.later) back groups
    → AllKept own_lots (front ++ (middle ++ back)) groups
three_kept front middle back [] one two three = tt
three_kept front middle back (it ∷ later) one two three =
    let p = is_in_block it.block in
    let to = number_in_cup it.block in (
      filter-append p front (middle ++ back)
          ∙ ap (λ rest. filter p front ++ rest) (filter-append p middle back)
          ∙ (λ i. one.0 i ++ (two.0 i ++ three.0 i))
          ∙ sym (map-append to it.earlier (it.candidate ∷ it.later)),
      three_kept front middle back later one.1 two.1 three.1,
    )

-- the numbers in a group are those in the cup less its first
back_again : (group : ClubBlock) (clubs : List ℕ)
    → map (λ club. club - group.first) (map (number_in_cup group) clubs) ≡ clubs
back_again group [] = refl
back_again group (club ∷ clubs) =
    let same : number_in_cup group club - group.first ≡ club = omega arith in
    (λ i. same i ∷ back_again group clubs i)

-- what each group keeps is what these lots are within it
within : (lots : List ℕ) (groups : List GroupLots) → AllKept own_lots lots groups
    → AreWithin lots groups
within lots [] kept = tt
within lots (it ∷ later) kept = (
  ap (λ clubs. map (λ club. club - it.block.first) clubs) kept.0
      ∙ back_again it.block (own_lots it),
  within lots later kept.1,
)

-- ---- they are lots

-- how many they are
as_many : (from : ℕ) (groups : List GroupLots) → AreLaid from groups
    → length (part_of_each (λ it. it.earlier) groups) + (length (candidates_of groups)
    + length (part_of_each (λ it. it.later) groups)) ≡ lots_together groups
as_many from [] laid = refl
as_many from (it ∷ later) laid =
    let to = number_in_cup it.block in
    omega (
      arith,
      as_many (from + it.block.count) later laid.2,
      as_many_lots it.block.count (own_lots it) laid.1,
      length-append it.earlier (it.candidate ∷ it.later),
      length-append (map to it.earlier) (part_of_each (λ one. one.earlier) later),
      length-append (map to it.later) (part_of_each (λ one. one.later) later),
      length-map it.earlier to,
      length-map it.later to,
    )

-- numbers in the cup are as different as in the group
has_in_cup : (group : ClubBlock) (clubs : List ℕ) (club : ℕ)
    → has_club (map (number_in_cup group) clubs) (number_in_cup group club) ≡ has_club clubs club
has_in_cup group [] club = refl
has_in_cup group (first ∷ clubs) club =
    let same : (number_in_cup group first == number_in_cup group club) ≡ (first == club) =
    grind (arith, nat_tests) in
    (λ i. same i || has_in_cup group clubs club i)

-- each club of the groups is there
is_there : (lots : List ℕ) (from : ℕ) (groups : List GroupLots) → AreLaid from groups
    → AllKept own_lots lots groups → (club : ℕ) → from ≤ club
    → club < from + lots_together groups → has_club lots club ≡ true
is_there lots from [] laid kept club low high = absurd (omega arith)
is_there lots from (it ∷ later) laid kept club low high =
    let p = is_in_block it.block in
    let end = from + it.block.count in
    elim (nat_lt club end) as (λ b. nat_lt club end ≡ b → has_club lots club ≡ true) [
      | true ↦ λ inside.
          let own : ℕ = club - it.block.first in
          let below : club < end = ltb-true club end inside in
          let number : number_in_cup it.block own ≡ club = omega (arith, laid.0) in
          let has : has_club (filter p lots) club ≡ true =
          ap (λ clubs. has_club clubs club) kept.0
          ∙ ap (λ (n : ℕ). has_club (map (number_in_cup it.block) (own_lots it)) n) (sym number)
          ∙ has_in_cup it.block (own_lots it) own
          ∙ lots_have it.block.count (own_lots it) own laid.1 (omega (arith, laid.0)) in
          (and_parts (has_club lots club) (p club) (sym (has_club-filter p lots club) ∙ has)).0
      | false ↦ λ outside.
          is_there lots end later laid.2 kept.1 club (ltb-false club end outside) (omega arith)
    ] refl

-- ---- the order of the candidates

-- one club more
front_step : (b has : Bool) (one other : ℕ) → (has ≡ true → one ≡ other) → (b || has) ≡ true
    → cond (not b) (1 + one) 0 ≡ cond (not b) (1 + other) 0
front_step true has one other same is = refl
front_step false has one other same is = ap (λ n. 1 + n) (same is)

-- what a list has stands where it stands there, whatever follows
lot_of-front : (clubs more : List ℕ) (club : ℕ) → has_club clubs club ≡ true
    → lot_of (clubs ++ more) club ≡ lot_of clubs club
lot_of-front [] more club has = absurd (false≢true has)
lot_of-front (first ∷ clubs) more club has =
    front_step (first == club) (has_club clubs club) (lot_of (clubs ++ more) club)
    (lot_of clubs club) (λ is. lot_of-front clubs more club is) has

-- a candidate stands before no candidate of its group
not_in_front : (front : List ℕ) (from : ℕ) (groups : List GroupLots) → AreLaid from groups
    → AllKept (λ it. it.earlier) front groups → (club : ℕ)
    → has_club (candidates_of groups) club ≡ true → has_club front club ≡ false
not_in_front front from [] laid kept club has = absurd (false≢true has)
not_in_front front from (it ∷ later) laid kept club has =
    elim (or_cases (number_in_cup it.block it.candidate == club)
    (has_club (candidates_of later) club) has) [
      | inl same ↦ subst (λ (n : ℕ). has_club front n ≡ false)
          (eqb-true (number_in_cup it.block it.candidate) club same) own
      | inr back ↦ not_in_front front (from + it.block.count) later laid.2 kept.1 club back
    ]
  where
    p : ℕ → Bool
    p = is_in_block it.block

    candidate : ℕ
    candidate = number_in_cup it.block it.candidate

    below : nat_lt it.candidate it.block.count ≡ true
    below = (and_parts (nat_lt it.candidate it.block.count) true (candidate_part it
        (lots_below it.block.count (own_lots it) laid.1))).0

    inside : p candidate ≡ true
    inside = grind (arith, nat_tests, below)

    none : (has_club front candidate && p candidate) ≡ false
    none = sym (has_club-filter p front candidate)
        ∙ ap (λ clubs. has_club clubs candidate) kept.0
        ∙ has_in_cup it.block it.earlier it.candidate
        ∙ not_before it.block.count it.earlier it.later it.candidate laid.1

    own : has_club front candidate ≡ false
    own = by (has_club front candidate)
        (ap (λ b. has_club front candidate && b) (sym inside) ∙ none)
      where
        by : (b : Bool) → (b && true) ≡ false → b ≡ false
        by true is = absurd (true≢false is)
        by false is = refl

-- ---- all together

pub joined_agree : LotsCanBeJoined
joined_agree groups order laid same =
    let front = part_of_each (λ it. it.earlier) groups in
    let back = part_of_each (λ it. it.later) groups in
    let all = candidates_of groups in
    let lots = joined_lots groups order in
    let one = all_kept (λ it. it.earlier) earlier_part groups laid in
    let two = order_kept all order groups same
    (all_kept (λ it. it.candidate ∷ []) candidate_part groups laid) in
    let three = all_kept (λ it. it.later) later_part groups laid in
    let kept = three_kept front order back groups one two three in
    let count : length lots ≡ lots_together groups = omega (
      arith,
      length-append front (order ++ back),
      length-append order back,
      length_permutation all order same,
      as_many 0 groups laid,
    ) in
    let place : (club : ℕ) → has_club order club ≡ true
    → lot_of lots club ≡ length front + lot_of order club =
    λ club has.
    lot_of-absent front (order ++ back) club (not_in_front front 0 groups laid one club
    (list_any-IsPermutation (λ it. it == club) all order same ∙ has))
    ∙ ap (λ n. length front + n) (lot_of-front order back club has) in
    record {
      drawn = and_from (length lots == lots_together groups)
          (list_all (has_club lots) (range_with_len 0 (lots_together groups)))
          (eq-eqb (length lots) (lots_together groups) count)
          (all_in_range (has_club lots) 0 (lots_together groups)
          (λ club low high. is_there lots 0 groups laid kept club low high));
      within = within lots groups kept;
      ordered = λ club other has has_other.
          (λ i. nat_cmp (place club has i) (place other has_other i))
          ∙ cmp_shifted (length front) (lot_of order club) (lot_of order other);
    }
  where
    cmp_shifted : (n a b : ℕ) → nat_cmp (n + a) (n + b) ≡ nat_cmp a b
    cmp_shifted n a b = grind arith
