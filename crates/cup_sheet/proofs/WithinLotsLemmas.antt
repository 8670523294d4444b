-- Lots within a group: each of its clubs is there, and there are no more of them, since all others
-- are elsewhere.
use Rattle.std.proofs.Common.{◌≡◌, ◌<◌, ◌≤◌, inl, inr, ℕ, ◌+◌, ◌-◌, true, false, not}
use Rattle.std.proofs.Common.{◌==◌, List, [], ◌∷◌, length, filter, map, refl, ap, ◌∙◌}
use Rattle.std.proofs.Common.{arith, nat_lt, subst, if◌then◌else◌}
use Rattle.std.specs.List.{list_all, range_with_len}
use Rattle.std.proofs.lemmas.Bool.{false≢true, and_from, eq-eqb, eqb-true, or_cases, or_left}
use Rattle.std.proofs.lemmas.Bool.{or_right}
use Rattle.std.proofs.lemmas.Bool.Decides.{nat_tests}
use Rattle.std.proofs.lemmas.List.{length-map}
use Rattle.std.proofs.lemmas.List.Filters.{length-filter_both}
use Rattle.league_core.specs.game.Sums.{has_club}
use Rattle.league_core.proofs.plain.Runs.{all_in_range}
use Rattle.league_core.proofs.ClubSetLemmas.{has_club-filter}
use Rattle.league_core.proofs.RankingLemmas.{lots_have}
use Rattle.cup_sheet.specs.JointFinishes.{is_in_block, lots_within}
use Rattle.cup_sheet.specs.LotLaws.{RestrictedLotsAreLots}
use Rattle.cup_sheet.proofs.CupLotsLemmas.{as_many_lots, has_as_many, keeps_few}

-- what a list has, its image has
has_image : (f : ℕ → ℕ) (clubs : List ℕ) (club : ℕ) → has_club clubs club ≡ true
    → has_club (map f clubs) (f club) ≡ true
has_image f [] club has = absurd (false≢true has)
has_image f (first ∷ clubs) club has =
    elim (or_cases (first == club) (has_club clubs club) has) [
      | inl same ↦ or_left (f first == f club) (has_club (map f clubs) (f club))
          (eq-eqb (f first) (f club) (ap f (eqb-true first club same)))
      | inr later ↦ or_right (f first == f club) (has_club (map f clubs) (f club))
          (has_image f clubs club later)
    ]

-- a list whose image has each number below one is as long
as_long : (f : ℕ → ℕ) (n : ℕ) (clubs : List ℕ)
    → ((k : ℕ) → k < n → has_club (map f clubs) k ≡ true) → n ≤ length clubs
as_long f n clubs each = omega (
  arith,
  has_as_many n (map f clubs) each,
  keeps_few (λ x. nat_lt x n) (map f clubs),
  length-map clubs f,
)

pub restricted_drawn : RestrictedLotsAreLots
restricted_drawn group clubs lots within drawn =
    let p = is_in_block group in
    let out = λ (club : ℕ). not (is_in_block group club) in
    let own = λ (club : ℕ). club - group.first in
    let past = λ (club : ℕ). if nat_lt club group.first then club else club - group.count in
    let there : (k : ℕ) → k < group.count → has_club (lots_within group lots) k ≡ true =
    λ k below.
    let club : ℕ = group.first + k in
    let in_group : p club ≡ true = grind (arith, nat_tests) in
    let number : own club ≡ k = omega arith in
    let has : has_club (filter p lots) club ≡ true = has_club-filter p lots club
    ∙ and_from (has_club lots club) (p club) (lots_have clubs lots club drawn (omega arith))
    in_group in
    subst (λ (n : ℕ). has_club (lots_within group lots) n ≡ true) number
    (has_image own (filter p lots) club has) in
    let elsewhere : (k : ℕ) → k < clubs - group.count
    → has_club (map past (filter out lots)) k ≡ true =
    λ k below. elim (nat_lt k group.first) as (λ b. nat_lt k group.first ≡ b
    → has_club (map past (filter out lots)) k ≡ true) [
      | true ↦ λ is.
          let outside : out k ≡ true = grind (arith, nat_tests, is) in
          let number : past k ≡ k = rw is refl in
          let has : has_club (filter out lots) k ≡ true = has_club-filter out lots k
          ∙ and_from (has_club lots k) (out k) (lots_have clubs lots k drawn (omega arith)) outside
          in
          subst (λ (n : ℕ). has_club (map past (filter out lots)) n ≡ true) number
          (has_image past (filter out lots) k has)
      | false ↦ λ is.
          let club : ℕ = k + group.count in
          let outside : out club ≡ true = grind (arith, nat_tests, is) in
          let beyond : nat_lt club group.first ≡ false = grind (arith, nat_tests, is) in
          let number : past club ≡ k = rw beyond (omega arith) in
          let has : has_club (filter out lots) club ≡ true = has_club-filter out lots club
          ∙ and_from (has_club lots club) (out club) (lots_have clubs lots club drawn (omega arith))
          outside in
          subst (λ (n : ℕ). has_club (map past (filter out lots)) n ≡ true) number
          (has_image past (filter out lots) club has)
    ] refl in
    let count : length (lots_within group lots) ≡ group.count = omega (
      arith,
      within,
      length-map (filter p lots) own,
      as_long own group.count (filter p lots) there,
      as_long past (clubs - group.count) (filter out lots) elsewhere,
      length-filter_both p out (λ x. refl) lots,
      as_many_lots clubs lots drawn,
    ) in
    and_from (length (lots_within group lots) == group.count)
    (list_all (has_club (lots_within group lots)) (range_with_len 0 group.count))
    (eq-eqb (length (lots_within group lots)) group.count count)
    (all_in_range (has_club (lots_within group lots)) 0 group.count
    (λ club low high. there club (omega arith)))
