-- Chosen ends at their joint finish: where each group stands, and who is first in the lots.
use Rattle.std.proofs.Common.{◌≡◌, ◌<◌, ◌≤◌, ℕ, zero, suc, ◌+◌, Bool, true, false, not, ◌&&◌}
use Rattle.std.proofs.Common.{◌||◌, ◌==◌, cond, List, [], ◌∷◌, ◌++◌, length, filter, None}
use Rattle.std.proofs.Common.{Some, refl}
use Rattle.std.proofs.Common.{sym, ap, ◌∙◌, subst, arith}
use Rattle.std.specs.Prelude.{slice_get, unwrap_or, IsPermutation}
use Rattle.std.proofs.lemmas.Bool.{false≢true, or_left, or_right, eq-eqb}
use Rattle.std.proofs.lemmas.Bool.{and_from}
use Rattle.std.proofs.lemmas.List.Sorted.{IsPermutation-filter_both}
use Rattle.league_core.specs.declared.sheet.Sheet.{Sheet}
use Rattle.league_core.specs.game.Results.{Results}
use Rattle.league_core.specs.game.Sums.{has_club}
use Rattle.league_core.specs.game.Ranking.{lot_of}
use Rattle.league_core.proofs.ClubSetLemmas.{has_club-filter}
use Rattle.cup_sheet.specs.JointFinishes.{GroupState, number_in_cup, lots_within, states_from}
use Rattle.cup_sheet.specs.LotLaws.{own_lots, candidates_of, AreWithin}
use Rattle.cup_laws.specs.inside.ChosenEnds.{ChosenEnd, AreChosen, finishes_of_ends, lots_of_ends}
use Rattle.cup_laws.proofs.GroupEndLemmas.{ended}

-- a group with its chosen end
pub end_at : (first : ℕ) (groups : List Sheet) (seasons : List Results) (ends : List ChosenEnd)
    (k : ℕ) (group : GroupState) (end : ChosenEnd) → AreChosen first groups seasons ends
    → slice_get (states_from first groups seasons) k ≡ Some group → slice_get ends k ≡ Some end
    → (slice_get (states_from first groups (finishes_of_ends ends)) k
    ≡ Some (ended group end.finish)) × (end.lots.block ≡ group.block)
end_at first [] seasons ends k group end chosen there is =
    absurd (let c : None ≡ Some group = there in cc)
end_at first (sheet ∷ groups) [] ends k group end chosen there is = absurd chosen
end_at first (sheet ∷ groups) (season ∷ seasons) [] k group end chosen there is = absurd chosen
end_at first (sheet ∷ groups) (season ∷ seasons) (own ∷ ends) zero group end chosen there is =
    let head : GroupState = record {
      block = record { first = first; count = length sheet.clubs };
      sheet = sheet;
      results = season;
    } in
    let same : head ≡ group = ap (λ found. unwrap_or found head) there in
    let own_is : own ≡ end = ap (λ found. unwrap_or found own) is in (
      ap (λ (it : GroupState). Some (ended it own.finish)) same
          ∙ ap (λ (it : ChosenEnd). Some (ended group it.finish)) own_is,
      ap (λ (it : ChosenEnd). it.lots.block) (sym own_is) ∙ chosen.0
          ∙ ap (λ (it : GroupState). it.block) same,
    )
end_at first (sheet ∷ groups) (season ∷ seasons) (own ∷ ends) (suc k) group end chosen there is =
    end_at (first + length sheet.clubs) groups seasons ends k group end chosen.3 there is

-- within each group the lots are its own
pub within_at : (lots : List ℕ) (ends : List ChosenEnd) (k : ℕ) (end : ChosenEnd)
    → AreWithin lots (lots_of_ends ends) → slice_get ends k ≡ Some end
    → lots_within end.lots.block lots ≡ own_lots end.lots
within_at lots [] k end within is = absurd (let c : None ≡ Some end = is in cc)
within_at lots (own ∷ ends) zero end within is =
    subst (λ (it : ChosenEnd). lots_within it.lots.block lots ≡ own_lots it.lots)
    (ap (λ found. unwrap_or found own) is) within.0
within_at lots (own ∷ ends) (suc k) end within is = within_at lots ends k end within.1 is

-- the candidate of an end is one of all candidates
pub candidate_there : (ends : List ChosenEnd) (k : ℕ) (end : ChosenEnd)
    → slice_get ends k ≡ Some end
    → has_club (candidates_of (lots_of_ends ends))
    (number_in_cup end.lots.block end.lots.candidate) ≡ true
candidate_there [] k end is = absurd (let c : None ≡ Some end = is in cc)
candidate_there (own ∷ ends) zero end is =
    let same : own ≡ end = ap (λ found. unwrap_or found own) is in
    let number : ChosenEnd → ℕ = λ it. number_in_cup it.lots.block it.lots.candidate in
    or_left (number own == number end) (has_club (candidates_of (lots_of_ends ends)) (number end))
    (eq-eqb (number own) (number end) (ap number same))
candidate_there (own ∷ ends) (suc k) end is =
    let number : ChosenEnd → ℕ = λ it. number_in_cup it.lots.block it.lots.candidate in
    or_right (number own == number end) (has_club (candidates_of (lots_of_ends ends)) (number end))
    (candidate_there ends k end is)

-- ---- orders

-- one that is in front is earlier than there are in front
front_lot : (front back : List ℕ) (one : ℕ) → has_club front one ≡ true
    → lot_of (front ++ back) one < length front
front_lot [] back one has = absurd (false≢true has)
front_lot (first ∷ front) back one has =
    elim (first == one) as (λ b. (b || has_club front one) ≡ true
    → cond {A = ℕ} (not b) (1 + lot_of (front ++ back) one) 0 < suc (length front)) [
      | true ↦ λ _. omega arith
      | false ↦ λ later. omega (arith, front_lot front back one later)
    ] has

-- one that is not is not
back_lot : (front back : List ℕ) (one : ℕ) → has_club front one ≡ false
    → length front ≤ lot_of (front ++ back) one
back_lot [] back one has = omega arith
back_lot (first ∷ front) back one has =
    elim (first == one) as (λ b. (b || has_club front one) ≡ false
    → suc (length front) ≤ cond {A = ℕ} (not b) (1 + lot_of (front ++ back) one) 0) [
      | true ↦ λ fails. absurd (false≢true (sym fails))
      | false ↦ λ later. omega (arith, back_lot front back one later)
    ] has

-- a club before all others of a list, or after all of them
abbrev pub order_round : Bool → ℕ → List ℕ → List ℕ
order_round true club clubs =
    filter (λ other. other == club) clubs ++ filter (λ other. not (other == club)) clubs
order_round false club clubs =
    filter (λ other. not (other == club)) clubs ++ filter (λ other. other == club) clubs

turned_twice : (b : Bool) → b ≡ not (not b)
turned_twice true = refl
turned_twice false = refl

pub order_is_permuted : (is_first : Bool) (club : ℕ) (clubs : List ℕ)
    → IsPermutation clubs (order_round is_first club clubs)
order_is_permuted true club clubs =
    IsPermutation-filter_both (λ other. other == club) (λ other. not (other == club))
    (λ other. refl) clubs
order_is_permuted false club clubs =
    IsPermutation-filter_both (λ other. not (other == club)) (λ other. other == club)
    (λ other. turned_twice (other == club)) clubs

-- whoever is in the list is in the order
is_itself : (club : ℕ) → (club == club) ≡ true
is_itself club = eq-eqb club club refl

-- the club first is earlier than another
pub first_in_order : (club other : ℕ) (clubs : List ℕ) → has_club clubs club ≡ true
    → (other == club) ≡ false
    → lot_of (order_round true club clubs) club < lot_of (order_round true club clubs) other
first_in_order club other clubs has differ =
    let front = filter (λ it. it == club) clubs in
    let back = filter (λ it. not (it == club)) clubs in
    let here : has_club front club ≡ true = has_club-filter (λ it. it == club) clubs club
    ∙ and_from (has_club clubs club) (club == club) has (is_itself club) in
    let there : has_club front other ≡ false = has_club-filter (λ it. it == club) clubs other
    ∙ fails (has_club clubs other) (other == club) differ in
    omega (arith, front_lot front back club here, back_lot front back other there)
  where
    fails : (a b : Bool) → b ≡ false → (a && b) ≡ false
    fails true b is = is
    fails false b is = refl

-- the club last is later than another
pub last_in_order : (club other : ℕ) (clubs : List ℕ) → has_club clubs other ≡ true
    → (other == club) ≡ false
    → lot_of (order_round false club clubs) other < lot_of (order_round false club clubs) club
last_in_order club other clubs has differ =
    let front = filter (λ it. not (it == club)) clubs in
    let back = filter (λ it. it == club) clubs in
    let here : has_club front other ≡ true = has_club-filter (λ it. not (it == club)) clubs other
    ∙ and_from (has_club clubs other) (not (other == club)) has (ap not differ) in
    let there : has_club front club ≡ false = has_club-filter (λ it. not (it == club)) clubs club
    ∙ fails (has_club clubs club) (not (club == club)) (ap not (is_itself club)) in
    omega (arith, front_lot front back other here, back_lot front back club there)
  where
    fails : (a b : Bool) → b ≡ false → (a && b) ≡ false
    fails true b is = is
    fails false b is = refl
