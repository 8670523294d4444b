-- Two lots suffice: the lots that favour a claim about a club serve it as well as any lots do, and
-- the club drawn first, or last, gives such lots.
use Rattle.std.proofs.Common.{◌≡◌, ◌≢◌, ℕ, ◌+◌, ◌<◌, ◌≤◌, Bool, true, false, not, ◌||◌, ◌==◌, cond}
use Rattle.std.proofs.Common.{nat_lt, nat_le, List, [], ◌∷◌, length, Ordering, Less, Equal, Greater}
use Rattle.std.proofs.Common.{is_lt, nat_cmp, refl, sym, ◌∙◌, ap, subst, inl, inr, arith}
use Rattle.std.proofs.Common.{length-append}
use Rattle.std.specs.List.{list_all, range_with_len}
use Rattle.std.specs.Ordering.{ordering_then}
use Rattle.std.proofs.lemmas.Bool.{false≢true, and_parts, and_from, or_left, or_right, eq-eqb}
use Rattle.std.proofs.lemmas.Bool.{ltb-true, lt-ltb, leb-true, le-leb, cases_eq, not-true}
use Rattle.std.proofs.lemmas.Bool.{not_from_false, leb-false, lt-leb}
use Rattle.std.proofs.lemmas.Cmp.{tied_itself}
use Rattle.std.proofs.lemmas.List.Folds.{list_any-append}
use Rattle.league_core.specs.declared.sheet.Sheet.{Sheet}
use Rattle.league_core.specs.declared.question.Claim.{Claim}
use Rattle.league_core.specs.declared.question.Claim.TheVariants.{Inside, Outside}
use Rattle.league_core.specs.declared.question.Question.{Question}
use Rattle.league_core.specs.game.Results.{Results}
use Rattle.league_core.specs.game.Sheets.{clubs_of}
use Rattle.league_core.specs.game.Sums.{has_club, points_of}
use Rattle.league_core.specs.game.Ranking.{are_lots, lot_of, ranks_before, place_of, is_inside}
use Rattle.league_core.specs.game.Questions.{is_on_side, is_in_window, holds_at}
use Rattle.league_core.specs.search.Zones.{others_of}
use Rattle.league_core.specs.inside.LotsFor.{first_lots, last_lots, lots_for_claim, IsFavoured}
use Rattle.league_core.specs.inside.LotsFor.{order_without_lots, best_place_of, worst_place_of}
use Rattle.league_core.proofs.OthersLemmas.{lot_of-absent, lot_of-present, others_have_not}
use Rattle.league_core.proofs.OthersLemmas.{others_have, length-others_of}
use Rattle.league_core.proofs.RankingLemmas.{order_of-lots, order_of_total}
use Rattle.league_core.proofs.plain.Orderings.{is_lt-nat_cmp}
use Rattle.league_core.proofs.plain.Runs.{all_in_range}
use Rattle.league_core.proofs.plain.Counts.{count_by-le}

-- who comes before the first in the lots comes before it by what counts more, so with all lots
before_first : (o : Ordering) (i j k m : ℕ) → j ≡ 0 → is_lt (ordering_then o (nat_cmp i j)) ≡ true
    → is_lt (ordering_then o (nat_cmp k m)) ≡ true
before_first Less i j k m first h = refl
before_first Greater i j k m first h = absurd (false≢true h)
before_first Equal i j k m first h = let low : i
    < j = ltb-true i j (sym (is_lt-nat_cmp i j) ∙ h) in absurd (omega arith)

-- who comes before another with some lots does so with lots in which it is earlier
before_last : (o : Ordering) (i j k m : ℕ) → k < m → is_lt (ordering_then o (nat_cmp i j)) ≡ true
    → is_lt (ordering_then o (nat_cmp k m)) ≡ true
before_last Less i j k m low h = refl
before_last Greater i j k m low h = absurd (false≢true h)
before_last Equal i j k m low h = is_lt-nat_cmp k m ∙ lt-ltb k m low

-- the same of clubs: before a club that is drawn first rank only clubs that do so with all lots
ranks_before-first : (sheet : Sheet) (season : Results) (lots best : List ℕ) (club other : ℕ)
    → lot_of best club ≡ 0 → ranks_before sheet season best other club ≡ true
    → ranks_before sheet season lots other club ≡ true
ranks_before-first sheet season lots best club other first h =
    ap is_lt (order_of-lots sheet season lots other club)
    ∙ before_first (order_without_lots sheet season other club) (lot_of best other)
    (lot_of best club) (lot_of lots other) (lot_of lots club) first
    (sym (ap is_lt (order_of-lots sheet season best other club)) ∙ h)

-- before a club that is drawn last rank all clubs that do so with some lots
ranks_before-last : (sheet : Sheet) (season : Results) (lots best : List ℕ) (club other : ℕ)
    → (other ≢ club → lot_of best other < lot_of best club)
    → ranks_before sheet season lots other club ≡ true → ranks_before sheet season best other club
    ≡ true
ranks_before-last sheet season lots best club other earlier h =
    elim (cases_eq other club) [
      | inl same ↦ absurd
          (false≢true
          (sym (ap is_lt (tied_itself (order_of_total sheet season lots) club))
          ∙ subst (λ (x : ℕ). ranks_before sheet season lots x club ≡ true) same h))
      | inr different ↦
          ap is_lt (order_of-lots sheet season best other club)
          ∙ before_last (order_without_lots sheet season other club) (lot_of lots other)
          (lot_of lots club) (lot_of best other) (lot_of best club) (earlier different)
          (sym (ap is_lt (order_of-lots sheet season lots other club)) ∙ h)
    ]

-- so drawn first, a club has its best place
pub place_of-first : (sheet : Sheet) (season : Results) (lots best : List ℕ) (club : ℕ)
    → lot_of best club ≡ 0 → place_of sheet season best club ≤ place_of sheet season lots club
place_of-first sheet season lots best club first =
    let fewer = count_by-le (λ _. true) (λ other. ranks_before sheet season best other club)
    (λ other. ranks_before sheet season lots other club) (clubs_of sheet)
    (all_in_range (λ _. true) 0 (length sheet.clubs) (λ _ _ _. refl))
    (λ other _ h. ranks_before-first sheet season lots best club other first h) in
    omega arith

-- and drawn last, its worst
pub place_of-last : (sheet : Sheet) (season : Results) (lots best : List ℕ) (club : ℕ)
    → IsFavoured Outside (length sheet.clubs) best club → place_of sheet season lots club
    ≤ place_of sheet season best club
place_of-last sheet season lots best club last =
    let fewer = count_by-le (λ other. nat_lt other (length sheet.clubs))
    (λ other. ranks_before sheet season lots other club)
    (λ other. ranks_before sheet season best other club) (clubs_of sheet)
    (all_in_range (λ other. nat_lt other (length sheet.clubs)) 0 (length sheet.clubs)
    (λ other _ high. lt-ltb other (length sheet.clubs) (omega arith)))
    (λ other below h. ranks_before-last sheet season lots best club other
    (last other (ltb-true other (length sheet.clubs) below)) h) in
    omega arith

-- inside a line with some lots, inside it with lots in which the club is first; outside likewise
pub favoured_is_best : (sheet : Sheet) (season : Results) (claim : Claim) (lots best : List ℕ)
    (club line : ℕ) → IsFavoured claim (length sheet.clubs) best club
    → is_on_side (is_inside sheet season lots club line) claim ≡ true
    → is_on_side (is_inside sheet season best club line) claim ≡ true
favoured_is_best sheet season Inside lots best club line favoured h =
    let better = place_of-first sheet season lots best club favoured in
    let inside = leb-true (place_of sheet season lots club) line h in
    le-leb (place_of sheet season best club) line (omega (arith, better, inside))
favoured_is_best sheet season Outside lots best club line favoured h =
    let worse = place_of-last sheet season lots best club favoured in
    let outside = leb-false (place_of sheet season lots club) line
    (not-true (nat_le (place_of sheet season lots club) line) h) in
    not_from_false (nat_le (place_of sheet season best club) line)
    (lt-leb (place_of sheet season best club) line (omega (arith, worse, outside)))

-- the window does not see the lots, so a question holds with lots that favour its claim
pub holds_at-favoured : (sheet : Sheet) (question : Question) (season : Results)
    (lots best : List ℕ) → IsFavoured question.claim (length sheet.clubs) best question.club
    → holds_at sheet question season lots ≡ true → holds_at sheet question season best ≡ true
holds_at-favoured sheet question season lots best favoured h =
    let in_window = is_in_window question (points_of sheet season question.club) in
    let parts = and_parts in_window
    (is_on_side (is_inside sheet season lots question.club question.line) question.claim) h in
    and_from in_window
    (is_on_side (is_inside sheet season best question.club question.line) question.claim) parts.0
    (favoured_is_best sheet season question.claim lots best question.club question.line favoured
    parts.1)

-- the club first, and then the others, are lots
pub first_lots-are_lots : (clubs club : ℕ) → club < clubs
    → are_lots clubs (first_lots clubs club) ≡ true
first_lots-are_lots clubs club below =
    and_from (length (first_lots clubs club) == clubs)
    (list_all (has_club (first_lots clubs club)) (range_with_len 0 clubs))
    (eq-eqb (length (first_lots clubs club)) clubs
    (omega (arith, length-others_of clubs club below)))
    (all_in_range (has_club (first_lots clubs club)) 0 clubs
    (λ other _ high. elim (cases_eq other club) [
      | inl same ↦ or_left (club == other) (has_club (others_of clubs club) other)
          (eq-eqb club other (sym same))
      | inr different ↦ or_right (club == other) (has_club (others_of clubs club) other)
          (others_have clubs club other (omega arith) different)
    ]))

-- the others, and then the club last, are lots
pub last_lots-are_lots : (clubs club : ℕ) → club < clubs
    → are_lots clubs (last_lots clubs club) ≡ true
last_lots-are_lots clubs club below =
    and_from (length (last_lots clubs club) == clubs)
    (list_all (has_club (last_lots clubs club)) (range_with_len 0 clubs))
    (eq-eqb (length (last_lots clubs club)) clubs
    (omega (
      arith,
      length-others_of clubs club below,
      length-append (others_of clubs club)
          (club ∷ []),
    )))
    (all_in_range (has_club (last_lots clubs club)) 0 clubs (λ other _ high.
    list_any-append (λ member. member == other) (others_of clubs club) (club ∷ [])
    ∙ elim (cases_eq other club) [
      | inl same ↦ or_right (has_club (others_of clubs club) other) ((club == other) || false)
          (or_left (club == other) false (eq-eqb club other (sym same)))
      | inr different ↦ or_left (has_club (others_of clubs club) other) ((club == other) || false)
          (others_have clubs club other (omega arith) different)
    ]))

-- the lots for a claim are lots
pub lots_for_claim-are_lots : (clubs club : ℕ) (claim : Claim) → club < clubs
    → are_lots clubs (lots_for_claim clubs club claim) ≡ true
lots_for_claim-are_lots clubs club Inside below = first_lots-are_lots clubs club below
lots_for_claim-are_lots clubs club Outside below = last_lots-are_lots clubs club below

-- and they favour it
pub lots_for_claim-favoured : (clubs club : ℕ) (claim : Claim)
    → IsFavoured claim clubs (lots_for_claim clubs club claim) club
lots_for_claim-favoured clubs club Inside =
    subst (λ (b : Bool). cond (not b) (1 + lot_of (others_of clubs club) club) 0 ≡ 0)
    (sym (eq-eqb club club refl)) refl
lots_for_claim-favoured clubs club Outside =
    λ other below different.
    let there = lot_of-present (others_of clubs club) (club ∷ []) other
    (others_have clubs club other below different) in
    let behind = lot_of-absent (others_of clubs club) (club ∷ []) club
    (others_have_not clubs club) in
    omega arith

-- no lots give a club a better place than its best
pub best_place_of-le : (sheet : Sheet) (season : Results) (lots : List ℕ) (club : ℕ)
    → best_place_of sheet season club ≤ place_of sheet season lots club
best_place_of-le sheet season lots club =
    place_of-first sheet season lots (lots_for_claim (length sheet.clubs) club Inside) club
    (lots_for_claim-favoured (length sheet.clubs) club Inside)

-- nor a worse one than its worst
pub place_of-worst : (sheet : Sheet) (season : Results) (lots : List ℕ) (club : ℕ)
    → place_of sheet season lots club ≤ worst_place_of sheet season club
place_of-worst sheet season lots club =
    place_of-last sheet season lots (lots_for_claim (length sheet.clubs) club Outside) club
    (lots_for_claim-favoured (length sheet.clubs) club Outside)
