-- Tables: the clubs' order, and what a club's matches add up to.
use Rattle.std.proofs.Common.{◌≡◌, ℕ, zero, suc, ◌+◌, ◌<◌, ℤ, pos, not, ◌==◌, eqb, cond, true}
use Rattle.std.proofs.Common.{List, [], ◌∷◌, ◌++◌, length, take, filter, get_or, Option, None, refl}
use Rattle.std.proofs.Common.{ap, sym, ◌∙◌, subst, arith, slice_index_or}
use Rattle.std.specs.List.{range_with_len}
use Rattle.std.proofs.lemmas.List.FromFn.{length-map-range_with_len, get_or-map-range_with_len}
use Rattle.std.proofs.lemmas.Bool.{or_left, or_right, eq-eqb, ne_eqb}
use Rattle.std.proofs.lemmas.List.{take_more, length-take-le}
use Rattle.league_core.specs.declared.sheet.Sheet.{Sheet}
use Rattle.league_core.specs.declared.sheet.Fixture.{Fixture}
use Rattle.league_core.specs.declared.season.Score.{Score}
use Rattle.league_core.specs.declared.question.Claim.TheVariants.{Inside}
use Rattle.league_core.specs.game.Results.{Results}
use Rattle.league_core.specs.game.Sheets.{clubs_of}
use Rattle.league_core.specs.game.Sums.{has_club, points_of, sum_of, goal_difference, goals}
use Rattle.league_core.specs.inside.LotsFor.{lots_for_claim}
use Rattle.league_core.specs.game.Ranking.{IsTable}
use Rattle.final_rank.specs.declared.span.PlaceRange.{PlaceRange}
use Rattle.final_rank.specs.inside.Spans.{span_of, spans_of}
use Rattle.final_rank.proofs.PlaceLemmas.{best_is, worst_is}
use Rattle.final_rank.proofs.TierLemmas.{below_clubs}
use Rattle.answer_rows.specs.declared.table_row.TableRow.{TableRow}
use Rattle.answer_rows.specs.Tables.{count_if_played, count_played, IsTableRow}

-- numbers after 0 are not 0
others-behind : (from count : ℕ) → 0 < from
    → filter (λ other. not (other == 0)) (range_with_len from count) ≡ range_with_len from count
others-behind from zero some = refl
others-behind from (suc count) some =
    let rest = range_with_len (from + 1) count in
    let others = filter (λ other. not (other == 0)) rest in
    let behind : not (from == 0) ≡ true =
    ap not (ne_eqb from 0 (λ none. absurd (omega (arith, some, none)))) in
    ap (λ test. cond test (from ∷ others) others) behind
    ∙ ap (λ more. from ∷ more) (others-behind (from + 1) count (omega arith))

-- lots with the first club first are in the order of the numbers
pub first_lots-range : (clubs : ℕ) → 0 < clubs
    → lots_for_claim clubs 0 Inside ≡ range_with_len 0 clubs
first_lots-range zero some = absurd (omega (arith, some))
first_lots-range (suc clubs) some =
    ap (λ rest. 0 ∷ rest) (others-behind 1 clubs (omega arith))

-- the table of such lots is one of the sheet's order
pub table-in_order : (sheet : Sheet) (season : Results) (lots order : List ℕ) (clubs : ℕ)
    → 0 < clubs → clubs ≡ length sheet.clubs → lots ≡ lots_for_claim clubs 0 Inside
    → IsTable sheet season lots order → IsTable sheet season (clubs_of sheet) order
table-in_order sheet season lots order clubs some as_many drawn ranked =
    let P : List ℕ → Type 0 = λ ls. IsTable sheet season ls order in
    subst P (drawn ∙ first_lots-range clubs some ∙ ap (range_with_len 0) as_many) ranked

-- a list has each of its members
has_club-member : (clubs : List ℕ) (i : ℕ) → i < length clubs
    → has_club clubs (get_or clubs i 0) ≡ true
has_club-member [] i inside = absurd (omega (arith, inside))
has_club-member (club ∷ clubs) zero inside =
    or_left (eqb club club) (has_club clubs club) (eq-eqb club club refl)
has_club-member (club ∷ clubs) (suc i) inside =
    or_right (eqb club (get_or clubs i 0)) (has_club clubs (get_or clubs i 0))
    (has_club-member clubs i (omega (arith, inside)))

-- the clubs of a table are clubs of the sheet
pub table-within : (sheet : Sheet) (season : Results) (lots order : List ℕ) (i : ℕ)
    → IsTable sheet season lots order → i < length order → get_or order i 0 < length sheet.clubs
table-within sheet season lots order i ranked inside =
    below_clubs sheet (get_or order i 0)
    (sym (ranked.clubs (get_or order i 0)) ∙ has_club-member order i inside)

-- one more match
count_played-push : (club : ℕ) (matches : List Fixture) (scores : List (Option Score))
    (match : Fixture) (score : Option Score) → length scores ≡ length matches
    → count_played club (matches ++ match ∷ []) (scores ++ score ∷ [])
    ≡ count_played club matches scores + count_if_played club match score
count_played-push club [] [] match score same = omega arith
count_played-push club [] (other ∷ scores) match score same = absurd (omega (arith, same))
count_played-push club (other ∷ matches) [] match score same = absurd (omega (arith, same))
count_played-push club (first ∷ matches) (last ∷ scores) match score same =
    omega (arith, count_played-push club matches scores match score (omega (arith, same)))

-- a match more was counted
pub count-step : (club count : ℕ) (matches : List Fixture) (scores : List (Option Score))
    (none : Fixture) (i : ℕ) → i < length matches → length scores ≡ length matches
    → count ≡ count_played club (take i matches) (take i scores)
    → count + count_if_played club (get_or matches i none) (get_or scores i None)
    ≡ count_played club (take (i + 1) matches) (take (i + 1) scores)
count-step club count matches scores none i inside same before =
    let few : length (take i matches) ≡ i = length-take-le i matches (omega arith) in
    let as_few : length (take i scores) ≡ i = length-take-le i scores (omega (arith, same)) in
    let next = count_if_played club (get_or matches i none) (get_or scores i None) in
    ap (λ n. n + next) before
    ∙ sym (count_played-push club (take i matches) (take i scores) (get_or matches i none)
    (get_or scores i None) (as_few ∙ sym few))
    ∙ ap (λ ss. count_played club (take i matches ++ get_or matches i none ∷ []) ss)
    (sym (take_more scores i None (omega (arith, same))))
    ∙ ap (λ ms. count_played club ms (take (i + 1) scores)) (sym (take_more matches i none inside))

-- there is a span for each club
pub span-count : (sheet : Sheet) (season : Results) (spans : List PlaceRange)
    → spans ≡ spans_of sheet season → length spans ≡ length sheet.clubs
span-count sheet season spans are =
    ap length are ∙ length-map-range_with_len (span_of sheet season) 0 (length sheet.clubs)

-- at the number of a club stands its span
pub span-there : (sheet : Sheet) (season : Results) (spans : List PlaceRange) (club : ℕ)
    (none : PlaceRange)
    → spans ≡ spans_of sheet season → club < length sheet.clubs
    → get_or spans club none ≡ span_of sheet season club
span-there sheet season spans club none are inside =
    ap (λ ss. get_or ss club none) are
    ∙ get_or-map-range_with_len (span_of sheet season) 0 (length sheet.clubs) club club none inside
    (omega arith)

-- the sums of a club, as a row has them
pub row-is : (sheet : Sheet) (season : Results) (club : ℕ) (span : PlaceRange) (played : ℕ)
    (points difference scored : ℤ) (rest others : List ℤ) (row : TableRow)
    → row ≡ record {
      best = span.best;
      worst = span.worst;
      played = played;
      points = points;
      difference = difference;
      scored = scored;
    }
    → club < length sheet.clubs → span ≡ span_of sheet season club
    → played ≡ count_played club sheet.fixtures season.scores
    → points ≡ points_of sheet season club
    → difference ∷ scored ∷ rest
    ≡ sum_of goal_difference sheet season club ∷ sum_of goals sheet season club ∷ others
    → IsTableRow sheet season club row
row-is sheet season club span played points difference scored rest others row is inside spans
    is_played are_points sums =
    let P : TableRow → Type 0 = λ r. IsTableRow sheet season club r in
    subst P (sym is) (record {
      best = best_is sheet season club span.best inside (ap (λ s. s.best) spans);
      worst = worst_is sheet season club span.worst inside (ap (λ s. s.worst) spans);
      played = is_played;
      points = are_points;
      difference = ap (λ l. slice_index_or l 0 (pos 0)) sums;
      scored = ap (λ l. slice_index_or l 1 (pos 0)) sums;
    })
