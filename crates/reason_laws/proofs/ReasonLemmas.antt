-- Reasons are sound: if one holds, the question holds at no member of the zone. Here are the counts
-- of marked rivals, the window and both cuts.
use Rattle.std.proofs.Common.{◌≡◌, ℕ, ◌-◌, ◌<◌, ◌≤◌, ℤ, ◌≤ℤ◌, Bool, true, false, not, ◌&&◌, nat_le}
use Rattle.std.proofs.Common.{List, [], ◌∷◌, length, count_by, sym, ap, ◌∙◌, inl, inr, arith}
use Rattle.std.specs.Prelude.{int_lt, int_le}
use Rattle.std.specs.List.{list_all}
use Rattle.std.proofs.lemmas.Int.{ints, clamps}
use Rattle.std.proofs.lemmas.Bool.{false≢true, and_parts, or_cases, leb-true, lt-leb}
use Rattle.std.proofs.lemmas.Bool.Decides.{nat_tests}
use Rattle.std.proofs.lemmas.List.FromFn.{length-range_with_len}
use Rattle.league_core.specs.declared.sheet.Sheet.{Sheet}
use Rattle.league_core.specs.declared.question.Claim.{Claim}
use Rattle.league_core.specs.declared.question.Claim.TheVariants.{Inside, Outside}
use Rattle.league_core.specs.declared.question.Question.{Question}
use Rattle.league_core.specs.declared.zone.Literal.{Literal}
use Rattle.league_core.specs.game.Results.{Results}
use Rattle.league_core.specs.game.Sheets.{clubs_of}
use Rattle.league_core.specs.game.Sums.{points_of}
use Rattle.league_core.specs.game.Ranking.{ranks_before, place_of, is_inside}
use Rattle.league_core.specs.game.Questions.{is_on_side, is_in_window, holds_at}
use Rattle.league_core.specs.search.Zones.{rivals_of, marked_before, marked_after, IsMember}
use Rattle.league_core.specs.search.PointRanges.{least_points_of, most_points_of, own_most}
use Rattle.league_core.specs.search.PointRanges.{own_least}
use Rattle.league_core.specs.search.Reasons.{too_many, refutes_by_count, refutes_by_window}
use Rattle.league_core.specs.search.Reasons.{has_member, times, refutes_by_low, refutes_by_high}
use Rattle.league_core.proofs.ClubLemmas.{range_has}
use Rattle.league_core.proofs.RankingLemmas.{ranks_before-itself}
use Rattle.reason_laws.proofs.MemberLemmas.{member_in_box, points_in_box, total_at_most}
use Rattle.reason_laws.proofs.MemberLemmas.{total_at_least}
use Rattle.reason_laws.proofs.MarkedOrderLemmas.{points_not_before, before_is, after_is}
use Rattle.reason_laws.proofs.RivalCountLemmas.{count_by-front, count_by-three, count_by-own}
use Rattle.league_core.proofs.TableLemmas.{ranks_before-points}
use Rattle.league_core.proofs.plain.Numbers.{int_lt-true}

-- with too many rivals before the club its place is not inside the line, with too many behind it is
pub too_many_says : (sheet : Sheet) (question : Question) (finish : Results) (lots : List ℕ)
    (front back : ℕ → Bool) (claim : Claim) → question.club < length sheet.clubs
    → ((other : ℕ) → front other ≡ true
    → ranks_before sheet finish lots other question.club ≡ true)
    → ((other : ℕ) → back other ≡ true
    → ranks_before sheet finish lots other question.club ≡ false)
    → too_many sheet question front back claim ≡ true
    → is_on_side (is_inside sheet finish lots question.club question.line) claim ≡ false
too_many_says sheet question finish lots front back Inside club_in ahead behind many =
    let before = λ (other : ℕ). ranks_before sheet finish lots other question.club in
    let enough : question.line
    ≤ count_by front (rivals_of sheet question.club) = leb-true question.line
    (count_by front (rivals_of sheet question.club)) many in
    let fewer = count_by-front front before question.club (clubs_of sheet) ahead in
    lt-leb (place_of sheet finish lots question.club) question.line (omega arith)
too_many_says sheet question finish lots front back Outside club_in ahead behind many =
    let before = λ (other : ℕ). ranks_before sheet finish lots other question.club in
    let enough : length sheet.clubs - question.line
    ≤ count_by back (rivals_of sheet question.club) = leb-true (length sheet.clubs - question.line)
    (count_by back (rivals_of sheet question.club)) many in
    let itself = ranks_before-itself sheet finish lots question.club in
    let three = count_by-three back before question.club (clubs_of sheet) behind itself in
    let own = count_by-own question.club (clubs_of sheet)
    (range_has (length sheet.clubs) question.club club_in) in
    let all = length-range_with_len 0 (length sheet.clubs) in
    ap not (inside (place_of sheet finish lots question.club) question.line (omega arith))
  where
    inside : (m n : ℕ) → m ≤ n → nat_le m n ≡ true
    inside m n h = grind (arith, nat_tests)

-- a question holds only in its window and on its side
pub holds_parts : (sheet : Sheet) (question : Question) (finish : Results) (lots : List ℕ)
    → holds_at sheet question finish lots ≡ true
    → (question.low ≤ℤ points_of sheet finish question.club)
    × (points_of sheet finish question.club ≤ℤ question.high)
    × (is_on_side (is_inside sheet finish lots question.club question.line) question.claim ≡ true)
holds_parts sheet question finish lots holds =
    let parts = and_parts (is_in_window question (points_of sheet finish question.club))
    (is_on_side (is_inside sheet finish lots question.club question.line) question.claim) holds in
    let window = and_parts (int_le question.low (points_of sheet finish question.club))
    (int_le (points_of sheet finish question.club) question.high) parts.0 in (
      at_most question.low (points_of sheet finish question.club) window.0,
      at_most
          (points_of sheet finish question.club) question.high window.1,
      parts.1,
    )
  where
    at_most : (a b : ℤ) → int_le a b ≡ true → a ≤ℤ b
    at_most a b h = grind (arith, ints)

-- no member of a zone that marks too many rivals
pub count_says : (sheet : Sheet) (season : Results) (question : Question) (zone : List Literal)
    (finish : Results) (lots : List ℕ) → question.club < length sheet.clubs
    → IsMember sheet season question.club zone finish lots
    → refutes_by_count sheet question zone ≡ true → holds_at sheet question finish lots ≡ true → ⊥
count_says sheet season question zone finish lots club_in member reason holds =
    let parts = holds_parts sheet question finish lots holds in
    let off = too_many_says sheet question finish lots (marked_before zone) (marked_after
    zone) question.claim club_in
    (λ other. before_is sheet question.club finish lots zone other member.literals)
    (λ other. after_is sheet question.club finish lots zone other member.literals) reason in
    false≢true (sym off ∙ parts.2)

-- the club's own points at a member of the zone
own_points : (sheet : Sheet) (season : Results) (club : ℕ) (zone : List Literal) (finish : Results)
    (lots : List ℕ) → IsMember sheet season club zone finish lots
    → (least_points_of sheet season zone (club ∷ []) ≤ℤ points_of sheet finish club)
    × (points_of sheet finish club ≤ℤ most_points_of sheet season zone (club ∷ []))
own_points sheet season club zone finish lots member =
    let bounds = points_in_box sheet season zone finish (club ∷
    []) (member_in_box sheet season club zone finish lots member) in
    (omega (arith, ints), omega (arith, ints))

pub window_says : (sheet : Sheet) (season : Results) (question : Question) (zone : List Literal)
    (finish : Results) (lots : List ℕ) → IsMember sheet season question.club zone finish lots
    → refutes_by_window sheet season question zone ≡ true
    → holds_at sheet question finish lots ≡ true → ⊥
window_says sheet season question zone finish lots member reason holds =
    let parts = holds_parts sheet question finish lots holds in
    let own = own_points sheet season question.club zone finish lots member in
    elim (or_cases (int_lt (most_points_of sheet season zone (question.club ∷ [])) question.low)
    (int_lt question.high (least_points_of sheet season zone (question.club ∷ [])))
    reason) as (λ _. ⊥) [
      | inl low ↦ let h = int_lt-true (most_points_of sheet season zone (question.club ∷ []))
          question.low low in omega (arith, ints)
      | inr high ↦ let h = int_lt-true question.high
          (least_points_of sheet season zone (question.club ∷ [])) high in omega (arith, ints)
    ]

-- rivals marked after the club have at most its points, and at most what it can have in the window
pub floor_says : (sheet : Sheet) (season : Results) (question : Question) (zone : List Literal)
    (clubs : List ℕ) (finish : Results) (lots : List ℕ)
    → IsMember sheet season question.club zone finish lots
    → refutes_by_low sheet season question zone clubs ≡ true
    → holds_at sheet question finish lots ≡ true → ⊥
floor_says sheet season question zone clubs finish lots member reason holds =
    let parts = holds_parts sheet question finish lots holds in
    let own = own_points sheet season question.club zone finish lots member in
    let box = member_in_box sheet season question.club zone finish lots member in
    let halves = and_parts (has_member clubs && list_all (marked_after zone) clubs)
    (int_lt (times clubs (own_most sheet season question zone))
    (least_points_of sheet season zone clubs)) reason in
    let marks = and_parts (has_member clubs) (list_all (marked_after zone) clubs) halves.0 in
    let more = int_lt-true (times clubs (own_most sheet season question zone))
    (least_points_of sheet season zone clubs) halves.1 in
    let below : points_of sheet finish question.club ≤ℤ own_most sheet season question zone = omega
    (arith, ints, clamps) in
    let each : (club :
    ℕ) → marked_after zone club ≡ true
    → points_of sheet finish club ≤ℤ own_most sheet season question zone =
    λ club marked. let h = points_not_before sheet finish lots club question.club
    (after_is sheet question.club finish lots zone club member.literals marked) in omega
    (arith, ints) in
    let together = total_at_most (points_of sheet finish) (own_most sheet season question
    zone) (marked_after zone) clubs each marks.1 in
    let bounds = points_in_box sheet season zone finish clubs box in
    omega (arith, ints)

-- rivals marked before the club have at least its points, and at least what it can have in the
-- window
pub ceiling_says : (sheet : Sheet) (season : Results) (question : Question) (zone : List Literal)
    (clubs : List ℕ) (finish : Results) (lots : List ℕ)
    → IsMember sheet season question.club zone finish lots
    → refutes_by_high sheet season question zone clubs ≡ true
    → holds_at sheet question finish lots ≡ true → ⊥
ceiling_says sheet season question zone clubs finish lots member reason holds =
    let parts = holds_parts sheet question finish lots holds in
    let own = own_points sheet season question.club zone finish lots member in
    let box = member_in_box sheet season question.club zone finish lots member in
    let halves = and_parts (has_member clubs && list_all (marked_before zone) clubs)
    (int_lt (most_points_of sheet season zone clubs)
    (times clubs (own_least sheet season question zone))) reason in
    let marks = and_parts (has_member clubs) (list_all (marked_before zone) clubs) halves.0 in
    let fewer = int_lt-true (most_points_of sheet season zone clubs) (times clubs
    (own_least sheet season question zone)) halves.1 in
    let above : own_least sheet season question zone ≤ℤ points_of sheet finish question.club =
    omega (arith, ints, clamps) in
    let each : (club :
    ℕ) → marked_before zone club ≡ true
    → own_least sheet season question zone ≤ℤ points_of sheet finish club =
    λ club marked. let h = ranks_before-points sheet finish lots club question.club
    (before_is sheet question.club finish lots zone club member.literals marked) in omega
    (arith, ints) in
    let together = total_at_least (points_of sheet finish) (own_least sheet season question
    zone) (marked_before zone) clubs each marks.1 in
    let bounds = points_in_box sheet season zone finish clubs box in
    omega (arith, ints)
