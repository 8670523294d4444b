-- Lines that are brief are no longer than a line may be.
use Rattle.std.proofs.Common.{◌≡◌, ℕ, ◌+◌, ◌*◌, ◌≤◌, Bool, true, false, ◌==◌, nat_le, List, [], ◌∷◌}
use Rattle.std.proofs.Common.{map, length, refl, arith}
use Rattle.std.specs.Prelude.{decimal}
use Rattle.std.specs.List.{list_all, join_with_byte, range_with_len}
use Rattle.std.specs.Int.{bit_at}
use Rattle.std.proofs.lemmas.Bool.{and_parts, and_from, false≢true, le-leb, leb-true, ltb-true}
use Rattle.std.proofs.lemmas.List.{length-append}
use Rattle.std.proofs.lemmas.List.FromFn.{length-range_with_len}
use Rattle.std.proofs.lemmas.List.Sums.{length-filter, count_by-le-length}
use Rattle.league_core.specs.declared.club_set.ClubSet.{ClubSet}
use Rattle.league_core.specs.declared.question.Claim.{Claim}
use Rattle.league_core.specs.declared.question.Claim.TheVariants.{Inside, Outside}
use Rattle.league_core.specs.declared.zone.Reason.{Reason}
use Rattle.league_core.specs.declared.zone.Reason.TheVariants.{Count, Window, Low, High, Tie}
use Rattle.league_core.specs.declared.zone.Test.{Test}
use Rattle.league_core.specs.declared.zone.Test.TheVariants.{Home, Draw, HomeMost, AwayMost, Rival}
use Rattle.league_core.specs.game.ClubSets.{clubs_below, clubs_in}
use Rattle.cert_text.specs.declared.proof_line.ProofLine.{ProofLine}
use Rattle.cert_text.specs.declared.proof_line.ProofLine.TheVariants as line
use Rattle.cert_text.specs.Lines.{Part, word, whole, points, clubs, number_in_text, claim_word}
use Rattle.cert_text.specs.Lines.{test_parts, reason_parts, parts_of, array_text, part_text}
use Rattle.cert_text.specs.Lines.{text_of_proof_line}
use Rattle.cert_text.specs.Ranges.{is_club_number, is_in_range}
use Rattle.cert_text.proofs.PrintedLemmas.{is_small_part, small_line}
use Rattle.wide_lines.specs.WideTexts.{near_parts, text_of_near}
use Rattle.report_laws.proofs.BriefLemmas.{is_brief, may_show}
use Rattle.league_core.proofs.plain.Texts.{decimal-size}

-- ---- arrays

-- the bytes of these items, with one more for each
abbrev pub sizes : List (List ℕ) → ℕ
sizes [] = 0
sizes (item ∷ items) = length item + 1 + sizes items

join-size : (items : List (List ℕ)) → length (join_with_byte 44 items) ≤ sizes items
join-size [] = omega arith
join-size (item ∷ []) = omega arith
join-size (item ∷ next ∷ items) =
    omega (
      arith,
      join-size (next ∷ items),
      length-append item (44 ∷ join_with_byte 44 (next ∷ items)),
    )

pub array-size : (items : List (List ℕ)) → length (array_text items) ≤ 2 + sizes items
array-size items =
    omega (arith, join-size items, length-append (91 ∷ join_with_byte 44 items) (93 ∷ []))

clubs-size : (list : List ℕ) → list_all is_club_number list ≡ true
    → sizes (map (λ club. decimal (number_in_text club)) list) ≤ 5 * length list
clubs-size [] all = omega arith
clubs-size (club ∷ list) all =
    let parts = and_parts (is_club_number club) (list_all is_club_number list) all in
    let below = ltb-true club 24 parts.0 in
    omega (
      arith,
      decimal-size (number_in_text club) (omega (arith, below)),
      clubs-size list parts.1,
    )

-- ---- proof lines

-- a part with a short word, or with no more clubs than a set may name
abbrev is_slim_part : Part → Bool
is_slim_part (word name) = nat_le (length name) 20
is_slim_part (whole n) = true
is_slim_part (points n) = false
is_slim_part (clubs list) = nat_le (length list) 32

part-size : (part : Part) → is_small_part part ≡ true → is_slim_part part ≡ true
    → length (part_text part) ≤ 200
part-size (word name) small slim =
    let few = leb-true (length name) 20 slim in
    omega (arith, few, length-append (34 ∷ name) (34 ∷ []))
part-size (whole n) small slim = omega (arith, decimal-size n (ltb-true n 10000 small))
part-size (points n) small slim = absurd (false≢true slim)
part-size (clubs list) small slim =
    let few = leb-true (length list) 32 slim in
    omega (
      arith,
      few,
      clubs-size list small,
      array-size (map (λ club. decimal (number_in_text club)) list),
    )

parts-size : (parts : List Part) → list_all is_small_part parts ≡ true
    → list_all is_slim_part parts ≡ true → sizes (map part_text parts) ≤ 201 * length parts
parts-size [] small slim = omega arith
parts-size (part ∷ parts) small slim =
    let one = and_parts (is_small_part part) (list_all is_small_part parts) small in
    let two = and_parts (is_slim_part part) (list_all is_slim_part parts) slim in
    omega (arith, part-size part one.0 two.0, parts-size parts one.1 two.1)

claim-slim : (claim : Claim) → list_all is_slim_part (word (claim_word claim) ∷ []) ≡ true
claim-slim Inside = refl
claim-slim Outside = refl

test-slim : (test : Test) → list_all is_slim_part (test_parts test) ≡ true
test-slim (Home fixture) = refl
test-slim (Draw fixture) = refl
test-slim (HomeMost fixture most) = refl
test-slim (AwayMost fixture most) = refl
test-slim (Rival club) = refl

set-slim : (set : ClubSet) → list_all is_slim_part (clubs (clubs_in set) ∷ []) ≡ true
unfolding clubs_below
set-slim set =
    let test : ℕ → Bool = λ club. bit_at set.bits club == 1 in
    let size = length-filter test (range_with_len 0 32) in
    let most = count_by-le-length test (range_with_len 0 32) in
    and_from (nat_le (length (clubs_in set)) 32) true
    (le-leb (length (clubs_in set)) 32 (omega (arith, size, most, length-range_with_len 0 32)))
    refl

reason-slim : (reason : Reason) → list_all is_slim_part (reason_parts reason) ≡ true
reason-slim Count = refl
reason-slim Window = refl
reason-slim (Low set) = set-slim set
reason-slim (High set) = set-slim set
reason-slim Tie = refl

line-slim : (shown : ProofLine) → may_show shown ≡ true
    → list_all is_slim_part (parts_of shown) ≡ true
line-slim (line.Tree claim) may = claim-slim claim
line-slim (line.Spent claim) may = claim-slim claim
line-slim (line.SpentWindow claim low high) may = absurd (false≢true may)
line-slim (line.Split test) may = test-slim test
line-slim (line.NewSplit test) may = test-slim test
line-slim (line.Leaf reason) may = reason-slim reason
line-slim (line.NewLeaf reason) may = reason-slim reason
line-slim line.OpenLeaf may = refl
line-slim (line.Finish claim) may = claim-slim claim
line-slim (line.Score fixture score) may = refl
line-slim (line.Lots lots) may =
    let few = leb-true (length lots.list) 24 may in
    and_from (nat_le (length lots.list) 32) true
    (le-leb (length lots.list) 32 (omega (arith, few))) refl

test-few : (test : Test) → length (test_parts test) ≤ 3
test-few (Home fixture) = omega arith
test-few (Draw fixture) = omega arith
test-few (HomeMost fixture most) = omega arith
test-few (AwayMost fixture most) = omega arith
test-few (Rival club) = omega arith

reason-few : (reason : Reason) → length (reason_parts reason) ≤ 3
reason-few Count = omega arith
reason-few Window = omega arith
reason-few (Low set) = omega arith
reason-few (High set) = omega arith
reason-few Tie = omega arith

parts-few : (shown : ProofLine) → length (parts_of shown) ≤ 4
parts-few (line.Tree claim) = omega arith
parts-few (line.Spent claim) = omega arith
parts-few (line.SpentWindow claim low high) = omega arith
parts-few (line.Split test) = omega (arith, test-few test)
parts-few (line.NewSplit test) = omega (arith, test-few test)
parts-few (line.Leaf reason) = omega (arith, reason-few reason)
parts-few (line.NewLeaf reason) = omega (arith, reason-few reason)
parts-few line.OpenLeaf = omega arith
parts-few (line.Finish claim) = omega arith
parts-few (line.Score fixture score) = omega arith
parts-few (line.Lots lots) = omega arith

-- a brief line is short
pub line-size : (shown : ProofLine) → is_brief shown ≡ true
    → length (text_of_proof_line shown) ≤ 1000
line-size shown brief =
    let both = and_parts (is_in_range shown) (may_show shown) brief in
    let size = parts-size (parts_of shown) (small_line shown both.0) (line-slim shown both.1) in
    omega (arith, size, parts-few shown, array-size (map part_text (parts_of shown)))

-- so is a near leaf
pub near-size : (fresh : Bool) (rival : ℕ) → is_club_number rival ≡ true
    → length (text_of_near fresh rival) ≤ 1000
near-size fresh rival known =
    let below = ltb-true rival 24 known in
    let number = decimal-size (number_in_text rival) (omega (arith, below)) in
    let size = array-size (map part_text (near_parts fresh rival)) in
    by_word fresh number size
  where
    by_word : (fresh : Bool) → length (decimal (number_in_text rival)) ≤ 4
        → length (text_of_near fresh rival) ≤ 2 + sizes (map part_text (near_parts fresh rival))
        → length (text_of_near fresh rival) ≤ 1000
    by_word true number size = omega (arith, number, size)
    by_word false number size = omega (arith, number, size)
