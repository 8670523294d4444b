-- The text of a line in range has printed characters alone.
use Rattle.std.proofs.Common.{◌≡◌, ℕ, suc, ◌+◌, ◌<◌, ◌≤◌, ◌%◌, ◌^◌, ℤ, pos, negsuc, Bool, true}
use Rattle.std.proofs.Common.{◌&&◌, nat_lt, nat_le, List, [], ◌∷◌, ◌++◌, map, decimal, refl, ◌∙◌}
use Rattle.std.proofs.Common.{arith}
use Rattle.std.specs.Prelude.{int_le}
use Rattle.std.specs.List.{list_all, join_with_byte}
use Rattle.std.specs.Fmt.{signed_decimal}
use Rattle.std.proofs.lemmas.Bool.{and_parts, and_from, ltb-true, leb-true, lt-ltb, le-leb}
use Rattle.std.proofs.lemmas.Int.{ints}
use Rattle.std.proofs.lemmas.Fmt.{decimal_by_steps}
use Rattle.std.proofs.lemmas.List.Folds.{list_all-append}
use Rattle.league_core.specs.declared.season.Score.{Score}
use Rattle.league_core.specs.game.Results.{is_score}
use Rattle.league_core.specs.declared.club_set.ClubSet.{ClubSet}
use Rattle.league_core.specs.game.ClubSets.{clubs_in}
use Rattle.league_core.specs.search.Reasons.{has_member}
use Rattle.league_core.specs.declared.question.Claim.{Claim}
use Rattle.league_core.specs.declared.question.Claim.TheVariants.{Inside, Outside}
use Rattle.league_core.specs.declared.zone.Test.{Test}
use Rattle.league_core.specs.declared.zone.Test.TheVariants.{Home, Draw, HomeMost, AwayMost, Rival}
use Rattle.league_core.specs.declared.zone.Reason.{Reason}
use Rattle.league_core.specs.declared.zone.Reason.TheVariants.{Count, Window, Low, High, Tie}
use Rattle.league_core.specs.game.Limits.{most_clubs, most_fixtures}
use Rattle.cert_text.specs.declared.proof_line.ProofLine.{ProofLine}
use Rattle.cert_text.specs.declared.proof_line.ProofLine.TheVariants as line
use Rattle.cert_text.specs.Lines.{Part, word, whole, points, clubs, number_in_text, claim_word}
use Rattle.cert_text.specs.Lines.{test_parts, reason_parts, parts_of, array_text, part_text}
use Rattle.cert_text.specs.Lines.{is_printed, text_of_proof_line}
use Rattle.cert_text.specs.Ranges.{is_one_of, is_fixture_number, is_club_number, is_goal_bound}
use Rattle.cert_text.specs.Ranges.{are_points, is_test_below, is_set_in_range}
use Rattle.cert_text.specs.Ranges.{is_reason_in_range}
use Rattle.cert_text.specs.Ranges.{is_in_range}
use Rattle.league_core.proofs.plain.TruthValues.{true_and_true, two_and_true}

is_printed-from : (byte : ℕ) → 32 ≤ byte → byte < 127 → is_printed byte ≡ true
is_printed-from byte low high =
    and_from (nat_le 32 byte) (nat_lt byte 127) (le-leb 32 byte low) (lt-ltb byte 127 high)

one_printed : (byte : ℕ) → 32 ≤ byte → byte < 127 → list_all is_printed (byte ∷ []) ≡ true
one_printed byte low high = and_from (is_printed byte) true (is_printed-from byte low high) refl

both_printed : (xs ys : List ℕ) → list_all is_printed xs ≡ true → list_all is_printed ys ≡ true
    → list_all is_printed (xs ++ ys) ≡ true
both_printed xs ys first second =
    list_all-append is_printed xs ys
    ∙ and_from (list_all is_printed xs) (list_all is_printed ys) first second

-- digits are printed
decimal_printed : (n : ℕ) → n < 2 ^ 64 → list_all is_printed (decimal n) ≡ true
decimal_printed = decimal_by_steps (λ n ds. list_all is_printed ds ≡ true)
    (λ n small. one_printed (48 + n) (omega arith) (omega arith))
    (λ n ds large printed. both_printed ds ((48 + n % 10) ∷ []) printed
    (one_printed (48 + n % 10) (omega arith) (omega arith)))

small_printed : (n : ℕ) → n < 10000 → list_all is_printed (decimal n) ≡ true
small_printed n small = decimal_printed n (omega arith)

-- printed items with commas between them are printed
items_printed : {X : Type 0} (text : X → List ℕ) (known : X → Bool)
    → ((x : X) → known x ≡ true → list_all is_printed (text x) ≡ true) → (xs : List X)
    → list_all known xs ≡ true → list_all is_printed (join_with_byte 44 (map text xs)) ≡ true
items_printed text known each [] all = refl
items_printed text known each (x ∷ []) all = each x (and_parts (known x) true all).0
items_printed text known each (x ∷ next ∷ xs) all =
    let parts = and_parts (known x) (list_all known (next ∷ xs)) all in
    both_printed (text x) (44 ∷ join_with_byte 44 (map text (next ∷ xs))) (each x parts.0)
    (items_printed text known each (next ∷ xs) parts.1)

-- and so is their array
array_printed : {X : Type 0} (text : X → List ℕ) (known : X → Bool)
    → ((x : X) → known x ≡ true → list_all is_printed (text x) ≡ true) → (xs : List X)
    → list_all known xs ≡ true → list_all is_printed (array_text (map text xs)) ≡ true
array_printed text known each xs all =
    both_printed (91 ∷ join_with_byte 44 (map text xs)) (93 ∷ [])
    (items_printed text known each xs all) refl

-- a part whose word is printed and whose numbers are small, those of clubs below this bound
abbrev pub is_small_below : ℕ → Part → Bool
is_small_below most (word name) = list_all is_printed name
is_small_below most (whole n) = nat_lt n 10000
is_small_below most (points n) = are_points n
is_small_below most (clubs list) = list_all (is_one_of most) list

-- those of a league
abbrev pub is_small_part : Part → Bool
is_small_part part = is_small_below most_clubs part

points_printed : (n : ℤ) → are_points n ≡ true → list_all is_printed (signed_decimal n) ≡ true
points_printed (pos n) within =
    let ends = and_parts (int_le (negsuc 98) (pos n)) (int_le (pos n) (pos 1800)) within in
    small_printed n (small n ends.1)
  where
    small : (k : ℕ) → int_le (pos k) (pos 1800) ≡ true → k < 10000
    small k h = grind (arith, ints)
points_printed (negsuc n) within =
    let ends = and_parts (int_le (negsuc 98) (negsuc n)) (int_le (negsuc n) (pos 1800)) within in
    small_printed (suc n) (small n ends.0)
  where
    small : (k : ℕ) → int_le (negsuc 98) (negsuc k) ≡ true → suc k < 10000
    small k h = grind (arith, ints)

part_printed : (most : ℕ) → most < 10000 → (part : Part) → is_small_below most part ≡ true
    → list_all is_printed (part_text part) ≡ true
part_printed most few (word name) small = both_printed (34 ∷ name) (34 ∷ []) small refl
part_printed most few (whole n) small = small_printed n (ltb-true n 10000 small)
part_printed most few (points n) small = points_printed n small
part_printed most few (clubs list) small =
    array_printed (λ club. decimal (number_in_text club)) (is_one_of most)
    (λ club known. club_printed club (ltb-true club most known)) list small
  where
    club_printed : (club : ℕ) → club < most
        → list_all is_printed (decimal (number_in_text club)) ≡ true
    club_printed club below = small_printed (number_in_text club) (omega (arith, below, few))

small_claim : (claim : Claim) → list_all is_printed (claim_word claim) ≡ true
small_claim Inside = refl
small_claim Outside = refl

pub small_number : (most n : ℕ) → most < 10000 → is_one_of most n ≡ true
    → nat_lt (number_in_text n) 10000 ≡ true
small_number most n few known =
    let below = ltb-true n most known in
    lt-ltb (number_in_text n) 10000 (omega (arith, below, few))

-- at most 99 goals
small_goals : (goals most : ℕ) → most < 10000 → nat_le goals most ≡ true
    → nat_lt goals 10000 ≡ true
small_goals goals most small known =
    let within = leb-true goals most known in
    lt-ltb goals 10000 (omega arith)

-- the numbers of a test of one of so many fixtures or clubs
pub small_test : (fixtures club_count : ℕ) → fixtures < 10000 → club_count < 10000 → (test : Test)
    → is_test_below fixtures club_count test ≡ true
    → list_all (is_small_below club_count) (test_parts test) ≡ true
small_test fixtures club_count short few (Home fixture) known =
    true_and_true (nat_lt (number_in_text fixture) 10000)
    (small_number fixtures fixture short known)
small_test fixtures club_count short few (Draw fixture) known =
    true_and_true (nat_lt (number_in_text fixture) 10000)
    (small_number fixtures fixture short known)
small_test fixtures club_count short few (HomeMost fixture most) known =
    let parts = and_parts (is_one_of fixtures fixture) (is_goal_bound most) known in
    two_and_true (nat_lt (number_in_text fixture) 10000) (nat_lt most 10000)
    (small_number fixtures fixture short parts.0) (small_goals most 98 (omega arith) parts.1)
small_test fixtures club_count short few (AwayMost fixture most) known =
    let parts = and_parts (is_one_of fixtures fixture) (is_goal_bound most) known in
    two_and_true (nat_lt (number_in_text fixture) 10000) (nat_lt most 10000)
    (small_number fixtures fixture short parts.0) (small_goals most 98 (omega arith) parts.1)
small_test fixtures club_count short few (Rival club) known =
    true_and_true (nat_lt (number_in_text club) 10000) (small_number club_count club few known)

small_set : (set : ClubSet) → is_set_in_range set ≡ true
    → (list_all is_club_number (clubs_in set) && true) ≡ true
small_set set known =
    true_and_true (list_all is_club_number (clubs_in set))
    (and_parts (has_member (clubs_in set)) (list_all is_club_number (clubs_in set)) known).1

small_reason : (reason : Reason) → is_reason_in_range reason ≡ true
    → list_all is_small_part (reason_parts reason) ≡ true
small_reason Count known = refl
small_reason Window known = refl
small_reason (Low set) known = small_set set known
small_reason (High set) known = small_set set known
small_reason Tie known = refl

small_score : (fixture : ℕ) (score : Score)
    → (is_fixture_number fixture && is_score score) ≡ true
    → (nat_lt (number_in_text fixture) 10000
    && (nat_lt score.home 10000 && (nat_lt score.away 10000 && true))) ≡ true
small_score fixture score known =
    let parts = and_parts (is_fixture_number fixture) (is_score score) known in
    let goals = and_parts (nat_le score.home 99) (nat_le score.away 99) parts.1 in
    and_from (nat_lt (number_in_text fixture) 10000)
    (nat_lt score.home 10000 && (nat_lt score.away 10000 && true))
    (small_number most_fixtures fixture (omega arith) parts.0)
    (two_and_true (nat_lt score.home 10000) (nat_lt score.away 10000)
    (small_goals score.home 99 (omega arith) goals.0)
    (small_goals score.away 99 (omega arith) goals.1))

pub small_line : (x : ProofLine) → is_in_range x ≡ true → list_all is_small_part (parts_of x) ≡ true
small_line (line.Tree claim) known = true_and_true (list_all is_printed (claim_word claim))
    (small_claim claim)
small_line (line.Spent claim) known = true_and_true (list_all is_printed (claim_word claim))
    (small_claim claim)
small_line (line.SpentWindow claim low high) known =
    let ends = and_parts (are_points low) (are_points high) known in
    and_from (list_all is_printed (claim_word claim)) (are_points low && (are_points high && true))
    (small_claim claim) (two_and_true (are_points low) (are_points high) ends.0 ends.1)
small_line (line.Split test) known =
    small_test most_fixtures most_clubs (omega arith) (omega arith) test known
small_line (line.NewSplit test) known =
    small_test most_fixtures most_clubs (omega arith) (omega arith) test known
small_line (line.Leaf reason) known = small_reason reason known
small_line (line.NewLeaf reason) known = small_reason reason known
small_line line.OpenLeaf known = refl
small_line (line.Finish claim) known = true_and_true (list_all is_printed (claim_word claim))
    (small_claim claim)
small_line (line.Score fixture score) known = small_score fixture score known
small_line (line.Lots lots) known = true_and_true (list_all is_club_number lots.list) known

-- the text of small parts is printed
pub parts_printed : (most : ℕ) → most < 10000 → (parts : List Part)
    → list_all (is_small_below most) parts ≡ true
    → list_all is_printed (array_text (map part_text parts)) ≡ true
parts_printed most few parts small =
    array_printed part_text (is_small_below most) (part_printed most few) parts small

-- the text of a line in range is printed
pub line_printed : (x : ProofLine) → is_in_range x ≡ true
    → list_all is_printed (text_of_proof_line x) ≡ true
line_printed x known = parts_printed most_clubs (omega arith) (parts_of x) (small_line x known)
