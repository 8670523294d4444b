-- The value of a line in range has the line's form.
use Rattle.std.proofs.Common.{◌≡◌, ℕ, ◌+◌, ◌-◌, ◌<◌, ◌≤◌, ◌^◌, ℤ, pos, negsuc, true, ◌&&◌}
use Rattle.std.proofs.Common.{nat_le, List, [], ◌∷◌, map, codes, Some, refl, ap, ◌∙◌}
use Rattle.std.proofs.Common.{cond, None, arith}
use Rattle.std.specs.Prelude.{int_le, option_map, option_and_then}
use Rattle.std.specs.List.{list_all}
use Rattle.std.proofs.lemmas.Bool.{and_parts, and_from, ltb-true, leb-true, lt-ltb, le-leb}
use Rattle.std.proofs.lemmas.Int.{ints}
use Rattle.serde_json.specs.Data.{number, unsigned}
use Rattle.serde_json.specs.Find.{of_integer, as_i64}
use Rattle.serde_json.specs.View.{items_of}
use Rattle.league_core.specs.declared.club_set.ClubSet.{ClubSet}
use Rattle.league_core.specs.game.ClubSets.{clubs_in}
use Rattle.league_core.specs.search.Reasons.{has_member}
use Rattle.league_core.specs.declared.question.Claim.{Claim}
use Rattle.league_core.specs.declared.question.Claim.TheVariants.{Inside, Outside}
use Rattle.league_core.specs.declared.zone.Test.{Test}
use Rattle.league_core.specs.declared.zone.Test.TheVariants.{Home, Draw, HomeMost, AwayMost, Rival}
use Rattle.league_core.specs.declared.zone.Reason.{Reason}
use Rattle.league_core.specs.declared.zone.Reason.TheVariants.{Count, Window, Low, High, Tie}
use Rattle.league_core.specs.game.Limits.{most_clubs, most_fixtures}
use Rattle.cert_text.specs.declared.proof_line.ProofLine.{ProofLine}
use Rattle.cert_text.specs.declared.proof_line.ProofLine.TheVariants as line
use Rattle.cert_text.specs.Lines.{word, number_in_text, test_parts, reason_parts, parts_of}
use Rattle.cert_text.specs.Ranges.{is_fixture_number, is_club_number, is_goal_bound, are_points}
use Rattle.cert_text.specs.Ranges.{is_one_of, is_test_below, is_test_in_range}
use Rattle.cert_text.specs.Ranges.{is_set_in_range, is_reason_in_range}
use Rattle.cert_text.specs.Ranges.{is_in_range, most_goal_bound}
use Rattle.cert_text.specs.inside.Values.{parts_value}
use Rattle.cert_text.specs.Places.{if_between, number_here, if_points, listed_clubs, set_listed}
use Rattle.cert_text.specs.Forms.{test_in, test_below_in, reason_in, line_of_value}
use Rattle.cert_text.specs.inside.Widths.{is_set_kept, is_reason_kept, is_line_kept}
use Rattle.cert_text.proofs.BitSumLemmas.{set_listed-clubs_in}

-- a number within its bounds is found
between : (least most n : ℕ) → least ≤ n → n ≤ most → if_between least most n ≡ Some n
between least most n low high =
    ap (λ b. cond b (Some n) None)
    (and_from (nat_le least n) (nat_le n most) (le-leb least n low) (le-leb n most high))

-- a number in a text, counted from 0 again
counted : (most n : ℕ) → n < most
    → option_map number_here (if_between 1 most (number_in_text n)) ≡ Some n
counted most n below =
    ap (option_map number_here)
    (between 1 most (number_in_text n) (omega arith) (omega (arith, below)))
    ∙ ap Some (back n)
  where
    back : (n : ℕ) → n + 1 - 1 ≡ n
    back n = omega arith

number_back : (most n : ℕ) → is_one_of most n ≡ true
    → option_map number_here (if_between 1 most (number_in_text n)) ≡ Some n
number_back most n known = counted most n (ltb-true n most known)

up_to : (most n : ℕ) → nat_le n most ≡ true → if_between 0 most n ≡ Some n
up_to most n high = between 0 most n (omega arith) (leb-true n most high)

points_back : (points : ℤ) → are_points points ≡ true
    → option_and_then if_points (as_i64 (of_integer points)) ≡ Some points
points_back (pos n) within =
    ap (λ b. option_and_then if_points (cond b (Some (pos n)) None))
    (lt-ltb n (2 ^ 63) (omega (arith, small)))
    ∙ ap (λ b. cond b (Some (pos n)) None) within
  where
    small : n ≤ 1800
    small =
        let ends = and_parts (int_le (negsuc 98) (pos n)) (int_le (pos n) (pos 1800)) within in
        let high : int_le (pos n) (pos 1800) ≡ true = ends.1 in
        grind (arith, ints)
points_back (negsuc n) within = ap (λ b. cond b (Some (negsuc n)) None) within

pub clubs_back : (most : ℕ) (clubs : List ℕ) → list_all (is_one_of most) clubs ≡ true
    → listed_clubs most (items_of (map (λ club. number (unsigned (number_in_text club))) clubs))
    ≡ Some clubs
clubs_back most [] all = refl
clubs_back most (club ∷ clubs) all =
    let parts = and_parts (is_one_of most club) (list_all (is_one_of most) clubs) all in
    let rest = listed_clubs most
    (items_of (map (λ club. number (unsigned (number_in_text club))) clubs)) in
    ap (λ first. option_and_then (λ c. option_map (λ cs. c ∷ cs) rest) first)
    (number_back most club parts.0)
    ∙ ap (option_map (λ cs. club ∷ cs)) (clubs_back most clubs parts.1)

set_back : (set : ClubSet) → is_set_in_range set ≡ true → is_set_kept set ≡ true
    → option_and_then set_listed
    (listed_clubs most_clubs
    (items_of (map (λ club. number (unsigned (number_in_text club))) (clubs_in set))))
    ≡ Some set
set_back set within kept =
    let parts = and_parts (has_member (clubs_in set)) (list_all is_club_number (clubs_in set))
    within in
    ap (option_and_then set_listed) (clubs_back most_clubs (clubs_in set) parts.1)
    ∙ set_listed-clubs_in set (ltb-true set.bits (2 ^ 32) kept) parts.0 parts.1

bounded_back : (test : ℕ → ℕ → Test) (fixtures fixture most : ℕ)
    → (is_one_of fixtures fixture && is_goal_bound most) ≡ true
    → option_and_then (λ f. option_map (test f) (if_between 0 most_goal_bound most))
    (option_map number_here (if_between 1 fixtures (number_in_text fixture)))
    ≡ Some (test fixture most)
bounded_back test fixtures fixture most within =
    let parts = and_parts (is_one_of fixtures fixture) (is_goal_bound most) within in
    ap (option_and_then (λ f. option_map (test f) (if_between 0 most_goal_bound most)))
    (number_back fixtures fixture parts.0)
    ∙ ap (option_map (test fixture)) (up_to most_goal_bound most parts.1)

-- a test of one of so many fixtures or clubs
pub test_below_back : (fixtures clubs : ℕ) (name : List ℕ) (test : Test)
    → is_test_below fixtures clubs test ≡ true
    → test_below_in fixtures clubs (parts_value (word name ∷ test_parts test)) ≡ Some test
test_below_back fixtures clubs name (Home fixture) within =
    ap (option_map (λ f. Home f)) (number_back fixtures fixture within)
test_below_back fixtures clubs name (Draw fixture) within =
    ap (option_map (λ f. Draw f)) (number_back fixtures fixture within)
test_below_back fixtures clubs name (HomeMost fixture most) within =
    bounded_back (λ f most. HomeMost f most) fixtures fixture most within
test_below_back fixtures clubs name (AwayMost fixture most) within =
    bounded_back (λ f most. AwayMost f most) fixtures fixture most within
test_below_back fixtures clubs name (Rival club) within =
    ap (option_map (λ c. Rival c)) (number_back clubs club within)

test_back : (name : List ℕ) (test : Test) → is_test_in_range test ≡ true
    → test_in (parts_value (word name ∷ test_parts test)) ≡ Some test
test_back name test within = test_below_back most_fixtures most_clubs name test within

reason_back : (name : List ℕ) (reason : Reason) → is_reason_in_range reason ≡ true
    → is_reason_kept reason ≡ true
    → reason_in (parts_value (word name ∷ reason_parts reason)) ≡ Some reason
reason_back name Count within kept = refl
reason_back name Window within kept = refl
reason_back name (Low set) within kept = ap (option_map (λ s. Low s)) (set_back set within kept)
reason_back name (High set) within kept = ap (option_map (λ s. High s)) (set_back set within kept)
reason_back name Tie within kept = refl

window_back : (claim : Claim) (low high : ℤ) → (are_points low && are_points high) ≡ true
    → option_and_then
    (λ l. option_map (λ h. line.SpentWindow claim l h)
    (option_and_then if_points (as_i64 (of_integer high))))
    (option_and_then if_points (as_i64 (of_integer low)))
    ≡ Some (line.SpentWindow claim low high)
window_back claim low high within =
    let parts = and_parts (are_points low) (are_points high) within in
    ap (option_and_then (λ l. option_map (λ h. line.SpentWindow claim l h)
    (option_and_then if_points (as_i64 (of_integer high))))) (points_back low parts.0)
    ∙ ap (option_map (λ h. line.SpentWindow claim low h)) (points_back high parts.1)

score_back : (fixture home away : ℕ)
    → (is_fixture_number fixture && (nat_le home 99 && nat_le away 99)) ≡ true
    → line_of_value (parts_value (parts_of
    (line.Score fixture (record { home = home; away = away }))))
    ≡ Some (line.Score fixture (record { home = home; away = away }))
score_back fixture home away within =
    let parts = and_parts (is_fixture_number fixture) (nat_le home 99 && nat_le away 99) within in
    let sides = and_parts (nat_le home 99) (nat_le away 99) parts.1 in
    ap (option_and_then (λ f. option_and_then (λ h. option_map (λ a. scored f h a)
    (if_between 0 99 away)) (if_between 0 99 home))) (number_back most_fixtures fixture parts.0)
    ∙ ap (option_and_then (λ h. option_map (λ a. scored fixture h a) (if_between 0 99 away)))
    (up_to 99 home sides.0)
    ∙ ap (option_map (λ a. scored fixture home a)) (up_to 99 away sides.1)
  where
    scored : ℕ → ℕ → ℕ → ProofLine
    scored f h a = line.Score f (record { home = h; away = a })

-- the value of a line's parts has the line's form
pub line_back : (x : ProofLine) → is_in_range x ≡ true → is_line_kept x ≡ true
    → line_of_value (parts_value (parts_of x)) ≡ Some x
line_back (line.Tree Inside) within kept = refl
line_back (line.Tree Outside) within kept = refl
line_back (line.Spent Inside) within kept = refl
line_back (line.Spent Outside) within kept = refl
line_back (line.SpentWindow Inside low high) within kept = window_back Inside low high within
line_back (line.SpentWindow Outside low high) within kept = window_back Outside low high within
line_back (line.Split test) within kept =
    ap (option_map (λ t. line.Split t)) (test_back (codes "split") test within)
line_back (line.NewSplit test) within kept =
    ap (option_map (λ t. line.NewSplit t)) (test_back (codes "new_split") test within)
line_back (line.Leaf reason) within kept =
    ap (option_map (λ r. line.Leaf r)) (reason_back (codes "leaf") reason within kept)
line_back (line.NewLeaf reason) within kept =
    ap (option_map (λ r. line.NewLeaf r)) (reason_back (codes "new_leaf") reason within kept)
line_back line.OpenLeaf within kept = refl
line_back (line.Finish Inside) within kept = refl
line_back (line.Finish Outside) within kept = refl
line_back (line.Score fixture score) within kept =
    score_back fixture score.home score.away within
line_back (line.Lots lots) within kept =
    ap (option_map (λ clubs. line.Lots (record { list = clubs })))
    (clubs_back most_clubs lots.list within)
