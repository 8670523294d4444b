-- Members of a zone: their scores are options there, and their sums lie in the ranges.
use Rattle.std.proofs.Common.{◌≡◌, ℕ, suc, ◌+◌, ℤ, pos, ◌-ℤ◌, ◌*ℤ◌, ◌≤ℤ◌, Bool, true, not, List, []}
use Rattle.std.proofs.Common.{◌∷◌, length, get_or, slice_index, Option, Some, None, refl, sym, ap}
use Rattle.std.proofs.Common.{◌∙◌, inl, inr, arith}
use Rattle.std.specs.List.{list_all}
use Rattle.std.proofs.lemmas.Int.{ints}
use Rattle.std.proofs.lemmas.Bool.{false≢true, and_parts, and_from, or_left, or_right, cases_Bool}
use Rattle.std.proofs.lemmas.Bool.{eqb-true}
use Rattle.league_core.specs.declared.sheet.Sheet.{Sheet}
use Rattle.league_core.specs.declared.sheet.Fixture.{Fixture}
use Rattle.league_core.specs.declared.season.Score.{Score}
use Rattle.league_core.specs.declared.zone.Test.{Test}
use Rattle.league_core.specs.declared.zone.Test.TheVariants.{Home, Draw, HomeMost, AwayMost, Rival}
use Rattle.league_core.specs.declared.zone.Literal.{Literal}
use Rattle.league_core.specs.game.Results.{Results}
use Rattle.league_core.specs.game.Finishes.{may_end, may_all_end}
use Rattle.league_core.specs.game.Sums.{sum_over, worth_to, match_points, sum_of, points_of}
use Rattle.league_core.specs.search.Zones.{passes, is_on, has_passed, is_test_true, is_as_said}
use Rattle.league_core.specs.search.Zones.{is_literal_true, are_literals_true, IsMember}
use Rattle.league_core.specs.search.Options.{meets_literal, meets, options_of, options_from}
use Rattle.league_core.specs.search.Options.{options_in, takes_option, take_options, IsInBox}
use Rattle.league_core.specs.search.PointRanges.{range_from, total_of, points_together}
use Rattle.league_core.specs.search.PointRanges.{least_points_of, most_points_of}
use Rattle.league_core.proofs.OptionLemmas.{has_score-options_of}
use Rattle.league_core.proofs.SumLemmas.{total_of-sum_over}
use Rattle.league_core.proofs.PointRangeLemmas.{range_bounds}
use Rattle.league_core.proofs.plain.Numbers.{times-suc}
use Rattle.league_core.proofs.plain.Lists.{list_all-weaker}

-- a test of a fixture is true exactly when the fixture's score passes
test_at : (sheet : Sheet) (club : ℕ) (finish : Results) (lots : List ℕ) (test : Test) (fixture : ℕ)
    (score : Score) → is_on fixture test ≡ true → get_or finish.scores fixture None ≡ Some score
    → is_test_true sheet club finish lots test ≡ passes test score
test_at sheet club finish lots (Home f) fixture score on at =
    ap (has_passed (Home f)) (ap (λ n. get_or finish.scores n None) (eqb-true f fixture on) ∙ at)
test_at sheet club finish lots (Draw f) fixture score on at =
    ap (has_passed (Draw f)) (ap (λ n. get_or finish.scores n None) (eqb-true f fixture on) ∙ at)
test_at sheet club finish lots (HomeMost f most) fixture score on at =
    ap (has_passed (HomeMost f most))
    (ap (λ n. get_or finish.scores n None) (eqb-true f fixture on) ∙ at)
test_at sheet club finish lots (AwayMost f most) fixture score on at =
    ap (has_passed (AwayMost f most))
    (ap (λ n. get_or finish.scores n None) (eqb-true f fixture on) ∙ at)
test_at sheet club finish lots (Rival rival) fixture score on at = absurd (false≢true on)

-- the score of a fixture meets a literal that is true
meets_true : (sheet : Sheet) (club : ℕ) (finish : Results) (lots : List ℕ) (fixture : ℕ)
    (score : Score) (literal : Literal) → get_or finish.scores fixture None ≡ Some score
    → is_literal_true sheet club finish lots literal ≡ true
    → meets_literal fixture score literal ≡ true
meets_true sheet club finish lots fixture score literal at holds =
    elim (cases_Bool (is_on fixture literal.test)) as (λ _. meets_literal fixture score literal
    ≡ true) [
      | inl on ↦ or_right (not (is_on fixture literal.test))
          (is_as_said literal.yes (passes literal.test score))
          (ap (is_as_said literal.yes)
          (sym (test_at sheet club finish lots literal.test fixture score on at)) ∙ holds)
      | inr off ↦ or_left (not (is_on fixture literal.test))
          (is_as_said literal.yes (passes literal.test score)) (ap not off)
    ]

member_takes_one : (sheet : Sheet) (club : ℕ) (finish : Results) (lots : List ℕ) (limit : ℕ)
    (zone : List Literal) (fixture : ℕ) (played ended : Option Score)
    → are_literals_true sheet club finish lots zone ≡ true
    → get_or finish.scores fixture None ≡ ended → may_end limit played ended ≡ true
    → takes_option (options_of limit zone fixture played) ended ≡ true
member_takes_one sheet club finish lots limit zone fixture None None literals at may = absurd
    (false≢true may)
member_takes_one sheet club finish lots limit zone fixture
    (Some score) None literals at may = absurd (false≢true may)
member_takes_one sheet club finish lots limit zone fixture played (Some score) literals at may =
    has_score-options_of limit zone fixture played score
    ∙ and_from (meets zone fixture score) (may_end limit played (Some score))
    (list_all-weaker (is_literal_true sheet club finish lots) (meets_literal fixture score) zone
    (λ literal. meets_true sheet club finish lots fixture score literal at) literals)
    may

member_takes : (sheet : Sheet) (club : ℕ) (finish : Results) (lots : List ℕ) (limit : ℕ)
    (zone : List Literal) (fixture : ℕ) (season scores : List (Option Score))
    → are_literals_true sheet club finish lots zone ≡ true
    → ((k : ℕ) → get_or finish.scores (fixture + k) None ≡ get_or scores k None)
    → may_all_end limit season scores ≡ true
    → take_options (options_from limit zone fixture season) scores ≡ true
member_takes sheet club finish lots limit zone fixture [] [] literals at may = refl
member_takes sheet club finish lots limit zone fixture [] (ended ∷ scores) literals at may = absurd
    (false≢true may)
member_takes sheet club finish lots limit zone fixture (played ∷ season)
    [] literals at may = absurd (false≢true may)
member_takes sheet club finish lots limit zone fixture (played ∷ season)
    (ended ∷ scores) literals at may =
    let parts = and_parts (may_end limit played ended) (may_all_end limit season scores) may in
    let same : fixture ≡ fixture + 0 = omega arith in
    and_from (takes_option (options_of limit zone fixture played) ended)
    (take_options (options_from limit zone (suc fixture) season) scores)
    (member_takes_one sheet club finish lots limit zone fixture played ended literals
    (ap (λ n. get_or finish.scores n None) same ∙ at 0) parts.0)
    (member_takes sheet club finish lots limit zone (suc fixture) season scores literals
    (λ k. ap (λ n. get_or finish.scores n None) (next k) ∙ at (suc k)) parts.1)
  where
    next : (k : ℕ) → suc fixture + k ≡ fixture + suc k
    next k = omega arith

-- a member of a zone is in its box
pub member_in_box : (sheet : Sheet) (season : Results) (club : ℕ) (zone : List Literal)
    (finish : Results) (lots : List ℕ) → IsMember sheet season club zone finish lots
    → IsInBox sheet season zone finish
member_in_box sheet season club zone finish lots member = record {
  deductions = member.is_finish.deductions;
  scores = member_takes sheet club finish lots sheet.goal_limit zone 0 season.scores finish.scores
      member.literals (λ k. ap (λ n. get_or finish.scores n None) (from k)) member.is_finish.scores;
}
  where
    from : (k : ℕ) → 0 + k ≡ k
    from k = omega arith

-- a sum of a finish in the box lies in its range
pub sum_in_range : (value : Fixture → Score → ℤ) (matches : List Fixture)
    (options : List (List Score)) (scores : List (Option Score))
    → take_options options scores ≡ true
    → ((range_from value matches options).least ≤ℤ sum_over value matches scores)
    × (sum_over value matches scores ≤ℤ (range_from value matches options).greatest)
sum_in_range value [] options scores takes = (omega (arith, ints), omega (arith, ints))
sum_in_range value (match ∷ matches) [] [] takes = (omega (arith, ints), omega (arith, ints))
sum_in_range value (match ∷ matches) [] (ended ∷ scores) takes = absurd (false≢true takes)
sum_in_range value (match ∷ matches) (options ∷ more) [] takes = absurd (false≢true takes)
sum_in_range value (match ∷ matches) (options ∷ more) (None ∷ scores) takes = absurd
    (false≢true takes)
sum_in_range value (match ∷ matches) (options ∷ more) (Some score ∷ scores) takes =
    let parts = and_parts (takes_option options (Some score)) (take_options more scores) takes in
    let here = range_bounds (value match) options score parts.0 in
    let rest = sum_in_range value matches more scores parts.1 in
    (omega (arith, ints), omega (arith, ints))

total_of-less : (value off : ℕ → ℤ) (clubs : List ℕ)
    → total_of (λ club. value club -ℤ off club) clubs ≡ total_of value clubs -ℤ total_of off clubs
total_of-less value off [] = refl
total_of-less value off (club ∷ clubs) = omega (arith, ints, total_of-less value off clubs)

-- the points of a set at a finish in the box lie between its least and its most points there
pub points_in_box : (sheet : Sheet) (season : Results) (zone : List Literal) (finish : Results)
    (clubs : List ℕ) → IsInBox sheet season zone finish
    → (least_points_of sheet season zone clubs ≤ℤ total_of (points_of sheet finish) clubs)
    × (total_of (points_of sheet finish) clubs ≤ℤ most_points_of sheet season zone clubs)
unfolding least_points_of most_points_of
points_in_box sheet season zone finish clubs box =
    let won = λ (club : ℕ). sum_of match_points sheet finish club in
    let off = λ (club : ℕ). pos (slice_index finish.deductions club) in
    let bounds = sum_in_range (points_together clubs) sheet.fixtures
    (options_in sheet season zone) finish.scores box.scores in
    let total = total_of-less won off clubs in
    let sums = total_of-sum_over (worth_to match_points) clubs sheet.fixtures finish.scores in
    let same = ap (λ ds. total_of (λ club. pos (slice_index ds club)) clubs) box.deductions in
    (omega (arith, ints), omega (arith, ints))

-- if each of some clubs has at most so many points, or at least, so have they together
pub total_at_most : (value : ℕ → ℤ) (most : ℤ) (test : ℕ → Bool) (clubs : List ℕ)
    → ((club : ℕ) → test club ≡ true → value club ≤ℤ most) → list_all test clubs ≡ true
    → total_of value clubs ≤ℤ (pos (length clubs) *ℤ most)
total_at_most value most test [] each all = omega (arith, ints)
total_at_most value most test (club ∷ clubs) each all =
    let parts = and_parts (test club) (list_all test clubs) all in
    let here = each club parts.0 in
    let rest = total_at_most value most test clubs each parts.1 in
    omega (arith, ints, times-suc (length clubs) most)

pub total_at_least : (value : ℕ → ℤ) (least : ℤ) (test : ℕ → Bool) (clubs : List ℕ)
    → ((club : ℕ) → test club ≡ true → least ≤ℤ value club) → list_all test clubs ≡ true
    → (pos (length clubs) *ℤ least) ≤ℤ total_of value clubs
total_at_least value least test [] each all = omega (arith, ints)
total_at_least value least test (club ∷ clubs) each all =
    let parts = and_parts (test club) (list_all test clubs) all in
    let here = each club parts.0 in
    let rest = total_at_least value least test clubs each parts.1 in
    omega (arith, ints, times-suc (length clubs) least)
