-- The tests of proper splits are such as lines have: a bound on goals that divides a zone is one
-- that a score can miss.
use Rattle.std.proofs.Common.{◌≡◌, ℕ, ◌<◌, ◌≤◌, true, false, not, ◌&&◌, ◌||◌, ◌==◌, nat_lt, nat_le}
use Rattle.std.proofs.Common.{List, [], length, get_or, Option, Some, None, refl, sym, ap, ◌∙◌}
use Rattle.std.proofs.Common.{zero-add, arith}
use Rattle.std.specs.List.{list_all}
use Rattle.std.proofs.lemmas.Bool.{and_parts, and_from, ltb-true, lt-ltb, leb-true, leb-false}
use Rattle.std.proofs.lemmas.Bool.{le-leb, eq-eqb, not-true}
use Rattle.league_core.specs.declared.sheet.Sheet.{Sheet}
use Rattle.league_core.specs.declared.season.Score.{Score}
use Rattle.league_core.specs.declared.question.Question.{Question}
use Rattle.league_core.specs.declared.zone.Test.{Test}
use Rattle.league_core.specs.declared.zone.Test.TheVariants.{Home, Draw, HomeMost, AwayMost, Rival}
use Rattle.league_core.specs.declared.zone.Literal.{Literal}
use Rattle.league_core.specs.game.Results.{Results, is_score, is_score_or_none, are_results}
use Rattle.league_core.specs.game.Seasons.{IsLeague}
use Rattle.league_core.specs.game.Finishes.{may_end}
use Rattle.league_core.specs.search.Zones.{is_on, passes, with_test, is_marked}
use Rattle.league_core.specs.search.Options.{options_of, options_in, has_score, has_option}
use Rattle.league_core.specs.search.Options.{has_finish, meets_literal, meets}
use Rattle.league_core.specs.search.Splits.{have_both_finish, is_proper, IsProperNode}
use Rattle.league_core.specs.search.Trees.{Tree, open_leaf, lent_leaf, refuted_leaf, branch}
use Rattle.league_core.specs.search.Trees.{NodesMeet}
use Rattle.league_core.proofs.OptionLemmas.{has_score-with, has_score-options_of}
use Rattle.league_core.proofs.OptionLemmas.{get_or-options_from, length-options_from}
use Rattle.league_core.proofs.OptionTestLemmas.{first_shown}
use Rattle.league_core.proofs.FinishLemmas.{may_end_is_score}
use Rattle.cert_text.specs.Ranges.{is_fixture_number, is_goal_bound}
use Rattle.cert_text.specs.TreeLines.{is_test_for, are_tests_for}
use Rattle.league_core.proofs.plain.Lists.{list_all-at}

-- if a test of a fixture misses, its no half has a score that misses
missed_score : (limit : ℕ) (zone : List Literal) (test : Test) (fixture : ℕ) (played : Option Score)
    → is_on fixture test ≡ true → limit ≤ 20 → is_score_or_none played ≡ true
    → has_option (options_of limit (with_test zone test false) fixture played) ≡ true
    → (score : Score) × (is_score score ≡ true) × (passes test score ≡ false)
missed_score limit zone test fixture played on few may_be some =
    let literal : Literal = record { test = test; yes = false } in
    let found = first_shown (options_of limit (with_test zone test false) fixture played) some in
    let score = found.0 in
    let both = and_parts (has_score (options_of limit zone fixture played) score)
    (meets_literal fixture score literal)
    (sym (has_score-with limit zone literal fixture played score) ∙ found.1) in
    let ends = (and_parts (meets zone fixture score) (may_end limit played (Some score))
    (sym (has_score-options_of limit zone fixture played score) ∙ both.0)).1 in
    let misses : not (passes test score) ≡ true =
    ap (λ b. not b || not (passes test score)) (sym on) ∙ both.1 in (
      score,
      may_end_is_score limit played score (omega (arith, few)) may_be ends,
      not-true (passes test score) misses,
    )

-- at a fixture of the season
missed_in : (sheet : Sheet) (season : Results) (zone : List Literal) (test : Test) (fixture : ℕ)
    → is_on fixture test ≡ true → sheet.goal_limit ≤ 20 → are_results season ≡ true
    → fixture < length season.scores → has_finish sheet season (with_test zone test false) ≡ true
    → (score : Score) × (is_score score ≡ true) × (passes test score ≡ false)
unfolding has_finish
missed_in sheet season zone test fixture on few results inside some =
    let no_half = with_test zone test false in
    let options = options_in sheet season no_half in
    let long : fixture < length options = omega
    (arith, inside, length-options_from sheet.goal_limit no_half 0 season.scores) in
    let here = list_all-at has_option options fixture [] long some in
    let there : has_option (options_of sheet.goal_limit no_half fixture
    (get_or season.scores fixture None)) ≡ true =
    ap (λ n. has_option (options_of sheet.goal_limit no_half n (get_or season.scores fixture None)))
    (sym (zero-add fixture))
    ∙ ap has_option (sym (get_or-options_from sheet.goal_limit no_half 0 season.scores fixture
    inside)) ∙ here in
    let scores = (and_parts (list_all is_score_or_none season.scores)
    (list_all (λ points. nat_le points 99) season.deductions) results).0 in
    missed_score sheet.goal_limit zone test fixture (get_or season.scores fixture None) on few
    (list_all-at is_score_or_none season.scores fixture None inside scores) there

bound_from : (goals most : ℕ) → nat_le goals 99 ≡ true → nat_le goals most ≡ false
    → is_goal_bound most ≡ true
bound_from goals most few misses =
    le-leb most 98 (omega (arith, leb-true goals 99 few, leb-false goals most misses))

-- a fixture of the sheet is one that a league may have
fixture_known : (sheet : Sheet) (season : Results) (fixture : ℕ) → IsLeague sheet season
    → nat_lt fixture (length sheet.fixtures) ≡ true → is_fixture_number fixture ≡ true
fixture_known sheet season fixture league inside =
    let below = ltb-true fixture (length sheet.fixtures) inside in
    let few = league.limits.most_fixtures in
    lt-ltb fixture 600 (omega (arith, below, few))

-- a bound that a no half of a zone misses
bound_known : (sheet : Sheet) (season : Results) (zone : List Literal) (test : Test)
    (fixture most : ℕ) (side : Score → ℕ) → ((score : Score) → passes test score ≡
    nat_le (side score) most) → ((score : Score) → is_score score ≡ true
    → nat_le (side score) 99 ≡ true) → is_on fixture test ≡ true → IsLeague sheet season
    → are_results season ≡ true → nat_lt fixture (length sheet.fixtures) ≡ true
    → have_both_finish sheet season zone test ≡ true → is_goal_bound most ≡ true
bound_known sheet season zone test fixture most side says few on league results inside both =
    let below = ltb-true fixture (length sheet.fixtures) inside in
    let many = league.of_sheet.scores in
    let there : fixture < length season.scores = omega (arith, below, many) in
    let some = (and_parts (has_finish sheet season (with_test zone test true))
    (has_finish sheet season (with_test zone test false)) both).1 in
    let missed = missed_in sheet season zone test fixture on league.limits.most_goal_limit results
    there some in
    bound_from (side missed.0) most (few missed.0 missed.1) (sym (says missed.0) ∙ missed.2)

-- what is proper is such a test
proper_test : (sheet : Sheet) (season : Results) (question : Question) (zone : List Literal)
    (test : Test) → IsLeague sheet season → are_results season ≡ true
    → is_proper sheet season question zone test ≡ true → is_test_for sheet question test ≡ true
proper_test sheet season question zone (Home fixture) league results proper =
    let inside = (and_parts (nat_lt fixture (length sheet.fixtures))
    (have_both_finish sheet season zone (Home fixture)) proper).0 in
    and_from (is_fixture_number fixture && nat_lt fixture (length sheet.fixtures)) true
    (and_from (is_fixture_number fixture) (nat_lt fixture (length sheet.fixtures))
    (fixture_known sheet season fixture league inside) inside) refl
proper_test sheet season question zone (Draw fixture) league results proper =
    let inside = (and_parts (nat_lt fixture (length sheet.fixtures))
    (have_both_finish sheet season zone (Draw fixture)) proper).0 in
    and_from (is_fixture_number fixture && nat_lt fixture (length sheet.fixtures)) true
    (and_from (is_fixture_number fixture) (nat_lt fixture (length sheet.fixtures))
    (fixture_known sheet season fixture league inside) inside) refl
proper_test sheet season question zone (HomeMost fixture most) league results proper =
    let parts = and_parts (nat_lt fixture (length sheet.fixtures))
    (have_both_finish sheet season zone (HomeMost fixture most)) proper in
    and_from (is_fixture_number fixture && is_goal_bound most
    && nat_lt fixture (length sheet.fixtures)) true
    (and_from (is_fixture_number fixture && is_goal_bound most)
    (nat_lt fixture (length sheet.fixtures))
    (and_from (is_fixture_number fixture) (is_goal_bound most)
    (fixture_known sheet season fixture league parts.0)
    (bound_known sheet season zone (HomeMost fixture most) fixture most (λ score. score.home)
    (λ score. refl)
    (λ score is. (and_parts (nat_le score.home 99) (nat_le score.away 99) is).0)
    (eq-eqb fixture fixture refl) league results parts.0 parts.1)) parts.0) refl
proper_test sheet season question zone (AwayMost fixture most) league results proper =
    let parts = and_parts (nat_lt fixture (length sheet.fixtures))
    (have_both_finish sheet season zone (AwayMost fixture most)) proper in
    and_from (is_fixture_number fixture && is_goal_bound most
    && nat_lt fixture (length sheet.fixtures)) true
    (and_from (is_fixture_number fixture && is_goal_bound most)
    (nat_lt fixture (length sheet.fixtures))
    (and_from (is_fixture_number fixture) (is_goal_bound most)
    (fixture_known sheet season fixture league parts.0)
    (bound_known sheet season zone (AwayMost fixture most) fixture most (λ score. score.away)
    (λ score. refl)
    (λ score is. (and_parts (nat_le score.home 99) (nat_le score.away 99) is).1)
    (eq-eqb fixture fixture refl) league results parts.0 parts.1)) parts.0) refl
proper_test sheet season question zone (Rival club) league results proper =
    let first = (and_parts (nat_lt club (length sheet.clubs) && not (club == question.club))
    (not (is_marked zone club)) proper).0 in
    let parts = and_parts (nat_lt club (length sheet.clubs)) (not (club == question.club)) first in
    let below = ltb-true club (length sheet.clubs) parts.0 in
    let few = league.limits.most_clubs in
    let known : nat_lt club 24 ≡ true = lt-ltb club 24 (omega (arith, below, few)) in
    and_from (nat_lt club 24 && nat_lt club (length sheet.clubs)) (not (club == question.club))
    (and_from (nat_lt club 24) (nat_lt club (length sheet.clubs)) known parts.0) parts.1

-- a tree of proper splits has such tests
pub proper_tests : (sheet : Sheet) (season : Results) (question : Question) (tree : Tree)
    (zone : List Literal) → IsLeague sheet season → are_results season ≡ true
    → NodesMeet (IsProperNode sheet season question) zone tree
    → are_tests_for sheet question tree ≡ true
proper_tests sheet season question open_leaf zone league results proper = refl
proper_tests sheet season question (lent_leaf number) zone league results proper = refl
proper_tests sheet season question (refuted_leaf reason fresh) zone league results proper = refl
proper_tests sheet season question (branch test fresh yes_half no_half) zone league results
    proper =
    and_from (is_test_for sheet question test && are_tests_for sheet question yes_half)
    (are_tests_for sheet question no_half)
    (and_from (is_test_for sheet question test) (are_tests_for sheet question yes_half)
    (proper_test sheet season question zone test league results proper.0)
    (proper_tests sheet season question yes_half (with_test zone test true) league results
    proper.1))
    (proper_tests sheet season question no_half (with_test zone test false) league results
    proper.2)
