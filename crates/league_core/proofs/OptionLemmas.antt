-- The options of a fixture: which scores they are, and that a finish takes one of them for each
-- fixture.
use Rattle.std.proofs.Common.{◌≡◌, ℕ, zero, suc, ◌+◌, ◌<◌, Bool, true, false, ◌&&◌, ◌||◌, ◌==◌}
use Rattle.std.proofs.Common.{nat_le, nat_lt, List, [], ◌∷◌, ◌++◌, map, length, get_or, Option}
use Rattle.std.proofs.Common.{Some, None, refl, sym, ap, ◌∙◌, inl, inr, arith}
use Rattle.std.specs.List.{list_any, list_all, flat_map, range_with_len}
use Rattle.std.proofs.Math.Bool.{and-false, or-false}
use Rattle.std.proofs.lemmas.Bool.{and_parts, and_from, or_left, or_right, or_cases, false≢true}
use Rattle.std.proofs.lemmas.Bool.Decides.{nat_tests}
use Rattle.std.proofs.lemmas.List.Folds.{list_any-append, list_all-append}
use Rattle.std.proofs.lemmas.Map.Views.{any-filter_same}
use Rattle.league_core.specs.declared.sheet.Sheet.{Sheet}
use Rattle.league_core.specs.declared.season.Score.{Score}
use Rattle.league_core.specs.declared.zone.Literal.{Literal}
use Rattle.league_core.specs.game.Results.{Results}
use Rattle.league_core.specs.game.Sums.{has_club}
use Rattle.league_core.specs.game.Finishes.{same_score, may_end, may_all_end, IsFinishOf}
use Rattle.league_core.specs.search.Options.{score_of, scores_up_to, endings, meets_literal, meets}
use Rattle.league_core.specs.search.Options.{options_of, options_from, has_score, takes_option}
use Rattle.league_core.specs.search.Options.{take_options, IsInBox}
use Rattle.league_core.proofs.ResultsLemmas.{scores_decided}
use Rattle.league_core.proofs.ClubSetLemmas.{has_club-range}
use Rattle.league_core.proofs.plain.Numbers.{eqb-swap}

-- two scores with the same goals are one
pub same_score-true : (score other : Score) → same_score score other ≡ true → score ≡ other
same_score-true score other h = (scores_decided score other).0 h

-- a score has its own goals
pub same_score-itself : (score other : Score) → score ≡ other → same_score score other ≡ true
same_score-itself score other e = (scores_decided score other).1 e

pub same_score-swap : (score other : Score) → same_score score other ≡ same_score other score
same_score-swap score other = grind (arith, nat_tests)

-- the scores with these goals at home and one of a list of goals away
any-row : (score : Score) (home : ℕ) (goals : List ℕ)
    → list_any (same_score score) (map (score_of home) goals) ≡
    ((score.home == home) && has_club goals score.away)
any-row score home [] = sym (and-false (score.home == home))
any-row score home (away ∷ goals) =
    ap (λ b. ((score.home == home) && (score.away == away)) || b) (any-row score home goals)
    ∙ in_row (score.home == home) score.away away (has_club goals score.away)
  where
    in_row : (b : Bool) (m n : ℕ) (rest : Bool)
        → ((b && (m == n)) || (b && rest)) ≡ (b && ((n == m) || rest))
    in_row true m n rest = ap (λ c. c || rest) (eqb-swap m n)
    in_row false m n rest = refl

-- the scores with one of a list of goals on either side
any-table : (score : Score) (homes aways : List ℕ)
    → list_any (same_score score) (flat_map (λ home. map (score_of home) aways) homes) ≡
    (has_club homes score.home && has_club aways score.away)
any-table score [] aways = refl
any-table score (home ∷ homes) aways =
    list_any-append (same_score score) (map (score_of home) aways)
    (flat_map (λ home. map (score_of home) aways) homes)
    ∙ ap (λ b. b
    || list_any (same_score score) (flat_map (λ home. map (score_of home) aways) homes))
    (any-row score home aways)
    ∙ ap (λ b. ((score.home == home) && has_club aways score.away) || b)
    (any-table score homes aways)
    ∙ in_table score.home home (has_club homes score.home) (has_club aways score.away)
  where
    in_table : (m n : ℕ) (rest away : Bool)
        → (((m == n) && away) || (rest && away)) ≡ (((n == m) || rest) && away)
    in_table m n true true = grind (arith, nat_tests)
    in_table m n true false = grind (arith, nat_tests)
    in_table m n false true = grind (arith, nat_tests)
    in_table m n false false = grind (arith, nat_tests)

-- all scores with at most so many goals a side
pub has_score-scores_up_to : (limit : ℕ) (score : Score)
    → has_score (scores_up_to limit) score ≡ (nat_le score.home limit && nat_le score.away limit)
has_score-scores_up_to limit score =
    any-table score (range_with_len 0 (limit + 1)) (range_with_len 0 (limit + 1))
    ∙ ap (λ b. b && has_club (range_with_len 0 (limit + 1)) score.away) (up_to score.home)
    ∙ ap (λ b. nat_le score.home limit && b) (up_to score.away)
  where
    up_to : (goals : ℕ) → has_club (range_with_len 0 (limit + 1)) goals ≡ nat_le goals limit
    up_to goals = has_club-range (limit + 1) goals ∙ below goals limit
      where
        below : (m n : ℕ) → nat_lt m (n + 1) ≡ nat_le m n
        below m n = grind (arith, nat_tests)

-- the scores with which a fixture may end are those that are listed
pub has_score-endings : (limit : ℕ) (played : Option Score) (score : Score)
    → has_score (endings limit played) score ≡ may_end limit played (Some score)
has_score-endings limit None score = has_score-scores_up_to limit score
has_score-endings limit (Some played) score = or-false (same_score score played)
    ∙ same_score-swap score played

-- an option of a fixture is a score with which it may end, and which makes the literals on it true
pub has_score-options_of : (limit : ℕ) (zone : List Literal) (fixture : ℕ) (played : Option Score)
    (score : Score)
    → has_score (options_of limit zone fixture played) score ≡
    (meets zone fixture score && may_end limit played (Some score))
has_score-options_of limit zone fixture played score =
    any-filter_same (same_score score) (meets zone fixture) (meets zone fixture score)
    (λ other same. ap (meets zone fixture) (sym (same_score-true score other same)))
    (endings limit played)
    ∙ ap (λ b. meets zone fixture score && b) (has_score-endings limit played score)

takes-ending : (limit : ℕ) (fixture : ℕ) (played ended : Option Score)
    → takes_option (options_of limit [] fixture played) ended ≡ may_end limit played ended
takes-ending limit fixture None None = refl
takes-ending limit fixture (Some score) None = refl
takes-ending limit fixture played (Some ended) = has_score-options_of limit [] fixture played ended

-- without a literal each fixture may take what it may end with
pub take_options-endings : (limit fixture : ℕ) (season finish : List (Option Score))
    → take_options (options_from limit [] fixture season) finish ≡ may_all_end limit season finish
take_options-endings limit fixture [] [] = refl
take_options-endings limit fixture [] (ended ∷ finish) = refl
take_options-endings limit fixture (played ∷ season) [] = refl
take_options-endings limit fixture (played ∷ season) (ended ∷ finish) =
    ap (λ b. b && take_options (options_from limit [] (suc fixture) season) finish)
    (takes-ending limit fixture played ended)
    ∙ ap (λ b. may_end limit played ended && b)
    (take_options-endings limit (suc fixture) season finish)

-- a finish is one option for each fixture
pub box_of_finish : (sheet : Sheet) (season finish : Results) → IsFinishOf sheet season finish
    → IsInBox sheet season [] finish
box_of_finish sheet season finish is = record {
  deductions = is.deductions;
  scores = take_options-endings sheet.goal_limit 0 season.scores finish.scores ∙ is.scores;
}

pub finish_of_box : (sheet : Sheet) (season finish : Results) → IsInBox sheet season [] finish
    → IsFinishOf sheet season finish
finish_of_box sheet season finish is = record {
  deductions = is.deductions;
  scores = sym (take_options-endings sheet.goal_limit 0 season.scores finish.scores) ∙ is.scores;
}

-- one list of options for each fixture
pub length-options_from : (limit : ℕ) (zone : List Literal) (fixture : ℕ)
    (season : List (Option Score)) → length (options_from limit zone fixture season) ≡ length season
length-options_from limit zone fixture [] = refl
length-options_from limit zone fixture (played ∷ season) =
    ap suc (length-options_from limit zone (suc fixture) season)

-- the options of a fixture by its number
pub get_or-options_from : (limit : ℕ) (zone : List Literal) (fixture : ℕ)
    (season : List (Option Score)) (k : ℕ) → k < length season
    → get_or (options_from limit zone fixture season) k [] ≡ options_of limit zone (fixture + k)
    (get_or season k None)
get_or-options_from limit zone fixture [] k within = absurd (omega arith)
get_or-options_from limit zone fixture (played ∷ season) zero within =
    let same : fixture ≡ fixture + 0 = omega arith in
    ap (λ (f : ℕ). options_of limit zone f played) same
get_or-options_from limit zone fixture (played ∷ season) (suc k) within =
    let same : suc fixture + k ≡ fixture + suc k = omega arith in
    get_or-options_from limit zone (suc fixture) season k (omega arith)
    ∙ ap (λ (f : ℕ). options_of limit zone f (get_or season k None)) same

-- one literal more leaves the options that make it true
pub has_score-with : (limit : ℕ) (zone : List Literal) (literal : Literal) (fixture : ℕ)
    (played : Option Score) (score : Score)
    → has_score (options_of limit (zone ++ literal ∷ []) fixture played) score ≡
    (has_score (options_of limit zone fixture played) score && meets_literal fixture score literal)
has_score-with limit zone literal fixture played score =
    has_score-options_of limit (zone ++ literal ∷ []) fixture played score
    ∙ ap (λ b. b && may_end limit played (Some score))
    (list_all-append (meets_literal fixture score) zone (literal ∷ []))
    ∙ turned (meets zone fixture score) (meets_literal fixture score literal)
    (may_end limit played (Some score))
    ∙ ap (λ b. b && meets_literal fixture score literal)
    (sym (has_score-options_of limit zone fixture played score))
  where
    turned : (a b c : Bool) → (a && (b && true) && c) ≡ (a && c && b)
    turned true true true = refl
    turned true true false = refl
    turned true false true = refl
    turned true false false = refl
    turned false b c = refl

-- a list of options has its first
pub has_score-first : (score : Score) (options : List Score)
    → has_score (score ∷ options) score ≡ true
has_score-first score options = or_left (same_score score score) (has_score options score)
    (same_score-itself score score refl)

-- what all the options of a list pass
pub all_options : (test : Score → Bool) (options : List Score)
    → ((score : Score) → has_score options score ≡ true → test score ≡ true)
    → list_all test options ≡ true
all_options test [] each = refl
all_options test (score ∷ options) each =
    and_from (test score) (list_all test options) (each score (has_score-first score options))
    (all_options test options
    (λ other is. each other (or_right (same_score other score) (has_score options other) is)))

-- each of them passes
pub each_option : (test : Score → Bool) (options : List Score) → list_all test options ≡ true
    → (score : Score) → has_score options score ≡ true → test score ≡ true
each_option test [] all score is = absurd (false≢true is)
each_option test (first ∷ options) all score is =
    let parts = and_parts (test first) (list_all test options) all in
    elim (or_cases (same_score score first) (has_score options score) is) as (λ _. test score
    ≡ true) [
      | inl same ↦ ap test (same_score-true score first same) ∙ parts.0
      | inr later ↦ each_option test options parts.1 score later
    ]
