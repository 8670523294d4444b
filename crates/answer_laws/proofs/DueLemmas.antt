-- If some fixture has several scores left, some split is proper and due: by a rival that is not
-- marked, else by an outcome, else by goals.
use Rattle.std.proofs.Common.{◌≡◌, ◌⊎◌, inl, inr, ℕ, zero, suc, ◌<◌, ◌≤◌, Bool, true, false, not}
use Rattle.std.proofs.Common.{◌&&◌, ◌||◌, ◌==◌, nat_lt, nat_le, List, [], ◌∷◌, length, get_or, refl}
use Rattle.std.proofs.Common.{sym, ap, ◌∙◌, arith}
use Rattle.std.specs.List.{list_all}
use Rattle.std.proofs.lemmas.Bool.{false≢true, true≢false, and_from, cases_Bool, or_right, ltb-true}
use Rattle.std.proofs.lemmas.Bool.{ltb-false, lt-ltb}
use Rattle.std.proofs.lemmas.Bool.Decides.{nat_tests}
use Rattle.league_core.specs.declared.sheet.Sheet.{Sheet}
use Rattle.league_core.specs.declared.season.Score.{Score}
use Rattle.league_core.specs.declared.question.Question.{Question}
use Rattle.league_core.specs.declared.zone.Test.{Test}
use Rattle.league_core.specs.declared.zone.Test.TheVariants.{Home, Draw, HomeMost, AwayMost, Rival}
use Rattle.league_core.specs.declared.zone.Literal.{Literal}
use Rattle.league_core.specs.game.Results.{Results}
use Rattle.league_core.specs.game.Seasons.{IsSeasonOf}
use Rattle.league_core.specs.game.Finishes.{same_score}
use Rattle.league_core.specs.search.Zones.{is_marked}
use Rattle.league_core.specs.search.Options.{options_in, has_score, has_option, has_one_score}
use Rattle.league_core.specs.search.Options.{has_finish, is_single, is_home_win, is_draw}
use Rattle.league_core.specs.search.Options.{is_away_win, same_outcome, has_one_outcome}
use Rattle.league_core.specs.search.Splits.{is_proper, is_due, are_all_marked, are_outcomes_fixed}
use Rattle.league_core.proofs.OptionLemmas.{length-options_from, has_score-first}
use Rattle.branch_rules.specs.inside.Choices.{IsDivided}
use Rattle.branch_rules.proofs.SplitLemmas.{home_is_proper, draw_is_proper, home_most_is_proper}
use Rattle.branch_rules.proofs.SplitLemmas.{away_most_is_proper}
use Rattle.branch_rules.proofs.RivalLemmas.{all_are_marked}
use Rattle.league_core.proofs.plain.Lists.{list_all-at, list_all-fails}
use Rattle.league_core.proofs.plain.Numbers.{bound_between}
use Rattle.league_core.proofs.plain.Runs.{some_below}

-- ---- plain facts

-- ---- rivals

-- some rival is not marked, or all are
rival_or_marked : (sheet : Sheet) (season : Results) (question : Question) (zone : List Literal)
    → ((rival : ℕ) × (is_proper sheet season question zone (Rival rival) ≡ true))
    ⊎ (are_all_marked sheet question zone ≡ true)
rival_or_marked sheet season question zone =
    elim (some_below (λ rival. is_proper sheet season question zone (Rival rival))
    (length sheet.clubs)) [
      | inl found ↦ inl found
      | inr none ↦ inr (all_are_marked sheet question zone []
          (λ rival. sym (nowhere rival none)) refl)
    ]
  where
    nowhere : (rival : ℕ)
        → ((k : ℕ) → k < length sheet.clubs
        → is_proper sheet season question zone (Rival k) ≡ false)
        → is_proper sheet season question zone (Rival rival) ≡ false
    nowhere rival none =
        elim (cases_Bool (nat_lt rival (length sheet.clubs))) as
        (λ _. is_proper sheet season question zone (Rival rival) ≡ false) [
          | inl inside ↦ none rival (ltb-true rival (length sheet.clubs) inside)
          | inr outside ↦
              ap (λ b. b && not (rival == question.club) && not (is_marked zone rival)) outside
        ]

-- ---- outcomes

-- two options that a test tells apart
apart : (options : List Score) (test : Score → Bool) (score other : Score) (passed : Bool)
    → has_score options score ≡ true → has_score options other ≡ true
    → test score ≡ passed → test other ≡ not passed → IsDivided (has_score options) test
apart options test score other true has_one has_other first second = record {
  one = score;
  has_one = has_one;
  passed = first;
  other = other;
  has_other = has_other;
  failed = second;
}
apart options test score other false has_one has_other first second = record {
  one = other;
  has_one = has_other;
  passed = second;
  other = score;
  has_other = has_one;
  failed = first;
}

-- two options without the same outcome
pub record AreApart (options : List Score) (same : Score → Score → Bool) : Type 0 where
  pub score : Score
  pub other : Score
  pub first_is : has_score options score ≡ true
  pub other_is : has_score options other ≡ true
  pub differ : same score other ≡ false

-- a list of which not all are as the first has two that are not
first_and_other : (score : Score) (options : List Score) (same : Score → Score → Bool)
    → list_all (same score) options ≡ false → AreApart (score ∷ options) same
first_and_other score options same fails =
    let found = list_all-fails (same score) options score fails in
    record {
      score = score;
      other = get_or options found.0 score;
      first_is = has_score-first score options;
      other_is = or_right (same_score (get_or options found.0 score) score)
          (has_score options (get_or options found.0 score)) (among options found.0 found.1);
      differ = found.2;
    }
  where
    among : (xs : List Score) (k : ℕ) → k < length xs
        → has_score xs (get_or xs k score) ≡ true
    among [] k within = absurd (omega arith)
    among (x ∷ xs) zero within = has_score-first x xs
    among (x ∷ xs) (suc k) within =
        or_right (same_score (get_or xs k score) x) (has_score xs (get_or xs k score))
        (among xs k (omega arith))

several_outcomes : (options : List Score) → has_one_outcome options ≡ false
    → AreApart options same_outcome
several_outcomes [] several = absurd (true≢false several)
several_outcomes (score ∷ options) several = first_and_other score options same_outcome several

several_scores : (options : List Score) → has_option options ≡ true
    → has_one_score options ≡ false → AreApart options same_score
several_scores [] some several = absurd (false≢true some)
several_scores (score ∷ options) some several =
    first_and_other score options same_score several

-- who neither wins at home nor draws wins away
away_else : (score : Score) → is_home_win score ≡ false → is_draw score ≡ false
    → is_away_win score ≡ true
away_else score no_win no_draw =
    let most = ltb-false score.away score.home no_win in
    lt-ltb score.home score.away (less score.home score.away most no_draw)
  where
    less : (a b : ℕ) → a ≤ b → (a == b) ≡ false → a < b
    less a b most differ = grind (arith, nat_tests)

-- scores alike in two tests of outcomes have one outcome
alike_outcomes : (a b c d e f : Bool) → d ≡ a → e ≡ b
    → (a ≡ false → b ≡ false → c ≡ true) → (d ≡ false → e ≡ false → f ≡ true)
    → ((a && d) || (b && e) || (c && f)) ≡ true
alike_outcomes true b c true e f same_home same_draw away other_away = refl
alike_outcomes true b c false e f same_home same_draw away other_away =
    absurd (false≢true same_home)
alike_outcomes false true c true e f same_home same_draw away other_away =
    absurd (true≢false same_home)
alike_outcomes false true c false true f same_home same_draw away other_away = refl
alike_outcomes false true c false false f same_home same_draw away other_away =
    absurd (false≢true same_draw)
alike_outcomes false false c true e f same_home same_draw away other_away =
    absurd (true≢false same_home)
alike_outcomes false false c false true f same_home same_draw away other_away =
    absurd (true≢false same_draw)
alike_outcomes false false c false false f same_home same_draw away other_away =
    and_from c f (away refl refl) (other_away refl refl)

-- either a test gives the same of both, or it tells them apart
same_or_apart : (options : List Score) (test : Score → Bool) (score other : Score)
    → has_score options score ≡ true → has_score options other ≡ true
    → (test other ≡ test score) ⊎ IsDivided (has_score options) test
same_or_apart options test score other has_one has_other =
    by_cases (test score) (test other) refl refl
  where
    by_cases : (a b : Bool) → test score ≡ a → test other ≡ b
        → (test other ≡ test score) ⊎ IsDivided (has_score options) test
    by_cases true true is other_is = inl (other_is ∙ sym is)
    by_cases true false is other_is =
        inr (apart options test score other true has_one has_other is other_is)
    by_cases false true is other_is =
        inr (apart options test score other false has_one has_other is other_is)
    by_cases false false is other_is = inl (other_is ∙ sym is)

-- two options with different outcomes are told apart by a home win or by a draw
outcome_divides : (options : List Score) → AreApart options same_outcome
    → IsDivided (has_score options) is_home_win ⊎ IsDivided (has_score options) is_draw
outcome_divides options two =
    elim (same_or_apart options is_home_win two.score two.other two.first_is two.other_is) [
      | inr divided ↦ inl divided
      | inl same_home ↦
          elim (same_or_apart options is_draw two.score two.other two.first_is two.other_is) [
            | inr divided ↦ inr divided
            | inl same_draw ↦ absurd (true≢false
                (sym (alike_outcomes (is_home_win two.score) (is_draw two.score)
                (is_away_win two.score) (is_home_win two.other) (is_draw two.other)
                (is_away_win two.other) same_home same_draw (away_else two.score)
                (away_else two.other)) ∙ two.differ))
          ]
    ]

-- ---- goals

-- a test of goals divides the options
pub record IsGoalDivided (options : List Score) (side : Score → ℕ) : Type 0 where
  pub most : ℕ
  pub divided : IsDivided (has_score options) (λ score. nat_le (side score) most)

side_divides : (options : List Score) (side : Score → ℕ) (score other : Score)
    → has_score options score ≡ true → has_score options other ≡ true
    → (side score == side other) ≡ false → IsGoalDivided options side
side_divides options side score other has_one has_other differ =
    let found = bound_between (side score) (side other) differ in
    record {
      most = found.0;
      divided = elim found.1 [
        | inl first ↦ apart options (λ s. nat_le (side s) found.0) score other true has_one
            has_other first.0 first.1
        | inr second ↦ apart options (λ s. nat_le (side s) found.0) score other false has_one
            has_other second.0 second.1
      ];
    }

-- two different options are told apart by the goals of a side
goals_divide : (options : List Score) → AreApart options same_score
    → IsGoalDivided options (λ score. score.home) ⊎ IsGoalDivided options (λ score. score.away)
goals_divide options two =
    elim (cases_Bool (two.score.home == two.other.home)) [
      | inr differ ↦ inl (side_divides options (λ score. score.home) two.score two.other
          two.first_is two.other_is differ)
      | inl same ↦ inr (side_divides options (λ score. score.away) two.score two.other
          two.first_is two.other_is
          (rest (two.score.home == two.other.home) (two.score.away == two.other.away) same
          two.differ))
    ]
  where
    rest : (a b : Bool) → a ≡ true → (a && b) ≡ false → b ≡ false
    rest true b is differ = differ
    rest false b is differ = absurd (false≢true is)

-- ---- the split

-- a split that is proper and due
pub record IsDueTest (sheet : Sheet) (season : Results) (question : Question)
    (zone : List Literal) : Type 0 where
  pub test : Test
  pub proper : is_proper sheet season question zone test ≡ true
  pub due : is_due sheet season question zone test ≡ true

outcome_due : (sheet : Sheet) (season : Results) (question : Question) (zone : List Literal)
    (fixture : ℕ) → IsSeasonOf sheet season → has_finish sheet season zone ≡ true
    → are_all_marked sheet question zone ≡ true → are_outcomes_fixed sheet season zone ≡ false
    → fixture < length season.scores
    → has_one_outcome (get_or (options_in sheet season zone) fixture []) ≡ false
    → IsDueTest sheet season question zone
outcome_due sheet season question zone fixture of_sheet some marked unfixed within several =
    let options = get_or (options_in sheet season zone) fixture [] in
    let due = and_from (are_all_marked sheet question zone)
    (not (are_outcomes_fixed sheet season zone)) marked (ap not unfixed) in
    elim (outcome_divides options (several_outcomes options several)) [
      | inl home ↦ record {
        test = Home fixture;
        proper = home_is_proper sheet season question zone fixture of_sheet some within home;
        due = due;
      }
      | inr draw ↦ record {
        test = Draw fixture;
        proper = draw_is_proper sheet season question zone fixture of_sheet some within draw;
        due = due;
      }
    ]

goals_due : (sheet : Sheet) (season : Results) (question : Question) (zone : List Literal)
    (fixture : ℕ) → IsSeasonOf sheet season → has_finish sheet season zone ≡ true
    → are_all_marked sheet question zone ≡ true → are_outcomes_fixed sheet season zone ≡ true
    → fixture < length season.scores
    → has_option (get_or (options_in sheet season zone) fixture []) ≡ true
    → has_one_score (get_or (options_in sheet season zone) fixture []) ≡ false
    → IsDueTest sheet season question zone
goals_due sheet season question zone fixture of_sheet some marked fixed within one several =
    let options = get_or (options_in sheet season zone) fixture [] in
    let due = and_from (are_all_marked sheet question zone)
    (are_outcomes_fixed sheet season zone) marked fixed in
    elim (goals_divide options (several_scores options one several)) [
      | inl home ↦ record {
        test = HomeMost fixture home.most;
        proper = home_most_is_proper sheet season question zone fixture home.most of_sheet some
            within home.divided;
        due = due;
      }
      | inr away ↦ record {
        test = AwayMost fixture away.most;
        proper = away_most_is_proper sheet season question zone fixture away.most of_sheet some
            within away.divided;
        due = due;
      }
    ]

-- all marked, not single: an outcome or goals
score_due : (sheet : Sheet) (season : Results) (question : Question) (zone : List Literal)
    → IsSeasonOf sheet season → has_finish sheet season zone ≡ true
    → are_all_marked sheet question zone ≡ true → is_single sheet season zone ≡ false
    → IsDueTest sheet season question zone
unfolding has_finish is_single
score_due sheet season question zone of_sheet some marked several =
    let all = options_in sheet season zone in
    let long = length-options_from sheet.goal_limit zone 0 season.scores in
    elim (cases_Bool (are_outcomes_fixed sheet season zone)) as
    (λ _. IsDueTest sheet season question zone) [
      | inr unfixed ↦
          let found = list_all-fails has_one_outcome all [] unfixed in
          outcome_due sheet season question zone found.0 of_sheet some marked unfixed
          (omega (arith, found.1, long)) found.2
      | inl fixed ↦
          let found = list_all-fails has_one_score all [] several in
          goals_due sheet season question zone found.0 of_sheet some marked fixed
          (omega (arith, found.1, long)) (list_all-at has_option all found.0 [] found.1 some)
          found.2
    ]

pub due_test : (sheet : Sheet) (season : Results) (question : Question) (zone : List Literal)
    → IsSeasonOf sheet season → has_finish sheet season zone ≡ true
    → is_single sheet season zone ≡ false → IsDueTest sheet season question zone
due_test sheet season question zone of_sheet some several =
    elim (rival_or_marked sheet season question zone) [
      | inl found ↦ record { test = Rival found.0; proper = found.1; due = refl }
      | inr marked ↦ score_due sheet season question zone of_sheet some marked several
    ]
