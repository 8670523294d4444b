-- Tests of goals, by the ends of the goals that are left.
use Rattle.std.proofs.Common.{◌≡◌, inl, inr, ◌<◌, ◌≤◌, ℕ, Bool, true, false, List, [], ◌∷◌, Option}
use Rattle.std.proofs.Common.{Some, None, IfSome, IfNone, IsTrue, length, get_or, refl, sym, subst}
use Rattle.std.proofs.Common.{◌∙◌, arith}
use Rattle.std.proofs.lemmas.Bool.{false≢true, true≢false, cases_Bool, lt-ltb, or_right}
use Rattle.league_core.specs.declared.sheet.Sheet.{Sheet}
use Rattle.league_core.specs.declared.season.Score.{Score}
use Rattle.league_core.specs.declared.question.Question.{Question}
use Rattle.league_core.specs.declared.zone.Test.{Test}
use Rattle.league_core.specs.declared.zone.Test.TheVariants.{Home, Draw, HomeMost, AwayMost, Rival}
use Rattle.league_core.specs.declared.zone.Literal.{Literal}
use Rattle.league_core.specs.game.Results.{Results}
use Rattle.league_core.specs.game.Seasons.{IsSeasonOf}
use Rattle.league_core.specs.game.Finishes.{same_score}
use Rattle.league_core.specs.search.Zones.{passes}
use Rattle.league_core.specs.search.Options.{meets, options_of, options_in, has_score, has_option}
use Rattle.league_core.specs.search.Options.{has_finish, has_one_score, has_one_outcome, is_single}
use Rattle.league_core.specs.search.Options.{is_away_win}
use Rattle.league_core.proofs.OptionLemmas.{same_score-itself, has_score-first, all_options}
use Rattle.league_core.proofs.OptionLemmas.{length-options_from}
use Rattle.league_core.proofs.LiteralLemmas.{options_at}
use Rattle.score_box.specs.declared.cell.Cell.{Cell}
use Rattle.score_box.specs.declared.cell.goals.ScoreRange.{ScoreRange}
use Rattle.score_box.specs.inside.Cells.{allows, IsCellOf, IsAllowed, IsScoreRangeOf, HasOneOutcome}
use Rattle.score_box.specs.inside.ZoneBoxViews.{ZoneBoxView, HasFinish}
use Rattle.score_box.specs.inside.Unplayed.{is_unplayed, unplayed_in}
use Rattle.score_box.proofs.OutcomeLemmas.{all_away_wins, one_outcome_of}
use Rattle.branch_rules.specs.declared.rated.Rated.{Rated}
use Rattle.branch_rules.specs.inside.Choices.{IsDivided, IsGoalSplit, options_at_fixture}
use Rattle.branch_rules.specs.inside.GoalTests.{DividesByGoals, HasOneAtMost, AreSame}
use Rattle.example_finish.proofs.UnplayedLemmas.{each_fixture}
use Rattle.branch_rules.proofs.SplitLemmas.{home_most_is_proper, away_most_is_proper}
use Rattle.league_core.proofs.plain.Lists.{list_all-at, all_from}

-- ---- what parts the scores of a cell

-- what parts every cell with these goals parts this one
pub parts_this : (found : Option Rated) (cell : Cell) (test : Score → Bool) (goals : ScoreRange)
    (fixture : ℕ)
    → IfSome found (λ one. (other : Cell) (passed : Score → Bool)
    → IsScoreRangeOf other passed goals
    → DividesByGoals other fixture one.test)
    → IsScoreRangeOf cell test goals → IfSome found (λ one. DividesByGoals cell fixture one.test)
parts_this None cell test goals fixture each range = tt
parts_this (Some one) cell test goals fixture each range = each cell test range

-- ---- one score alone

-- scores between the same ends are the same
same_ends : (cell : Cell) (test : Score → Bool) (goals : ScoreRange)
    → IsScoreRangeOf cell test goals
    → AreSame goals → (score other : Score) → IsAllowed cell test score → IsAllowed cell test other
    → score ≡ other
same_ends cell test goals range same score other is other_is =
    let one = range.within score is in
    let two = range.within other other_is in
    let home : score.home ≡ other.home = omega arith in
    let away : score.away ≡ other.away = omega arith in
    λ i. record { home = home i; away = away i }

pub one_away_win : (found : Option Rated) (cell : Cell) (goals : ScoreRange) → IfNone found (AreSame
    goals)
    → IsScoreRangeOf cell is_away_win goals → IfNone found (HasOneOutcome cell → HasOneAtMost cell)
one_away_win (Some one) cell goals same range = tt
one_away_win None cell goals same range = λ one score other is other_is.
    let lost = λ (s : Score) (here : allows cell s ≡ true). lt-ltb s.home s.away
    (all_away_wins cell range.home_least.0 one range.home_least.1 s here) in
    same_ends cell is_away_win goals range same score other
    (record { allowed = is; passed = lost score is })
    (record { allowed = other_is; passed = lost other other_is })

-- of options that are there and are all the same, one score is left
one_score_from : (options : List Score) → has_option options ≡ true
    → ((score other : Score) → has_score options score ≡ true → has_score options other ≡ true
    → score ≡ other) → has_one_score options ≡ true
one_score_from [] some same = absurd (false≢true some)
one_score_from (first ∷ options) some same =
    all_options _ options (λ other is.
    same_score-itself first other (same first other (has_score-first first options) (later other
    is)))
  where
    later : (other : Score) → has_score options other ≡ true
        → has_score (first ∷ options) other ≡ true
    later other is = or_right (same_score other first) (has_score options other) is

-- ---- in the zone

-- what parts a cell parts the options that it has
among : (cell : Cell) (options : List Score) (test : Score → Bool) → IsCellOf cell options
    → IsDivided (allows cell) test → IsDivided (has_score options) test
among cell options test of_cell parts = record {
  one = parts.one;
  has_one = sym (of_cell parts.one) ∙ parts.has_one;
  passed = parts.passed;
  other = parts.other;
  has_other = sym (of_cell parts.other) ∙ parts.has_other;
  failed = parts.failed;
}

-- a test that parts the scores of a fixture's cell is a proper split
pub goals_split : (setting : ZoneBoxView) (question : Question) (fixture : ℕ) (cell : Cell) (test :
    Test)
    → IsSeasonOf setting.sheet setting.season → HasFinish setting
    → fixture < length setting.season.scores → IsCellOf cell (options_at_fixture setting fixture)
    → DividesByGoals cell fixture test → IsGoalSplit setting question test
goals_split setting question fixture cell (Home f) of_sheet some within of_cell parts =
    absurd parts.of_fixture
goals_split setting question fixture cell (Draw f) of_sheet some within of_cell parts =
    absurd parts.of_fixture
goals_split setting question fixture cell (HomeMost f most) of_sheet some within of_cell parts =
    record {
      goals = refl;
      proper = home_most_is_proper setting.sheet setting.season question setting.zone f most
          of_sheet
          some (omega (arith, parts.of_fixture))
          (subst (λ (n : ℕ). IsDivided (has_score (options_at_fixture setting n))
          (passes (HomeMost f most))) (sym parts.of_fixture)
          (among cell (options_at_fixture setting fixture) (passes (HomeMost f most)) of_cell
          parts.parts));
    }
goals_split setting question fixture cell (AwayMost f most) of_sheet some within of_cell parts =
    record {
      goals = refl;
      proper = away_most_is_proper setting.sheet setting.season question setting.zone f most
          of_sheet
          some (omega (arith, parts.of_fixture))
          (subst (λ (n : ℕ). IsDivided (has_score (options_at_fixture setting n))
          (passes (AwayMost f most))) (sym parts.of_fixture)
          (among cell (options_at_fixture setting fixture) (passes (AwayMost f most)) of_cell
          parts.parts));
    }
goals_split setting question fixture cell (Rival club) of_sheet some within of_cell parts =
    absurd parts.of_fixture

-- a fixture whose cell has one score at most has one
pub one_score_is_left : (setting : ZoneBoxView) (fixture : ℕ) (cell : Cell) → HasFinish setting
    → fixture < length setting.season.scores → IsCellOf cell (options_at_fixture setting fixture)
    → (HasOneOutcome cell → HasOneAtMost cell)
    → IsTrue (has_one_outcome (options_at_fixture setting fixture))
    → IsTrue (has_one_score (options_at_fixture setting fixture))
unfolding has_finish
one_score_is_left setting fixture cell some within of_cell most one =
    let options = options_at_fixture setting fixture in
    let long = length-options_from setting.sheet.goal_limit setting.zone 0 setting.season.scores in
    one_score_from options
    (list_all-at has_option (options_in setting.sheet setting.season setting.zone) fixture []
    (omega (arith, long)) some)
    (λ score other is other_is. most (one_outcome_of cell options of_cell one) score other
    (of_cell score ∙ is) (of_cell other ∙ other_is))

-- a fixture that was played has one score
played_has_one_score : (sheet : Sheet) (season : Results) (zone : List Literal) (k : ℕ)
    → has_finish sheet season zone ≡ true
    → k < length season.scores → is_unplayed (get_or season.scores k None) ≡ false
    → has_one_score (get_or (options_in sheet season zone) k []) ≡ true
unfolding has_finish
played_has_one_score sheet season zone k some within played =
    let long = length-options_from sheet.goal_limit zone 0 season.scores in
    let there = list_all-at has_option (options_in sheet season zone) k [] (omega (arith, long))
    some in
    let is = options_at sheet.goal_limit zone season.scores k within in
    subst (λ options. has_one_score options ≡ true) (sym is)
    (of_played (get_or season.scores k None) played
    (subst (λ options. has_option options ≡ true) is there))
  where
    of_played : (ended : Option Score) → is_unplayed ended ≡ false
        → has_option (options_of sheet.goal_limit zone k ended) ≡ true
        → has_one_score (options_of sheet.goal_limit zone k ended) ≡ true
    of_played None not_so option = absurd (true≢false not_so)
    of_played (Some score) not_so option =
        elim (cases_Bool (meets zone k score)) as
        (λ _. has_one_score (options_of sheet.goal_limit zone k (Some score)) ≡ true) [
          | inl kept ↦ rw kept refl
          | inr dropped ↦ absurd (false≢true (rw dropped at option))
        ]

-- if each fixture that is not played has one score, each has
pub scores_fixed : (sheet : Sheet) (season : Results) (zone : List Literal)
    → has_finish sheet season zone ≡ true
    → ((j : ℕ) → j < length (unplayed_in season.scores)
    → has_one_score (get_or (options_in sheet season zone)
    (get_or (unplayed_in season.scores) j 0) []) ≡ true)
    → is_single sheet season zone ≡ true
unfolding is_single
scores_fixed sheet season zone some each =
    let long = length-options_from sheet.goal_limit zone 0 season.scores in
    all_from has_one_score (options_in sheet season zone) [] (λ k below.
    each_fixture (λ n. has_one_score (get_or (options_in sheet season zone) n []) ≡ true)
    season.scores each (λ n within played. played_has_one_score sheet season zone n some within
    played)
    k (omega (arith, long)))
