-- The points of a fixture by the outcomes that its cell has left.
use Rattle.std.proofs.Common.{◌≡◌, ◌⊎◌, ℕ, ◌≤◌, pos, ◌≤ℤ◌, Bool, true, false, ◌||◌, cond, List}
use Rattle.std.proofs.Common.{Option, Some, None, is_some, refl, sym, ap, ◌∙◌, inl, inr, arith}
use Rattle.std.proofs.lemmas.Int.{ints}
use Rattle.std.proofs.lemmas.Bool.{false≢true, false_from_ne_true}
use Rattle.league_core.specs.declared.season.Score.{Score}
use Rattle.league_core.specs.search.Options.{is_home_win, is_draw, is_away_win}
use Rattle.league_core.specs.search.PointRanges.{points_of_sides, won_points, drawn_points}
use Rattle.league_core.specs.search.PointRanges.{lost_points}
use Rattle.league_core.proofs.OutcomeLemmas.{outcome_cases}
use Rattle.league_core.proofs.WorthLemmas.{points_at_win, points_at_draw, points_at_loss}
use Rattle.league_core.proofs.WorthLemmas.{won_points-most, drawn_points-most}
use Rattle.league_core.proofs.PointRangeLemmas.{Reaches, least-is, greatest-is}
use Rattle.score_box.specs.declared.cell.Cell.{Cell}
use Rattle.score_box.specs.declared.cell.goals.ScoreRange.{ScoreRange}
use Rattle.score_box.specs.inside.Cells.{allows, IsCellOf, IsEmptyCell, IsAllowed}
use Rattle.score_box.specs.declared.points.outcomes.MatchPoints.{MatchPoints}
use Rattle.score_box.specs.inside.Points.{least_of_three, most_of_three, IsPointsOf}
use Rattle.score_box.proofs.CellLemmas.{Says}
use Rattle.league_core.proofs.plain.Numbers.{max_is_one, min_is_one}

-- each outcome that may come gives at least the least, and at most the most
least_below : (wins draws losses home away : Bool)
    → (wins ≡ true → least_of_three wins draws losses home away ≤ won_points home)
    × (draws ≡ true → least_of_three wins draws losses home away ≤ drawn_points home away)
    × (losses ≡ true → least_of_three wins draws losses home away ≤ lost_points away)
least_below wins draws losses home away = (
  λ e. rw e (omega arith),
  λ e. rw e (omega arith),
  λ e. rw e (omega arith),
)

most_above : (wins draws losses home away : Bool)
    → (wins ≡ true → won_points home ≤ most_of_three wins draws losses home away)
    × (draws ≡ true → drawn_points home away ≤ most_of_three wins draws losses home away)
    × (losses ≡ true → lost_points away ≤ most_of_three wins draws losses home away)
most_above wins draws losses home away = (
  λ e. rw e (omega arith),
  λ e. rw e (omega arith),
  λ e. rw e (omega arith),
)

-- an outcome that may come gives this number of points
abbrev IsGiven : Bool → Bool → Bool → Bool → Bool → ℕ → Type 0
IsGiven wins draws losses home away points =
    ((wins ≡ true) × (points ≡ won_points home))
    ⊎ (((draws ≡ true) × (points ≡ drawn_points home away))
    ⊎ ((losses ≡ true) × (points ≡ lost_points away)))

-- an outcome that may come gives the least, and one gives the most
least_given : (wins draws losses home away : Bool) → (wins || draws || losses) ≡ true
    → IsGiven wins draws losses home away (least_of_three wins draws losses home away)
least_given wins draws losses home away some = grind (arith)

most_given : (wins draws losses home away : Bool) → (wins || draws || losses) ≡ true
    → IsGiven wins draws losses home away (most_of_three wins draws losses home away)
most_given wins draws losses home away some = grind (arith)

-- a score of the cell of an outcome, if the cell has one
pub has_outcome : (cell : Cell) (test : Score → Bool) (goals : Option ScoreRange)
    → Says cell test goals
    → is_some goals ≡ true → (score : Score) × IsAllowed cell test score
has_outcome cell test None says some = absurd (false≢true some)
has_outcome cell test (Some goals) says some = (says.home_most.0, says.home_most.1)

-- and if a score has the outcome, the cell has one
pub some_outcome : (cell : Cell) (test : Score → Bool) (goals : Option ScoreRange) (score : Score)
    → Says cell test goals → allows cell score ≡ true → test score ≡ true → is_some goals ≡ true
some_outcome cell test None score says allowed passed =
    absurd (says score (record { allowed = allowed; passed = passed }))
some_outcome cell test (Some goals) score says allowed passed = refl

-- a cell that is not empty has a score of one of the outcomes
some_of_three : (cell : Cell) (home draws away : Option ScoreRange) → Says cell is_home_win home
    → Says cell is_draw draws → Says cell is_away_win away → ¬ IsEmptyCell cell
    → (is_some home || is_some draws || is_some away) ≡ true
some_of_three cell (Some goals) draws away home_says draws_say away_says some = refl
some_of_three cell None (Some goals) away home_says draws_say away_says some = refl
some_of_three cell None None (Some goals) home_says draws_say away_says some = refl
some_of_three cell None None None home_says draws_say away_says some =
    absurd (some (λ score.
    false_from_ne_true (allows cell score) (λ allowed.
    outcome_cases score
    (λ passed. home_says score (record { allowed = allowed; passed = passed }))
    (λ passed. draws_say score (record { allowed = allowed; passed = passed }))
    (λ passed. away_says score (record { allowed = allowed; passed = passed })))))

-- an option that reaches what an outcome gives
reached : (cell : Cell) (options : List Score) (home draws away : Option ScoreRange) (h a : Bool)
    (points : ℕ) → IsCellOf cell options → Says cell is_home_win home → Says cell is_draw draws
    → Says cell is_away_win away → IsGiven (is_some home) (is_some draws) (is_some away) h a points
    → Reaches (points_of_sides h a) options (pos points)
reached cell options home draws away h a points is home_says draws_say away_says
    (inl (some, same)) =
    let score = has_outcome cell is_home_win home home_says some in (
      score.0,
      sym (is score.0) ∙ score.1.allowed,
      points_at_win h a score.0 score.1.passed
          ∙ ap pos (sym same),
    )
reached cell options home draws away h a points is home_says draws_say away_says
    (inr (inl (some, same))) =
    let score = has_outcome cell is_draw draws draws_say some in (
      score.0,
      sym (is score.0) ∙ score.1.allowed,
      points_at_draw h a score.0 score.1.passed
          ∙ ap pos (sym same),
    )
reached cell options home draws away h a points is home_says draws_say away_says
    (inr (inr (some, same))) =
    let score = has_outcome cell is_away_win away away_says some in (
      score.0,
      sym (is score.0) ∙ score.1.allowed,
      points_at_loss h a score.0 score.1.passed
          ∙ ap pos (sym same),
    )

given_most : (wins draws losses home away : Bool) (points : ℕ)
    → IsGiven wins draws losses home away points → points ≤ 3
given_most wins draws losses home away points (inl (some, same)) =
    omega (arith, won_points-most home)
given_most wins draws losses home away points (inr (inl (some, same))) = omega
    (arith, drawn_points-most home away)
given_most wins draws losses home away points (inr (inr (some, same))) = omega
    (arith, won_points-most away)

in_order : (wins draws losses home away : Bool) (points : ℕ)
    → IsGiven wins draws losses home away points
    → points ≤ most_of_three wins draws losses home away
in_order wins draws losses home away points (inl (some, same)) =
    let above = (most_above wins draws losses home away).0 some in omega arith
in_order wins draws losses home away points (inr (inl (some, same))) =
    let above = (most_above wins draws losses home away).1 some in omega arith
in_order wins draws losses home away points (inr (inr (some, same))) =
    let above = (most_above wins draws losses home away).2 some in omega arith

-- the least and the most of the outcomes that a cell has are those of its options
pub points_of_outcomes : (cell : Cell) (home draws away : Option ScoreRange) (h a : Bool)
    (points : MatchPoints) → Says cell is_home_win home → Says cell is_draw draws
    → Says cell is_away_win away → ¬ IsEmptyCell cell
    → points.least ≡ least_of_three (is_some home) (is_some draws) (is_some away) h a
    → points.most ≡ most_of_three (is_some home) (is_some draws) (is_some away) h a
    → IsPointsOf cell h a points
points_of_outcomes cell home draws away h a points home_says draws_say away_says not_empty least_is
    most_is =
    let wins = is_some home in
    let levels = is_some draws in
    let losses = is_some away in
    let some = some_of_three cell home draws away home_says draws_say away_says not_empty in
    let low = least_given wins levels losses h a some in
    let high = most_given wins levels losses h a some in
    record {
      least = λ options is.
          ap pos least_is
          ∙ least-is (points_of_sides h a) options (pos (least_of_three wins levels losses h a))
          (λ score among. below score (is score ∙ among))
          (reached cell options home draws away h a
          (least_of_three wins levels losses h a) is home_says draws_say away_says low);
      most = λ options is.
          ap pos most_is
          ∙ greatest-is (points_of_sides h a) options (pos (most_of_three wins levels losses h a))
          (λ score among. above score (is score ∙ among))
          (reached cell options home draws away h a
          (most_of_three wins levels losses h a) is home_says draws_say away_says high);
      at_most = omega
          (arith, given_most wins levels losses h a (most_of_three wins levels losses h a) high);
      in_order = omega
          (arith, in_order wins levels losses h a (least_of_three wins levels losses h a) low);
    }
  where
    below : (score : Score) → allows cell score ≡ true
        → pos (least_of_three (is_some home) (is_some draws) (is_some away) h a)
        ≤ℤ points_of_sides h
        a score
    below score allowed =
        let bounds = least_below (is_some home) (is_some draws) (is_some away) h a in
        outcome_cases score
        (λ passed. let b = bounds.0
        (some_outcome cell is_home_win home score home_says allowed passed) in omega
        (arith, ints, points_at_win h a score passed))
        (λ passed. let b = bounds.1
        (some_outcome cell is_draw draws score draws_say allowed passed) in omega
        (arith, ints, points_at_draw h a score passed))
        (λ passed. let b = bounds.2
        (some_outcome cell is_away_win away score away_says allowed passed) in omega
        (arith, ints, points_at_loss h a score passed))

    above : (score : Score) → allows cell score ≡ true
        → points_of_sides h a score ≤ℤ pos
        (most_of_three (is_some home) (is_some draws) (is_some away) h a)
    above score allowed =
        let bounds = most_above (is_some home) (is_some draws) (is_some away) h a in
        outcome_cases score
        (λ passed. let b = bounds.0
        (some_outcome cell is_home_win home score home_says allowed passed) in omega
        (arith, ints, points_at_win h a score passed))
        (λ passed. let b = bounds.1
        (some_outcome cell is_draw draws score draws_say allowed passed) in omega
        (arith, ints, points_at_draw h a score passed))
        (λ passed. let b = bounds.2
        (some_outcome cell is_away_win away score away_says allowed passed) in omega
        (arith, ints, points_at_loss h a score passed))
