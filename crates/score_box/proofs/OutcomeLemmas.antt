-- Cells whose scores have one outcome: which it is, and when it is so.
use Rattle.std.proofs.Common.{◌≡◌, ◌<◌, ◌⊎◌, Bool, true, false, List, [], ◌∷◌, Option}
use Rattle.std.proofs.Common.{Some, None, is_some, refl, sym, ap, ◌∙◌, inl, inr, arith}
use Rattle.std.proofs.Common.{ℕ, not, ◌+◌, cond, length, get_or, take}
use Rattle.std.proofs.lemmas.Bool.{false≢true, ltb-true, eqb-true, or_cases, or_right}
use Rattle.std.proofs.lemmas.Bool.{false_from_ne_true}
use Rattle.std.proofs.lemmas.List.Sums.{count_by_more_no, count_by_more_yes}
use Rattle.league_core.specs.declared.season.Score.{Score}
use Rattle.league_core.specs.game.Finishes.{same_score}
use Rattle.league_core.specs.search.Options.{is_home_win, is_draw, is_away_win, same_outcome}
use Rattle.league_core.specs.search.Options.{has_score, has_one_outcome}
use Rattle.league_core.proofs.OptionLemmas.{same_score-true, has_score-first, each_option}
use Rattle.league_core.proofs.OptionLemmas.{all_options}
use Rattle.league_core.proofs.OutcomeLemmas.{outcome_cases, one_of_three}
use Rattle.league_core.proofs.OutcomeLemmas.{no_won_draw, no_two_winners, no_lost_draw}
use Rattle.league_core.proofs.OutcomeLemmas.{same_outcome-home, same_outcome-draw}
use Rattle.league_core.proofs.OutcomeLemmas.{same_outcome-away, same_outcome-itself}
use Rattle.league_core.proofs.OutcomeLemmas.{same_outcome-joined}
use Rattle.score_box.specs.declared.cell.Cell.{Cell}
use Rattle.score_box.specs.declared.cell.goals.ScoreRange.{ScoreRange}
use Rattle.score_box.specs.inside.Cells.{allows, IsAllowed, AllowsNone, IsCellOf, at_most_one}
use Rattle.score_box.specs.inside.Cells.{HasOneOutcome}
use Rattle.score_box.specs.inside.Boxes.{open_outcomes_in}
use Rattle.score_box.proofs.CellLemmas.{Says}

-- if one score is a home win, a draw or an away win, all are
pub all_home_wins : (cell : Cell) (first : Score) → HasOneOutcome cell
    → IsAllowed cell is_home_win first → (score : Score) → allows cell score ≡ true
    → score.away < score.home
all_home_wins cell first one is score allowed =
    ltb-true score.away score.home
    (one_of_three {P = is_home_win score ≡ true} first score (one first score is.allowed allowed)
    (λ f s. s)
    (λ f s. absurd (no_won_draw first is.passed f))
    (λ f s. absurd (no_two_winners first is.passed f)))

pub all_draws : (cell : Cell) (first : Score) → HasOneOutcome cell → IsAllowed cell is_draw first
    → (score : Score) → allows cell score ≡ true → score.home ≡ score.away
all_draws cell first one is score allowed =
    eqb-true score.home score.away
    (one_of_three {P = is_draw score ≡ true} first score (one first score is.allowed allowed)
    (λ f s. absurd (no_won_draw first f is.passed))
    (λ f s. s)
    (λ f s. absurd (no_lost_draw first is.passed f)))

pub all_away_wins : (cell : Cell) (first : Score) → HasOneOutcome cell
    → IsAllowed cell is_away_win first → (score : Score) → allows cell score ≡ true
    → score.home < score.away
all_away_wins cell first one is score allowed =
    ltb-true score.home score.away
    (one_of_three {P = is_away_win score ≡ true} first score (one first score is.allowed allowed)
    (λ f s. absurd (no_two_winners first f is.passed))
    (λ f s. absurd (no_lost_draw first f is.passed))
    (λ f s. s))

-- a cell has one outcome exactly when its fixture's options have one
pub one_outcome_of : (cell : Cell) (options : List Score) → IsCellOf cell options
    → has_one_outcome options ≡ true → HasOneOutcome cell
one_outcome_of cell [] is one score other allowed other_allowed = absurd
    (false≢true (sym (is score) ∙ allowed))
one_outcome_of cell (first ∷ options) is one score other allowed other_allowed =
    same_outcome-joined first score other
    (with_first score (or_cases (same_score score first) (has_score options score)
    (sym (is score) ∙ allowed)))
    (with_first other (or_cases (same_score other first) (has_score options other)
    (sym (is other) ∙ other_allowed)))
  where
    with_first : (s : Score) → (same_score s first ≡ true) ⊎ (has_score options s ≡ true)
        → same_outcome first s ≡ true
    with_first s (inl same) =
        ap (same_outcome first) (same_score-true s first same) ∙ same_outcome-itself first
    with_first s (inr later) = each_option (same_outcome first) options one s later

pub outcome_of_cell : (cell : Cell) (options : List Score) → IsCellOf cell options
    → HasOneOutcome cell → has_one_outcome options ≡ true
outcome_of_cell cell [] is one = refl
outcome_of_cell cell (first ∷ options) is one =
    all_options (same_outcome first) options
    (λ score later.
    one first score
    (is first ∙ has_score-first first options)
    (is score ∙ or_right (same_score score first) (has_score options score) later))

-- if all scores are of one kind, they have one outcome
one_kind : (cell : Cell) (test : Score → Bool)
    → ((score other : Score) → test score ≡ true → test other ≡ true
    → same_outcome score other ≡ true)
    → ((score : Score) → allows cell score ≡ true → test score ≡ true) → HasOneOutcome cell
one_kind cell test same all score other allowed other_allowed =
    same score other (all score allowed) (all other other_allowed)

-- none of the cell's scores is of the kind
none_at : (cell : Cell) (test : Score → Bool) (score : Score) → AllowsNone cell test
    → allows cell score ≡ true → test score ≡ true → ⊥
none_at cell test score none allowed passed = none score
    (record { allowed = allowed; passed = passed })

only_home_wins : (cell : Cell) → AllowsNone cell is_draw → AllowsNone cell is_away_win
    → HasOneOutcome cell
only_home_wins cell draw away =
    one_kind cell is_home_win same_outcome-home
    (λ score allowed. outcome_cases {P = is_home_win score ≡ true} score (λ h. h)
    (λ d. absurd (none_at cell is_draw score draw allowed d))
    (λ a. absurd (none_at cell is_away_win score away allowed a)))

only_draws : (cell : Cell) → AllowsNone cell is_home_win → AllowsNone cell is_away_win
    → HasOneOutcome cell
only_draws cell home away =
    one_kind cell is_draw same_outcome-draw
    (λ score allowed. outcome_cases {P = is_draw score ≡ true} score
    (λ h. absurd (none_at cell is_home_win score home allowed h)) (λ d. d)
    (λ a. absurd (none_at cell is_away_win score away allowed a)))

only_away_wins : (cell : Cell) → AllowsNone cell is_home_win → AllowsNone cell is_draw
    → HasOneOutcome cell
only_away_wins cell home draw =
    one_kind cell is_away_win same_outcome-away
    (λ score allowed. outcome_cases {P = is_away_win score ≡ true} score
    (λ h. absurd (none_at cell is_home_win score home allowed h))
    (λ d. absurd (none_at cell is_draw score draw allowed d)) (λ a. a))

-- two scores of two kinds have no one outcome
home_and_draw : (cell : Cell) (home draw : Score) → HasOneOutcome cell
    → IsAllowed cell is_home_win home → IsAllowed cell is_draw draw → ⊥
home_and_draw cell home draw one h d =
    let level = d.passed in
    let above : draw.away < draw.home = all_home_wins cell home one h draw d.allowed in
    let same : draw.home ≡ draw.away = eqb-true draw.home draw.away level in
    omega arith

home_and_away : (cell : Cell) (home away : Score) → HasOneOutcome cell
    → IsAllowed cell is_home_win home → IsAllowed cell is_away_win away → ⊥
home_and_away cell home away one h a =
    let above : away.away < away.home = all_home_wins cell home one h away a.allowed in
    let below : away.home < away.away = ltb-true away.home away.away a.passed in
    omega arith

draw_and_away : (cell : Cell) (draw away : Score) → HasOneOutcome cell → IsAllowed cell is_draw draw
    → IsAllowed cell is_away_win away → ⊥
draw_and_away cell draw away one d a =
    let same : away.home ≡ away.away = all_draws cell draw one d away a.allowed in
    let below : away.home < away.away = ltb-true away.home away.away a.passed in
    omega arith

-- one outcome at most exactly when no two of the three have a score
pub decided : (cell : Cell) (home draws away : Option ScoreRange) → Says cell is_home_win home
    → Says cell is_draw draws → Says cell is_away_win away
    → (at_most_one (is_some home) (is_some draws) (is_some away) ≡ true → HasOneOutcome cell)
    × (HasOneOutcome cell → at_most_one (is_some home) (is_some draws) (is_some away) ≡ true)
decided cell (Some h) (Some d) away hs ds aws = (
  λ e. absurd (false≢true e),
  λ one. absurd (home_and_draw cell hs.home_least.0 ds.home_least.0 one hs.home_least.1
      ds.home_least.1),
)
decided cell (Some h) None (Some a) hs ds aws = (
  λ e. absurd (false≢true e),
  λ one. absurd (home_and_away cell hs.home_least.0 aws.home_least.0 one hs.home_least.1
      aws.home_least.1),
)
decided cell (Some h) None None hs ds aws = (λ e. only_home_wins cell ds aws, λ one. refl)
decided cell None (Some d) (Some a) hs ds aws = (
  λ e. absurd (false≢true e),
  λ one. absurd (draw_and_away cell ds.home_least.0 aws.home_least.0 one ds.home_least.1
      aws.home_least.1),
)
decided cell None (Some d) None hs ds aws = (λ e. only_draws cell hs aws, λ one. refl)
decided cell None None (Some a) hs ds aws = (λ e. only_away_wins cell hs ds, λ one. refl)
decided cell None None None hs ds aws = (λ e. only_away_wins cell hs ds, λ one. refl)

-- one fixture more counts if its cell has several outcomes
pub open_more : (options : List (List Score)) (k : ℕ) (cell : Cell) (one : Bool)
    → k < length options → IsCellOf cell (get_or options k [])
    → (one ≡ true → HasOneOutcome cell) → (HasOneOutcome cell → one ≡ true)
    → open_outcomes_in (take (k + 1) options) ≡ open_outcomes_in (take k options)
    + cond (not one) 1 0
open_more options k cell true within is gives from =
    let has = outcome_of_cell cell (get_or options k []) is (gives refl) in
    let same = count_by_more_no (λ (scores : List Score). not (has_one_outcome scores)) options k []
    within (ap not has) in
    omega arith
open_more options k cell false within is gives from =
    let none = false_from_ne_true (has_one_outcome (get_or options k []))
    (λ has. false≢true (from (one_outcome_of cell (get_or options k []) is has))) in
    count_by_more_yes (λ (scores : List Score). not (has_one_outcome scores)) options k []
    within (ap not none)
