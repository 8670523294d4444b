-- The outcomes of scores: each score is a home win, a draw or an away win, and no two of them.
use Rattle.std.proofs.Common.{◌≡◌, ◌<◌, true, ◌&&◌, ◌||◌, inl, inr, arith}
use Rattle.std.proofs.lemmas.Bool.{ltb-true, lt-ltb, eqb-true, eq-eqb, cases_order}
use Rattle.std.proofs.lemmas.Bool.{or_cases, or_left, or_right, and_parts, and_from}
use Rattle.league_core.specs.declared.season.Score.{Score}
use Rattle.league_core.specs.search.Options.{is_home_win, is_draw, is_away_win, same_outcome}

-- whatever its outcome, a score is a home win, a draw or an away win
pub outcome_cases : {P : Type 0} (score : Score) → (is_home_win score ≡ true → P)
    → (is_draw score ≡ true → P) → (is_away_win score ≡ true → P) → P
outcome_cases {P} score home draw away =
    elim (cases_order score.home score.away) as (λ _. P) [
      | inl level ↦ draw (eq-eqb score.home score.away level)
      | inr apart ↦ elim apart as (λ _. P) [
        | inl below ↦ away (lt-ltb score.home score.away below)
        | inr above ↦ home (lt-ltb score.away score.home above)
      ]
    ]

-- two scores of one outcome are both home wins, both draws or both away wins
pub one_of_three : {P : Type 0} (score other : Score) → same_outcome score other ≡ true
    → (is_home_win score ≡ true → is_home_win other ≡ true → P)
    → (is_draw score ≡ true → is_draw other ≡ true → P)
    → (is_away_win score ≡ true → is_away_win other ≡ true → P) → P
one_of_three {P} score other same home draw away =
    elim (or_cases
    ((is_home_win score && is_home_win other) || (is_draw score && is_draw other))
    (is_away_win score && is_away_win other) same) as (λ _. P) [
      | inl both ↦ elim (or_cases (is_home_win score && is_home_win other)
          (is_draw score && is_draw other) both) as (λ _. P) [
            | inl h ↦
                let parts = and_parts (is_home_win score) (is_home_win other) h in
                home parts.0 parts.1
            | inr d ↦
                let parts = and_parts (is_draw score) (is_draw other) d in
                draw parts.0 parts.1
          ]
      | inr a ↦
          let parts = and_parts (is_away_win score) (is_away_win other) a in
          away parts.0 parts.1
    ]

-- no score has two outcomes
pub no_won_draw : (score : Score) → is_home_win score ≡ true → is_draw score ≡ true → ⊥
no_won_draw score wins draws =
    let above : score.away < score.home = ltb-true score.away score.home wins in
    let level : score.home ≡ score.away = eqb-true score.home score.away draws in
    omega arith

pub no_two_winners : (score : Score) → is_home_win score ≡ true → is_away_win score ≡ true → ⊥
no_two_winners score wins loses =
    let above : score.away < score.home = ltb-true score.away score.home wins in
    let below : score.home < score.away = ltb-true score.home score.away loses in
    omega arith

pub no_lost_draw : (score : Score) → is_draw score ≡ true → is_away_win score ≡ true → ⊥
no_lost_draw score draws loses =
    let level : score.home ≡ score.away = eqb-true score.home score.away draws in
    let below : score.home < score.away = ltb-true score.home score.away loses in
    omega arith

-- two home wins have one outcome, and so have two draws and two away wins
pub same_outcome-home : (score other : Score) → is_home_win score ≡ true
    → is_home_win other ≡ true → same_outcome score other ≡ true
same_outcome-home score other s o =
    or_left ((is_home_win score && is_home_win other) || (is_draw score && is_draw other))
    (is_away_win score && is_away_win other)
    (or_left (is_home_win score && is_home_win other) (is_draw score && is_draw other)
    (and_from (is_home_win score) (is_home_win other) s o))

pub same_outcome-draw : (score other : Score) → is_draw score ≡ true → is_draw other ≡ true
    → same_outcome score other ≡ true
same_outcome-draw score other s o =
    or_left ((is_home_win score && is_home_win other) || (is_draw score && is_draw other))
    (is_away_win score && is_away_win other)
    (or_right (is_home_win score && is_home_win other) (is_draw score && is_draw other)
    (and_from (is_draw score) (is_draw other) s o))

pub same_outcome-away : (score other : Score) → is_away_win score ≡ true
    → is_away_win other ≡ true → same_outcome score other ≡ true
same_outcome-away score other s o =
    or_right ((is_home_win score && is_home_win other) || (is_draw score && is_draw other))
    (is_away_win score && is_away_win other)
    (and_from (is_away_win score) (is_away_win other) s o)

-- a score has its own outcome
pub same_outcome-itself : (score : Score) → same_outcome score score ≡ true
same_outcome-itself score =
    outcome_cases {P = same_outcome score score ≡ true} score
    (λ h. same_outcome-home score score h h)
    (λ d. same_outcome-draw score score d d)
    (λ a. same_outcome-away score score a a)

-- two that have the outcome of a third have one
pub same_outcome-joined : (first score other : Score) → same_outcome first score ≡ true
    → same_outcome first other ≡ true → same_outcome score other ≡ true
same_outcome-joined first score other s o =
    let Goal : Type 0 = same_outcome score other ≡ true in
    one_of_three {P = Goal} first score s
    (λ f hs. one_of_three {P = Goal} first other o
    (λ g ho. same_outcome-home score other hs ho)
    (λ g d. absurd (no_won_draw first f g))
    (λ g a. absurd (no_two_winners first f g)))
    (λ f ds. one_of_three {P = Goal} first other o
    (λ g h. absurd (no_won_draw first g f))
    (λ g d. same_outcome-draw score other ds d)
    (λ g a. absurd (no_lost_draw first f g)))
    (λ f lost. one_of_three {P = Goal} first other o
    (λ g h. absurd (no_two_winners first g f))
    (λ g d. absurd (no_lost_draw first g f))
    (λ g a. same_outcome-away score other lost a))
