-- The outcome of the first option, by the outcomes that the options have.
use Rattle.std.proofs.Common.{◌≡◌, ◌≢◌, inl, inr, ◌≤ℤ◌, ℤ, pos, neg_ℤ, ◌+◌, Bool, true, false}
use Rattle.std.proofs.Common.{◌||◌, List, [], ◌∷◌, Some, Ordering, Less, Equal, Greater, refl, sym}
use Rattle.std.proofs.Common.{ap, ◌∙◌}
use Rattle.std.proofs.Common.{arith}
use Rattle.std.specs.List.{list_any}
use Rattle.std.specs.Ordering.{ordering_then}
use Rattle.std.proofs.lemmas.Bool.{false≢true, or_cases, or_left}
use Rattle.std.proofs.lemmas.Int.{ints}
use Rattle.league_core.specs.declared.season.Score.{Score}
use Rattle.league_core.specs.game.Sums.{match_points, goal_difference}
use Rattle.league_core.specs.game.HeadToHead.{greater_first, by_first_difference}
use Rattle.league_core.specs.game.Finishes.{same_score}
use Rattle.league_core.specs.search.Options.{has_score, is_home_win, is_draw, is_away_win}
use Rattle.league_core.specs.search.Proposals.{weighed_together, first_option}
use Rattle.league_core.proofs.OutcomeLemmas.{outcome_cases}
use Rattle.league_core.proofs.OptionLemmas.{same_score-true}
use Rattle.league_core.proofs.ProposalLemmas.{first_option_is}
use Rattle.league_core.proofs.OptionTestLemmas.{any_gives}
use Rattle.example_finish.proofs.OrderLemmas.{home_win_points, draw_points, away_win_points}

-- if none passes, no option does
none_passes : (test : Score → Bool) (options : List Score) (score : Score)
    → list_any test options ≡ false → has_score options score ≡ true → test score ≢ true
none_passes test [] score none has = absurd (false≢true has)
none_passes test (first ∷ options) score none has =
    λ passed.
    elim (or_cases (same_score score first) (has_score options score) has) as (λ _. ⊥) [
      | inl same ↦
          false≢true (sym none ∙ or_left (test first) (list_any test options)
          (ap test (sym (same_score-true score first same)) ∙ passed))
      | inr later ↦
          none_passes test options score (rest (test first) (list_any test options) none) later
          passed
    ]
  where
    rest : (a b : Bool) → (a || b) ≡ false → b ≡ false
    rest false b is = is
    rest true b is = absurd (false≢true (sym is))

-- what is not taken before has no greater first number
no_more : (number other : ℤ) (numbers others : List ℤ)
    → by_first_difference (number ∷ numbers) (other ∷ others) ≢ Less → number ≤ℤ other
no_more number other numbers others not_less = by (greater_first number other) refl
  where
    equal : greater_first number other ≡ Equal → number ≤ℤ other
    equal is = grind (arith, ints)

    greater : greater_first number other ≡ Greater → number ≤ℤ other
    greater is = grind (arith, ints)

    by : (order : Ordering) → greater_first number other ≡ order → number ≤ℤ other
    by Less is =
        absurd (not_less (ap (λ o. ordering_then o (by_first_difference numbers others)) is))
    by Equal is = equal is
    by Greater is = greater is

-- the first option meets the wishes for points as well as any other
first_meets : (home away : Bool) (options : List Score) (score other : Score)
    → first_option home away options ≡ Some score → has_score options other ≡ true
    → weighed_together match_points home away other
    ≤ℤ weighed_together match_points home away score
first_meets home away options score other is has =
    no_more _ _
    (weighed_together goal_difference home away other
    ∷ neg_ℤ (pos (other.home + other.away)) ∷ pos other.home ∷ [])
    (weighed_together goal_difference home away score
    ∷ neg_ℤ (pos (score.home + score.away)) ∷ pos score.home ∷ [])
    ((first_option_is home away options score is).first other has)

-- an outcome that no option has is not that of the first
not_taken : (test : Score → Bool) (home away : Bool) (options : List Score) (score : Score)
    → list_any test options ≡ false → first_option home away options ≡ Some score
    → test score ≢ true
not_taken test home away options score none is =
    none_passes test options score none (first_option_is home away options score is).option

-- the first option brings no fewer points than an outcome that some option has
brings : (home away : Bool) (options : List Score) (score : Score) (test : Score → Bool)
    (points : ℤ)
    → ((other : Score) → test other ≡ true
    → weighed_together match_points home away other ≡ points)
    → list_any test options ≡ true → first_option home away options ≡ Some score
    → points ≤ℤ weighed_together match_points home away score
brings home away options score test points points_of some is =
    let found = any_gives test options some in
    let meets = first_meets home away options score found.0 is found.1 in
    let theirs = points_of found.0 found.2 in
    omega (arith, ints, meets, theirs)

-- the home side alone is wished points
pub home_first-home_win : (options : List Score) (score : Score)
    → list_any is_home_win options ≡ true → first_option true false options ≡ Some score
    → is_home_win score ≡ true
home_first-home_win options score some is =
    let most = brings true false options score is_home_win _ (home_win_points true false) some is in
    outcome_cases score (λ wins. wins)
    (λ draws. absurd (omega (arith, ints, most, draw_points true false score draws)))
    (λ loses. absurd (omega (arith, ints, most, away_win_points true false score loses)))

pub home_first-draw : (options : List Score) (score : Score)
    → list_any is_home_win options ≡ false → list_any is_draw options ≡ true
    → first_option true false options ≡ Some score → is_draw score ≡ true
home_first-draw options score none some is =
    let most = brings true false options score is_draw _ (draw_points true false) some is in
    outcome_cases score
    (λ wins. absurd (not_taken is_home_win true false options score none is wins))
    (λ draws. draws)
    (λ loses. absurd (omega (arith, ints, most, away_win_points true false score loses)))

-- the away side alone is
pub away_first-away_win : (options : List Score) (score : Score)
    → list_any is_away_win options ≡ true → first_option false true options ≡ Some score
    → is_away_win score ≡ true
away_first-away_win options score some is =
    let most = brings false true options score is_away_win _ (away_win_points false true) some is in
    outcome_cases score
    (λ wins. absurd (omega (arith, ints, most, home_win_points false true score wins)))
    (λ draws. absurd (omega (arith, ints, most, draw_points false true score draws)))
    (λ loses. loses)

pub away_first-draw : (options : List Score) (score : Score)
    → list_any is_away_win options ≡ false → list_any is_draw options ≡ true
    → first_option false true options ≡ Some score → is_draw score ≡ true
away_first-draw options score none some is =
    let most = brings false true options score is_draw _ (draw_points false true) some is in
    outcome_cases score
    (λ wins. absurd (omega (arith, ints, most, home_win_points false true score wins)))
    (λ draws. draws)
    (λ loses. absurd (not_taken is_away_win false true options score none is loses))

-- neither is
pub draw_first-draw : (options : List Score) (score : Score)
    → list_any is_draw options ≡ true → first_option false false options ≡ Some score
    → is_draw score ≡ true
draw_first-draw options score some is =
    let most = brings false false options score is_draw _ (draw_points false false) some is in
    outcome_cases score
    (λ wins. absurd (omega (arith, ints, most, home_win_points false false score wins)))
    (λ draws. draws)
    (λ loses. absurd (omega (arith, ints, most, away_win_points false false score loses)))

-- both are: a draw is not taken if there is a win
pub win_first-home_win : (options : List Score) (score : Score)
    → list_any is_home_win options ≡ true → list_any is_away_win options ≡ false
    → first_option true true options ≡ Some score → is_home_win score ≡ true
win_first-home_win options score some none is =
    let most = brings true true options score is_home_win _ (home_win_points true true) some is in
    outcome_cases score (λ wins. wins)
    (λ draws. absurd (omega (arith, ints, most, draw_points true true score draws)))
    (λ loses. absurd (not_taken is_away_win true true options score none is loses))

pub win_first-away_win : (options : List Score) (score : Score)
    → list_any is_home_win options ≡ false → list_any is_away_win options ≡ true
    → first_option true true options ≡ Some score → is_away_win score ≡ true
win_first-away_win options score none some is =
    let most = brings true true options score is_away_win _ (away_win_points true true) some is in
    outcome_cases score
    (λ wins. absurd (not_taken is_home_win true true options score none is wins))
    (λ draws. absurd (omega (arith, ints, most, draw_points true true score draws)))
    (λ loses. loses)

-- if two outcomes are not left the first option has the third
pub home_win_alone : (home away : Bool) (options : List Score) (score : Score)
    → list_any is_draw options ≡ false → list_any is_away_win options ≡ false
    → first_option home away options ≡ Some score → is_home_win score ≡ true
home_win_alone home away options score no_draw no_away is =
    outcome_cases score (λ wins. wins)
    (λ draws. absurd (not_taken is_draw home away options score no_draw is draws))
    (λ loses. absurd (not_taken is_away_win home away options score no_away is loses))

pub draw_alone : (home away : Bool) (options : List Score) (score : Score)
    → list_any is_home_win options ≡ false → list_any is_away_win options ≡ false
    → first_option home away options ≡ Some score → is_draw score ≡ true
draw_alone home away options score no_home no_away is =
    outcome_cases score
    (λ wins. absurd (not_taken is_home_win home away options score no_home is wins))
    (λ draws. draws)
    (λ loses. absurd (not_taken is_away_win home away options score no_away is loses))

pub away_win_alone : (home away : Bool) (options : List Score) (score : Score)
    → list_any is_home_win options ≡ false → list_any is_draw options ≡ false
    → first_option home away options ≡ Some score → is_away_win score ≡ true
away_win_alone home away options score no_home no_draw is =
    outcome_cases score
    (λ wins. absurd (not_taken is_home_win home away options score no_home is wins))
    (λ draws. absurd (not_taken is_draw home away options score no_draw is draws))
    (λ loses. loses)
