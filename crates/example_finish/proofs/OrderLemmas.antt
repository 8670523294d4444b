-- When one score is not taken before another, by the four parts of the wishes that it meets.
use Rattle.std.proofs.Common.{◌≡◌, ◌≢◌, ◌⊎◌, inl, inr, ◌<◌, ℤ, pos, ◌+ℤ◌, ◌<ℤ◌, Bool}
use Rattle.std.proofs.Common.{true, List, [], ◌∷◌, Less, refl, arith}
use Rattle.std.proofs.lemmas.Bool.{le-ltb, eq-eqb, ne_eqb, ltb-true, eqb-true}
use Rattle.league_core.specs.declared.season.Score.{Score}
use Rattle.league_core.specs.game.Sums.{match_points}
use Rattle.league_core.specs.game.HeadToHead.{greater_first, by_first_difference}
use Rattle.league_core.specs.search.Options.{is_home_win, is_draw, is_away_win}
use Rattle.league_core.specs.search.Proposals.{weighed, weighed_together, wishes_met, option_order}
use Rattle.league_core.proofs.OrderingLemmas.{greater_first-greater, greater_first-same}
use Rattle.league_core.proofs.plain.Orderings.{then_first, then_second}

-- less at the first difference, or nowhere more
abbrev pub IsNoGreater : List ℤ → List ℤ → Type 0
IsNoGreater [] others = Unit {0}
IsNoGreater (number ∷ numbers) [] = Unit {0}
IsNoGreater (number ∷ numbers) (other ∷ others) =
    (number <ℤ other) ⊎ ((number ≡ other) × IsNoGreater numbers others)

-- so it is not taken first, if both are as long
pub by_first_difference-no_greater : (a b c d e f g h : ℤ)
    → IsNoGreater (a ∷ b ∷ c ∷ d ∷ []) (e ∷ f ∷ g ∷ h ∷ [])
    → by_first_difference (a ∷ b ∷ c ∷ d ∷ []) (e ∷ f ∷ g ∷ h ∷ []) ≢ Less
by_first_difference-no_greater a b c d e f g h is =
    step a e (b ∷ c ∷ d ∷ []) (f ∷ g ∷ h ∷ [])
    (step b f (c ∷ d ∷ []) (g ∷ h ∷ [])
    (step c g (d ∷ []) (h ∷ []) (step d h [] [] (λ _ e. cc)))) is
  where
    step : (number other : ℤ) (numbers others : List ℤ)
        → (IsNoGreater numbers others → by_first_difference numbers others ≢ Less)
        → IsNoGreater (number ∷ numbers) (other ∷ others)
        → by_first_difference (number ∷ numbers) (other ∷ others) ≢ Less
    step number other numbers others rest (inl less) =
        then_first (greater_first number other) (by_first_difference numbers others)
        (greater_first-greater number other less)
    step number other numbers others rest (inr same) =
        then_second (greater_first number other) (by_first_difference numbers others)
        (greater_first-same number other same.0) (rest same.1)

-- a score that meets the wishes no more than another is not taken before it
pub not_before : (home away : Bool) (score other : Score)
    → IsNoGreater (wishes_met home away other) (wishes_met home away score)
    → option_order home away other score ≢ Less
not_before home away score other is =
    by_first_difference-no_greater _ _ _ _ _ _ _ _ is

-- the points of an outcome
pub home_win_points : (home away : Bool) (score : Score) → is_home_win score ≡ true
    → weighed_together match_points home away score
    ≡ weighed home (pos 3) +ℤ weighed away (pos 0)
home_win_points home away score wins =
    let more : score.away < score.home = ltb-true score.away score.home wins in
    rw (
      wins,
      le-ltb score.home score.away (omega arith),
      ne_eqb score.away score.home (λ e. absurd (omega arith)),
    ) refl

pub draw_points : (home away : Bool) (score : Score) → is_draw score ≡ true
    → weighed_together match_points home away score
    ≡ weighed home (pos 1) +ℤ weighed away (pos 1)
draw_points home away score draws =
    let same : score.home ≡ score.away = eqb-true score.home score.away draws in
    rw (
      le-ltb score.away score.home (omega arith),
      le-ltb score.home score.away (omega arith),
      eq-eqb score.home score.away same,
      eq-eqb score.away score.home (omega arith),
    ) refl

pub away_win_points : (home away : Bool) (score : Score) → is_away_win score ≡ true
    → weighed_together match_points home away score
    ≡ weighed home (pos 0) +ℤ weighed away (pos 3)
away_win_points home away score wins =
    let more : score.home < score.away = ltb-true score.home score.away wins in
    rw (
      le-ltb score.away score.home (omega arith),
      wins,
      ne_eqb score.home score.away (λ e. absurd (omega arith)),
    ) refl
