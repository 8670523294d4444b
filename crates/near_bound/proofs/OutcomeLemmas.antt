-- The outcomes that are left of a match, and the points that each gives to a side.
use Rattle.std.proofs.Common.{◌≡◌, ℕ, ℤ, pos, Bool, true, false}
use Rattle.std.proofs.Common.{◌==◌, nat_lt, ◌∙◌, Option, Some, None}
use Rattle.std.proofs.Common.{is_some, arith}
use Rattle.std.proofs.lemmas.Int.{ints}
use Rattle.std.proofs.lemmas.Bool.Decides.{nat_tests}
use Rattle.league_core.specs.declared.season.Score.{Score}
use Rattle.league_core.specs.game.Sums.{match_points}
use Rattle.league_core.specs.search.Options.{is_home_win, is_draw, is_away_win}
use Rattle.league_core.proofs.plain.Numbers.{eqb-swap}
use Rattle.near_bound.specs.declared.match_left.MatchLeft.{MatchLeft}
use Rattle.near_bound.specs.inside.MatchesLeft.{IsWorstIfAny, HasAny}
use Rattle.near_bound.specs.inside.Points.{side_points, MayGive}

-- the worst of some scores tells whether there is one
pub any_of : (left : MatchLeft) (many : Bool) (passes : Score → Bool) (found : Option Score)
    → IsWorstIfAny left many passes found → HasAny left passes (is_some found)
any_of left many passes None none = none
any_of left many passes (Some worst) is = (worst, is.is_left, is.is_one)

gives_from : (left : MatchLeft) (passes : Score → Bool) (away : Bool) (points : ℤ) (any : Bool)
    → ((score : Score) → passes score ≡ true → side_points away score ≡ points)
    → ((score : Score) → side_points away score ≡ points → passes score ≡ true)
    → HasAny left passes any → MayGive left away points any
gives_from left passes away points true to from has = (has.0, has.1, to has.0 has.2)
gives_from left passes away points false to from none =
    λ score is_left gives. none score is_left (from score gives)

win_gives : (a b : ℕ) (away : Bool) → nat_lt b a ≡ true → match_points a b away ≡ pos 3
win_gives a b away is = grind (arith, ints, nat_tests)

gives_win : (a b : ℕ) (away : Bool) → match_points a b away ≡ pos 3 → nat_lt b a ≡ true
gives_win a b away is = grind (arith, ints, nat_tests)

draw_gives : (a b : ℕ) (away : Bool) → (a == b) ≡ true → match_points a b away ≡ pos 1
draw_gives a b away is = grind (arith, ints, nat_tests)

gives_draw : (a b : ℕ) (away : Bool) → match_points a b away ≡ pos 1 → (a == b) ≡ true
gives_draw a b away is = grind (arith, ints, nat_tests)

defeat_gives : (a b : ℕ) (away : Bool) → nat_lt a b ≡ true → match_points a b away ≡ pos 0
defeat_gives a b away is = grind (arith, ints, nat_tests)

gives_defeat : (a b : ℕ) (away : Bool) → match_points a b away ≡ pos 0 → nat_lt a b ≡ true
gives_defeat a b away is = grind (arith, ints, nat_tests)

-- what may come gives these points
pub record AreGiven (left : MatchLeft) (away won drawn lost : Bool) : Type 0 where
  pub win : MayGive left away (pos 3) won
  pub draw : MayGive left away (pos 1) drawn
  pub defeat : MayGive left away (pos 0) lost

pub home_given : (left : MatchLeft) (won drawn lost : Bool) → HasAny left is_home_win won
    → HasAny left is_draw drawn → HasAny left is_away_win lost → AreGiven left false won drawn lost
home_given left won drawn lost win draw defeat = record {
  win =
      gives_from left is_home_win false (pos 3) won
      (λ score. win_gives score.home score.away false)
      (λ score. gives_win score.home score.away false) win;
  draw =
      gives_from left is_draw false (pos 1) drawn
      (λ score. draw_gives score.home score.away false)
      (λ score. gives_draw score.home score.away false) draw;
  defeat =
      gives_from left is_away_win false (pos 0) lost
      (λ score. defeat_gives score.home score.away false)
      (λ score. gives_defeat score.home score.away false) defeat;
}

pub away_given : (left : MatchLeft) (won drawn lost : Bool) → HasAny left is_away_win won
    → HasAny left is_draw drawn → HasAny left is_home_win lost → AreGiven left true won drawn lost
away_given left won drawn lost win draw defeat = record {
  win =
      gives_from left is_away_win true (pos 3) won
      (λ score. win_gives score.away score.home true)
      (λ score. gives_win score.away score.home true) win;
  draw =
      gives_from left is_draw true (pos 1) drawn
      (λ score is. draw_gives score.away score.home true (eqb-swap score.away score.home ∙ is))
      (λ score is. eqb-swap score.home score.away ∙ gives_draw score.away score.home true is)
      draw;
  defeat =
      gives_from left is_home_win true (pos 0) lost
      (λ score. defeat_gives score.away score.home true)
      (λ score. gives_defeat score.away score.home true) defeat;
}
