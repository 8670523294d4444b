-- The surplus of a fixture by the outcomes that are among its options.
use Rattle.std.proofs.Common.{◌≡◌, ℕ, ◌+◌, ◌-◌, Bool, true, false, not, ◌||◌, List, pos, ◌-ℤ◌}
use Rattle.std.proofs.Common.{refl, ◌∙◌, arith}
use Rattle.std.proofs.lemmas.Bool.{false_from_ne_true}
use Rattle.league_core.specs.declared.season.Score.{Score}
use Rattle.score_box.specs.declared.cell.Cell.{Cell}
use Rattle.score_box.specs.declared.points.left.OutcomesLeft.{OutcomesLeft}
use Rattle.score_box.specs.declared.points.outcomes.MatchPoints.{MatchPoints}
use Rattle.score_box.specs.inside.Cells.{IsCellOf, IsEmptyCell}
use Rattle.score_box.specs.inside.Points.{AreOutcomesLeft, IsPointsOf, least_of_three}
use Rattle.score_box.specs.inside.Points.{most_of_three}
use Rattle.score_box.proofs.LeftLemmas.{none_left, points_left-are}
use Rattle.flow_bound.specs.declared.cut.Cut.{Cut}
use Rattle.flow_bound.specs.declared.cut.Cut.TheVariants.{Floor, Ceiling}
use Rattle.flow_bound.specs.inside.Fixtures.{MatchWorth, surplus_in, surplus_left}
use Rattle.flow_bound.proofs.WorthLemmas.{floor_worth, ceiling_worth}
use Rattle.flow_bound.proofs.PairsLemmas.{worth_surplus}

-- what the outcomes leave to the sides that count
abbrev points_at : OutcomesLeft → Bool → Bool → MatchPoints
points_at left home away = record {
  least = least_of_three left.home_win left.draw left.away_win home away;
  most = most_of_three left.home_win left.draw left.away_win home away;
}

points_at-are : (cell : Cell) (left : OutcomesLeft) (home away : Bool) → AreOutcomesLeft cell left
    → ¬ IsEmptyCell cell → IsPointsOf cell home away (points_at left home away)
points_at-are cell left home away are some =
    points_left-are cell left home away (points_at left home away) are
    (false_from_ne_true (not (left.home_win || left.draw || left.away_win))
    (λ none. some (none_left cell left are none)))
    refl refl

-- the surplus of the least points, and of the most, in each case
abbrev least_beyond : Bool → Bool → Bool → ℕ
least_beyond home draw away =
    least_of_three home draw away true true
    - (least_of_three home draw away true false + least_of_three home draw away false true)

abbrev most_beyond : Bool → Bool → Bool → ℕ
most_beyond home draw away =
    most_of_three home draw away true false + most_of_three home draw away false true
    - most_of_three home draw away true true

floor_case : (home draw away : Bool)
    → surplus_left Floor home draw away ≡ least_beyond home draw away
floor_case home draw away = grind (arith)

ceiling_case : (home draw away : Bool)
    → surplus_left Ceiling home draw away ≡ most_beyond home draw away
ceiling_case home draw away = grind (arith)

-- what the outcomes give is the surplus of the options
pub left_surplus : (cut : Cut) (cell : Cell) (left : OutcomesLeft) (options : List Score)
    → AreOutcomesLeft cell left → ¬ IsEmptyCell cell → IsCellOf cell options
    → surplus_left cut left.home_win left.draw left.away_win ≡ surplus_in cut options
left_surplus Floor cell left options are some is =
    let home = points_at left true false in
    let away = points_at left false true in
    let both = points_at left true true in
    let worth : MatchWorth = record {
      home = pos home.least;
      away = pos away.least;
      surplus = both.least - (home.least + away.least);
    } in
    floor_case left.home_win left.draw left.away_win
    ∙ worth_surplus Floor cell options worth
    (floor_worth Floor cell home away both worth refl (points_at-are cell left true false are some)
    (points_at-are cell left false true are some) (points_at-are cell left true true are some) some
    refl refl refl) is
left_surplus Ceiling cell left options are some is =
    let home = points_at left true false in
    let away = points_at left false true in
    let both = points_at left true true in
    let worth : MatchWorth = record {
      home = pos 0 -ℤ pos home.most;
      away = pos 0 -ℤ pos away.most;
      surplus = home.most + away.most - both.most;
    } in
    ceiling_case left.home_win left.draw left.away_win
    ∙ worth_surplus Ceiling cell options worth
    (ceiling_worth Ceiling cell home away both worth refl
    (points_at-are cell left true false are some) (points_at-are cell left false true are some)
    (points_at-are cell left true true are some) some refl refl refl) is
