-- What the outcomes that are left give to one side of a match.
use Rattle.std.proofs.Common.{◌≡◌, ◌⊎◌, Bool, true, false, not, ◌||◌, cond, refl, sym, ap, ◌∙◌}
use Rattle.std.proofs.Common.{subst, inl, inr, arith}
use Rattle.std.proofs.lemmas.Bool.{cases_Bool}
use Rattle.score_box.specs.declared.cell.Cell.{Cell}
use Rattle.score_box.specs.declared.points.left.OutcomesLeft.{OutcomesLeft}
use Rattle.score_box.specs.declared.points.outcomes.MatchPoints.{MatchPoints}
use Rattle.score_box.specs.inside.Points.{least_of_three, most_of_three, IsPointsOf}
use Rattle.score_box.specs.inside.Points.{AreOutcomesLeft}
use Rattle.score_box.proofs.EndLemmas.{empty_points}
use Rattle.score_box.proofs.LeftLemmas.{none_left, points_left-are}

-- the points of the three, or none if none is left
or_nothing : (cell : Cell) (left : OutcomesLeft) (home away : Bool) (points : MatchPoints)
    → AreOutcomesLeft cell left
    → points.least ≡ cond (not (left.home_win || left.draw || left.away_win)) 0
    (least_of_three left.home_win left.draw left.away_win home away)
    → points.most ≡ cond (not (left.home_win || left.draw || left.away_win)) 0
    (most_of_three left.home_win left.draw left.away_win home away)
    → IsPointsOf cell home away points
or_nothing cell left home away points are least_is most_is =
    at (cases_Bool (not (left.home_win || left.draw || left.away_win)))
  where
    at : (not (left.home_win || left.draw || left.away_win) ≡ true)
        ⊎ (not (left.home_win || left.draw || left.away_win) ≡ false)
        → IsPointsOf cell home away points
    at (inl none) =
        let Points : MatchPoints → Type 0 = λ p. IsPointsOf cell home away p in
        let least : 0 ≡ points.least = sym (least_is ∙ ap (λ b. cond b 0
        (least_of_three left.home_win left.draw left.away_win home away)) none) in
        let most : 0 ≡ points.most = sym (most_is ∙ ap (λ b. cond b 0
        (most_of_three left.home_win left.draw left.away_win home away)) none) in
        subst Points (λ i. record { least = least i; most = most i })
        (empty_points cell home away (none_left cell left are none))
    at (inr some) =
        points_left-are cell left home away points are some
        (least_is ∙ ap (λ b. cond b 0
        (least_of_three left.home_win left.draw left.away_win home away)) some)
        (most_is ∙ ap (λ b. cond b 0
        (most_of_three left.home_win left.draw left.away_win home away)) some)

-- of one side alone
pub home_points-are : (cell : Cell) (left : OutcomesLeft) (points : MatchPoints)
    → AreOutcomesLeft cell left
    → points.least ≡ cond left.away_win 0 (cond left.draw 1 (cond left.home_win 3 0))
    → points.most ≡ cond left.home_win 3 (cond left.draw 1 0) → IsPointsOf cell true false points
home_points-are cell left points are least_is most_is =
    or_nothing cell left true false points are
    (least_is ∙ least left.home_win left.draw left.away_win)
    (most_is ∙ most left.home_win left.draw left.away_win)
  where
    least : (w d l : Bool) → cond l 0 (cond d 1 (cond w 3 0))
        ≡ cond (not (w || d || l)) 0 (least_of_three w d l true false)
    least w d l = grind (arith)

    most : (w d l : Bool) → cond w 3 (cond d 1 0)
        ≡ cond (not (w || d || l)) 0 (most_of_three w d l true false)
    most w d l = grind (arith)

pub away_points-are : (cell : Cell) (left : OutcomesLeft) (points : MatchPoints)
    → AreOutcomesLeft cell left
    → points.least ≡ cond left.home_win 0 (cond left.draw 1 (cond left.away_win 3 0))
    → points.most ≡ cond left.away_win 3 (cond left.draw 1 0) → IsPointsOf cell false true points
away_points-are cell left points are least_is most_is =
    or_nothing cell left false true points are
    (least_is ∙ least left.home_win left.draw left.away_win)
    (most_is ∙ most left.home_win left.draw left.away_win)
  where
    least : (w d l : Bool) → cond w 0 (cond d 1 (cond l 3 0))
        ≡ cond (not (w || d || l)) 0 (least_of_three w d l false true)
    least w d l = grind (arith)

    most : (w d l : Bool) → cond l 3 (cond d 1 0)
        ≡ cond (not (w || d || l)) 0 (most_of_three w d l false true)
    most w d l = grind (arith)
