-- Two leagues worked by hand, computed when the crate is checked. In the first X beat C 1:0, C beat
-- Y 1:0, Z beat X and Y 1:0, and Y against Z is open: X and C end on 3 points, Z above them, and Y
-- joins the two if it wins.
use Rattle.std.specs.Prelude.{◌≡◌, ℕ, Bool, true, false, List, [], ◌∷◌, ◌++◌, Some, None, map}
use Rattle.std.specs.Prelude.{refl}
use Rattle.league_core.specs.declared.sheet.Sheet.{Sheet}
use Rattle.league_core.specs.declared.sheet.Order.{Order}
use Rattle.league_core.specs.declared.sheet.Order.TheVariants.{HeadFirst, OverallFirst}
use Rattle.league_core.specs.declared.sheet.Fixture.{Fixture}
use Rattle.league_core.specs.declared.question.Claim.TheVariants.{Inside}
use Rattle.league_core.specs.declared.zone.Test.TheVariants.{Rival}
use Rattle.league_core.specs.declared.zone.Literal.{Literal}
use Rattle.league_core.specs.declared.zone.Reason.TheVariants.{Tie}
use Rattle.league_core.specs.game.Results.{Results}
use Rattle.league_core.specs.game.Questions.{full_question}
use Rattle.league_core.specs.search.Options.{score_of, has_finish}
use Rattle.league_core.specs.search.PointRanges.{least_points_of, most_points_of}
use Rattle.league_core.specs.search.Reasons.{has_reason}
use Rattle.near_laws.specs.Near.{has_near_reason}

-- home against away; C is 0, X 1, Y 2 and Z 3
abbrev vs : ℕ → ℕ → Fixture
vs home away = record { home = home; away = away }

abbrev sheet : Order → Sheet
sheet order = record {
  name = [];
  clubs = map (λ rank. record { name = []; rank = rank }) (1 ∷ 2 ∷ 3 ∷ 4 ∷ []);
  fixtures = vs 1 0 ∷ vs 0 2 ∷ vs 3 1 ∷ vs 3 2 ∷ vs 2 3 ∷ [];
  lines = 2 ∷ [];
  goal_limit = 1;
  budget = 9;
  order = order;
}

abbrev season : Results
season = record {
  scores = Some (score_of 1 0) ∷ Some (score_of 1 0) ∷ Some (score_of 1 0) ∷ Some (score_of 1 0)
      ∷ None ∷ [];
  deductions = 0 ∷ 0 ∷ 0 ∷ 0 ∷ [];
}

-- a rival is marked before the club, or after it
abbrev marked : ℕ → Bool → List Literal
marked rival before = record { test = Rival rival; yes = before } ∷ []

-- does the reason hold by X, in a question of C
abbrev by_x : Order → Bool → Bool
by_x order before =
    has_near_reason (sheet order) season (full_question 0 2 Inside) (marked 1 before) 1

-- and by C, in a question of X
abbrev by_c : Order → Bool → Bool
by_c order before =
    has_near_reason (sheet order) season (full_question 1 2 Inside) (marked 0 before) 0

-- X has the better record with Y on 3 points and without: with Y both have 3 points there, and X
-- the goal difference 1 against 0. Nothing is sure the other way round
x_behind : by_x HeadFirst false ≡ true
unfolding has_near_reason has_finish least_points_of most_points_of
x_behind = refl

x_ahead : by_x HeadFirst true ≡ false
unfolding has_near_reason has_finish least_points_of most_points_of
x_ahead = refl

c_ahead : by_c HeadFirst true ≡ true
unfolding has_near_reason has_finish least_points_of most_points_of
c_ahead = refl

c_behind : by_c HeadFirst false ≡ false
unfolding has_near_reason has_finish least_points_of most_points_of
c_behind = refl

-- X and C have the same difference and goals over all matches, so that the head-to-head decides
x_behind_overall : by_x OverallFirst false ≡ true
unfolding has_near_reason has_finish least_points_of most_points_of
x_behind_overall = refl

c_behind_overall : by_c OverallFirst false ≡ false
unfolding has_near_reason has_finish least_points_of most_points_of
c_behind_overall = refl

-- the criteria alone say nothing while a match is open
no_tie : has_reason (sheet HeadFirst) season (full_question 0 2 Inside) (marked 1 false) Tie ≡ false
unfolding has_reason has_finish
no_tie = refl

-- ---- Y and C drew 1:1, X and Z too, and Y against X is open: C and Z end on 1 point. Y does if it
-- loses, and X if it does

abbrev other_sheet : Sheet
other_sheet = record (sheet HeadFirst) { fixtures = vs 2 0 ∷ vs 1 3 ∷ vs 2 1 ∷ [] }

abbrev other_season : Results
other_season = record {
  scores = Some (score_of 1 1) ∷ Some (score_of 1 1) ∷ None ∷ [];
  deductions = 0 ∷ 0 ∷ 0 ∷ 0 ∷ [];
}

abbrev by_y : List Literal → Bool
by_y zone = has_near_reason other_sheet other_season (full_question 0 2 Inside) zone 2

-- Y behind C and Z before it: among C, Y and Z alone Z has no match, so C is ahead of it. With X
-- there would be no score for Y against X. By itself Y has the record of C, and one goal fewer
two_marks : by_y (marked 2 false ++ marked 3 true) ≡ true
unfolding has_near_reason has_finish least_points_of most_points_of
two_marks = refl

-- without a mark Z is not on a wrong side, and Y alone is not
one_mark : by_y (marked 2 false) ≡ false
unfolding has_near_reason has_finish least_points_of most_points_of
one_mark = refl
