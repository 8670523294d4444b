-- The criteria one by one, each on a league in which nothing before it decides; computed when the
-- crate is checked. Clubs are named by letters in the comments, and count from 0 below.
use Rattle.std.specs.Prelude.{◌≡◌, ℕ, List, [], ◌∷◌}
use Rattle.std.specs.Prelude.{refl}
use Rattle.league_core.specs.declared.sheet.Sheet.{Sheet}
use Rattle.league_core.specs.declared.sheet.Fixture.{Fixture}
use Rattle.league_core.specs.rows.WorkedRows.{sheet_of, overall_first, vs, ended, played, places}

-- ---- one step at a time: A and B are level on points and on every criterion before the one named,
-- which puts A ahead; rank and lots are for B

abbrev for_b : List Fixture → Sheet
for_b fixtures = sheet_of (2 ∷ 1 ∷ 3 ∷ 4 ∷ []) fixtures

abbrev b_draws_first : List ℕ
b_draws_first = 1 ∷ 0 ∷ 2 ∷ 3 ∷ []

-- points in the group: A beat B 1:0, and B made up for it by 5:0 against C
group_points_decide : places (for_b (vs 0 1 ∷ vs 1 2 ∷ []))
    (played (ended 1 0 ∷ ended 5 0 ∷ []) (0 ∷ 0 ∷ 0 ∷ 0 ∷ [])) b_draws_first ≡ 1 ∷ 2 ∷ 4 ∷ 3 ∷ []
group_points_decide = refl

-- difference in the group: A won 2:0 at home and lost 0:1 away; B beat D 9:0 and A beat C 1:0
group_difference_decides : places (for_b (vs 0 1 ∷ vs 1 0 ∷ vs 0 2 ∷ vs 1 3 ∷ []))
    (played (ended 2 0 ∷ ended 1 0 ∷ ended 1 0 ∷ ended 9 0 ∷ []) (0 ∷ 0 ∷ 0 ∷ 0 ∷ []))
    b_draws_first ≡ 1 ∷ 2 ∷ 3 ∷ 4 ∷ []
group_difference_decides = refl

-- overall difference: they never met; A beat C 3:0, B beat D 2:0
difference_decides : places (for_b (vs 0 2 ∷ vs 1 3 ∷ []))
    (played (ended 3 0 ∷ ended 2 0 ∷ []) (0 ∷ 0 ∷ 0 ∷ 0 ∷ [])) b_draws_first ≡ 1 ∷ 2 ∷ 4 ∷ 3 ∷ []
difference_decides = refl

-- overall goals: A beat C 3:1, B beat D 2:0
goals_decide : places (for_b (vs 0 2 ∷ vs 1 3 ∷ []))
    (played (ended 3 1 ∷ ended 2 0 ∷ []) (0 ∷ 0 ∷ 0 ∷ 0 ∷ [])) b_draws_first ≡ 1 ∷ 2 ∷ 3 ∷ 4 ∷ []
goals_decide = refl

-- away goals: A won 2:0 at C, B won 2:0 at home against D
away_goals_decide : places (for_b (vs 2 0 ∷ vs 1 3 ∷ []))
    (played (ended 0 2 ∷ ended 2 0 ∷ []) (0 ∷ 0 ∷ 0 ∷ 0 ∷ [])) b_draws_first ≡ 1 ∷ 2 ∷ 3 ∷ 4 ∷ []
away_goals_decide = refl

-- wins: A beat C 2:0 and lost twice 0:1, B drew with D 1:1, 1:1 and 0:0; three
-- points are taken off D
wins_decide : places (for_b (vs 0 2 ∷ vs 0 2 ∷ vs 0 2 ∷ vs 1 3 ∷ vs 1 3 ∷ vs 1 3 ∷ []))
    (played (ended 2 0 ∷ ended 0 1 ∷ ended 0 1 ∷ ended 1 1 ∷ ended 1 1 ∷ ended 0 0 ∷ [])
    (0 ∷ 0 ∷ 0 ∷ 3 ∷ [])) b_draws_first ≡ 2 ∷ 3 ∷ 1 ∷ 4 ∷ []
wins_decide = refl

-- away wins: A won 1:0 at C and lost 1:2 at home, B won 1:0 at home against D and lost 1:2 there;
-- three points are taken off C, and three off D
away_wins_decide : places (for_b (vs 2 0 ∷ vs 0 2 ∷ vs 1 3 ∷ vs 3 1 ∷ []))
    (played (ended 0 1 ∷ ended 1 2 ∷ ended 1 0 ∷ ended 2 1 ∷ []) (0 ∷ 0 ∷ 3 ∷ 3 ∷ []))
    b_draws_first ≡ 1 ∷ 2 ∷ 3 ∷ 4 ∷ []
away_wins_decide = refl

-- overall difference before overall goals: A beat C 2:0, B beat D 4:3
difference_before_goals : places (for_b (vs 0 2 ∷ vs 1 3 ∷ []))
    (played (ended 2 0 ∷ ended 4 3 ∷ []) (0 ∷ 0 ∷ 0 ∷ 0 ∷ [])) b_draws_first ≡ 1 ∷ 2 ∷ 4 ∷ 3 ∷ []
difference_before_goals = refl

-- away goals before wins: A drew 1:1, 1:1 and 0:0 at C, B beat D 2:0 and lost to it twice 0:1, all
-- at home; three points are taken off C
away_goals_before_wins : places
    (for_b (vs 2 0 ∷ vs 2 0 ∷ vs 2 0 ∷ vs 1 3 ∷ vs 1 3 ∷ vs 1 3 ∷ []))
    (played (ended 1 1 ∷ ended 1 1 ∷ ended 0 0 ∷ ended 2 0 ∷ ended 0 1 ∷ ended 0 1 ∷ [])
    (0 ∷ 0 ∷ 3 ∷ 0 ∷ [])) b_draws_first ≡ 2 ∷ 3 ∷ 4 ∷ 1 ∷ []
away_goals_before_wins = refl

-- wins before away wins: A beat C twice 1:0 and lost 1:2 there, B won 1:0 at D and drew with it at
-- home 1:1, 1:1 and 0:0
wins_before_away_wins : places
    (for_b (vs 0 2 ∷ vs 0 2 ∷ vs 2 0 ∷ vs 3 1 ∷ vs 1 3 ∷ vs 1 3 ∷ vs 1 3 ∷ []))
    (played (ended 1 0 ∷ ended 1 0 ∷ ended 2 1 ∷ ended 0 1 ∷ ended 1 1 ∷ ended 1 1 ∷ ended 0 0 ∷ [])
    (0 ∷ 0 ∷ 0 ∷ 0 ∷ [])) b_draws_first ≡ 1 ∷ 2 ∷ 4 ∷ 3 ∷ []
wins_before_away_wins = refl

-- ---- the overall sums first

-- goals come second: B beat A 1:0, A beat C 3:1, so both have difference 1, and A scored more
overall_goals_second : places (overall_first (for_b (vs 1 0 ∷ vs 0 2 ∷ [])))
    (played (ended 1 0 ∷ ended 3 1 ∷ []) (0 ∷ 0 ∷ 0 ∷ 0 ∷ [])) b_draws_first ≡ 1 ∷ 2 ∷ 4 ∷ 3 ∷ []
overall_goals_second = refl

-- difference comes before goals: A beat C 2:0, B beat D 4:3
overall_difference_before_goals : places (overall_first (for_b (vs 0 2 ∷ vs 1 3 ∷ [])))
    (played (ended 2 0 ∷ ended 4 3 ∷ []) (0 ∷ 0 ∷ 0 ∷ 0 ∷ [])) b_draws_first ≡ 1 ∷ 2 ∷ 4 ∷ 3 ∷ []
overall_difference_before_goals = refl

-- the other sums come after the head-to-head: A beat B 1:0 and lost 0:1 at C, B won 1:0 at D; B has
-- the away goal, and A won their match
own_match_before_away_goals : places (overall_first (for_b (vs 0 1 ∷ vs 2 0 ∷ vs 3 1 ∷ [])))
    (played (ended 1 0 ∷ ended 1 0 ∷ ended 0 1 ∷ []) (0 ∷ 0 ∷ 0 ∷ 0 ∷ [])) b_draws_first
    ≡ 2 ∷ 3 ∷ 1 ∷ 4 ∷ []
own_match_before_away_goals = refl

-- the group is of one number of points: B and C drew 0:0, and a point is taken off B; C has the
-- same two sums on other points, so its match with B does not count between A and B
other_points_stay_out : places (overall_first (sheet_of (1 ∷ 2 ∷ 3 ∷ []) (vs 1 2 ∷ [])))
    (played (ended 0 0 ∷ []) (0 ∷ 1 ∷ 0 ∷ [])) (1 ∷ 0 ∷ 2 ∷ []) ≡ 2 ∷ 3 ∷ 1 ∷ []
other_points_stay_out = refl

-- and of one number of goals: B drew 1:1 with A and 0:0 with C, and a point is taken off B; C has
-- the difference of both but fewer goals, so B's match with it does not count
fewer_goals_stay_out : places (overall_first (sheet_of (2 ∷ 1 ∷ 3 ∷ []) (vs 1 0 ∷ vs 1 2 ∷ [])))
    (played (ended 1 1 ∷ ended 0 0 ∷ []) (0 ∷ 1 ∷ 0 ∷ [])) (1 ∷ 0 ∷ 2 ∷ []) ≡ 1 ∷ 2 ∷ 3 ∷ []
fewer_goals_stay_out = refl
