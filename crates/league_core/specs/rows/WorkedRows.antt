-- Leagues worked by hand: what the definitions say of them is computed when the crate is checked. A
-- reading that takes the head-to-head but once, or breaks the last tie by the order of the sheet,
-- fails here. Clubs are named by letters in the comments, and count from 0 below.
use Rattle.std.specs.Prelude.{◌≡◌, ℕ, pos, negsuc, List, [], ◌∷◌, Option}
use Rattle.std.specs.Prelude.{Some, None, map, refl}
use Rattle.league_core.specs.declared.sheet.Sheet.{Sheet}
use Rattle.league_core.specs.declared.sheet.Order.TheVariants.{HeadFirst, OverallFirst}
use Rattle.league_core.specs.declared.sheet.Fixture.{Fixture}
use Rattle.league_core.specs.declared.season.Score.{Score}
use Rattle.league_core.specs.game.Results.{Results}
use Rattle.league_core.specs.game.Sheets.{clubs_of}
use Rattle.league_core.specs.game.Sums.{points_of, sum_of, goal_difference}
use Rattle.league_core.specs.game.HeadToHead.{head_to_head_of}
use Rattle.league_core.specs.game.Ranking.{place_of}

-- a sheet of clubs with these ranks, and of these fixtures
abbrev pub sheet_of : List ℕ → List Fixture → Sheet
sheet_of ranks fixtures = record {
  name = [];
  clubs = map (λ rank. record { name = []; rank = rank }) ranks;
  fixtures = fixtures;
  lines = 1 ∷ [];
  goal_limit = 5;
  budget = 2000;
  order = HeadFirst;
}

-- the same sheet with difference and goals over all matches before the head-to-head
abbrev pub overall_first : Sheet → Sheet
overall_first sheet = record sheet { order = OverallFirst }

-- home against away
abbrev pub vs : ℕ → ℕ → Fixture
vs home away = record { home = home; away = away }

-- a match that ended so
abbrev pub ended : ℕ → ℕ → Option Score
ended home away = Some (record { home = home; away = away })

-- a season with these scores and deductions
abbrev pub played : List (Option Score) → List ℕ → Results
played scores deductions = record { scores = scores; deductions = deductions }

-- the places of all clubs, in sheet order
abbrev pub places : Sheet → Results → List ℕ → List ℕ
places sheet season lots = map (place_of sheet season lots) (clubs_of sheet)

-- ---- two clubs, one match

abbrev pub pair : List ℕ → Sheet
pair ranks = sheet_of ranks (vs 0 1 ∷ [])

-- 0:0: all is level, and the fixed rank puts A first, against the lots
rank_decides : places (pair (1 ∷ 2 ∷ [])) (played (ended 0 0 ∷ []) (0 ∷ 0 ∷ [])) (1 ∷ 0 ∷ [])
    ≡ 1 ∷ 2 ∷ []
rank_decides = refl

-- 0:0 and one rank for both: the lots decide, either way
lots_decide : places (pair (1 ∷ 1 ∷ [])) (played (ended 0 0 ∷ []) (0 ∷ 0 ∷ [])) (0 ∷ 1 ∷ [])
    ≡ 1 ∷ 2 ∷ []
lots_decide = refl

other_lots_decide : places (pair (1 ∷ 1 ∷ [])) (played (ended 0 0 ∷ []) (0 ∷ 0 ∷ [])) (1 ∷ 0 ∷ [])
    ≡ 2 ∷ 1 ∷ []
other_lots_decide = refl

-- 1:1: the head-to-head knows no away goals, but B's counts over all matches
away_goal_decides : places (pair (1 ∷ 2 ∷ [])) (played (ended 1 1 ∷ []) (0 ∷ 0 ∷ [])) (0 ∷ 1 ∷ [])
    ≡ 2 ∷ 1 ∷ []
away_goal_decides = refl

-- 2:0 with three points taken off A: neither has a point left, and their match puts A ahead
deduction_levels : places (pair (1 ∷ 1 ∷ [])) (played (ended 2 0 ∷ []) (3 ∷ 0 ∷ [])) (1 ∷ 0 ∷ [])
    ≡ 1 ∷ 2 ∷ []
deduction_levels = refl

-- 2:0 with four points taken off A: A has -1, and points come before all else
points_below_nothing : points_of (pair (1 ∷ 1 ∷ [])) (played (ended 2 0 ∷ []) (4 ∷ 0 ∷ [])) 0
    ≡ negsuc 0
points_below_nothing = refl

points_decide : places (pair (1 ∷ 1 ∷ [])) (played (ended 2 0 ∷ []) (4 ∷ 0 ∷ [])) (0 ∷ 1 ∷ [])
    ≡ 2 ∷ 1 ∷ []
points_decide = refl

-- three matches of A and B: 1:0, 1:0 and 0:5; three points are taken off A. Both have 3, and
-- deductions do not count in the head-to-head, so A's six match points there put it ahead
deduction_stays_out : places (sheet_of (2 ∷ 1 ∷ []) (vs 0 1 ∷ vs 0 1 ∷ vs 0 1 ∷ []))
    (played (ended 1 0 ∷ ended 1 0 ∷ ended 0 5 ∷ []) (3 ∷ 0 ∷ [])) (1 ∷ 0 ∷ []) ≡ 1 ∷ 2 ∷ []
deduction_stays_out = refl

-- a match that is not played is no draw
unplayed_adds_nothing : points_of (pair (1 ∷ 2 ∷ [])) (played (None ∷ []) (0 ∷ 0 ∷ [])) 0 ≡ pos 0
unplayed_adds_nothing = refl

-- ---- a ring of three: A beat B, B beat C, C beat A, each 1:0; the fixed ranks are 2, 1, 3

abbrev ring : Sheet
ring = sheet_of (2 ∷ 1 ∷ 3 ∷ []) (vs 0 1 ∷ vs 1 2 ∷ vs 2 0 ∷ [])

abbrev ring_season : Results
ring_season = played (ended 1 0 ∷ ended 1 0 ∷ ended 1 0 ∷ []) (0 ∷ 0 ∷ 0 ∷ [])

ring_record : head_to_head_of ring ring_season (0 ∷ 1 ∷ 2 ∷ []) 0 ≡ pos 3 ∷ pos 0 ∷ pos 1 ∷ []
ring_record = refl

ring_places : places ring ring_season (2 ∷ 0 ∷ 1 ∷ []) ≡ 2 ∷ 1 ∷ 3 ∷ []
ring_places = refl

-- ---- four clubs: three with six points, of which C scored most among the three; A and B are level
-- there, so their own match counts, which A won, although B's overall difference is 5 and A's 1

abbrev pub four : Sheet
four = sheet_of (1 ∷ 2 ∷ 3 ∷ 4 ∷ []) (vs 0 1 ∷ vs 1 2 ∷ vs 2 0 ∷ vs 0 3 ∷ vs 1 3 ∷ vs 2 3 ∷ [])

abbrev pub four_season : Results
four_season =
    played (ended 1 0 ∷ ended 2 1 ∷ ended 2 1 ∷ ended 1 0 ∷ ended 5 0 ∷ ended 1 0 ∷ [])
    (0 ∷ 0 ∷ 0 ∷ 0 ∷ [])

four_records : map (head_to_head_of four four_season (0 ∷ 1 ∷ 2 ∷ [])) (0 ∷ 1 ∷ 2 ∷ []) ≡
    (pos 3 ∷ pos 0 ∷ pos 2 ∷ []) ∷ (pos 3 ∷ pos 0 ∷ pos 2 ∷ []) ∷ (pos 3 ∷ pos 0 ∷ pos 3 ∷ []) ∷ []
four_records = refl

four_overall : map (sum_of goal_difference four four_season) (0 ∷ 1 ∷ 2 ∷ 3 ∷ [])
    ≡ pos 1 ∷ pos 5 ∷ pos 1 ∷ negsuc 6 ∷ []
four_overall = refl

-- the group taken again splits the pair; going straight to overall difference would put B second
group_taken_again : places four four_season (3 ∷ 2 ∷ 1 ∷ 0 ∷ []) ≡ 2 ∷ 3 ∷ 1 ∷ 4 ∷ []
group_taken_again = refl

-- the difference over all matches first puts B first; C and A share it, and C scored more
overall_difference_first : places (overall_first four) four_season (3 ∷ 2 ∷ 1 ∷ 0 ∷ [])
    ≡ 3 ∷ 1 ∷ 2 ∷ 4 ∷ []
overall_difference_first = refl

-- A beat B, C beat A, B beat D, each 1:0: three clubs have 3 points, C has the greatest difference,
-- and A and B are level over all matches, so their own match counts
abbrev three_wins : Sheet
three_wins = overall_first (sheet_of (2 ∷ 1 ∷ 3 ∷ 4 ∷ []) (vs 0 1 ∷ vs 2 0 ∷ vs 1 3 ∷ []))

own_match_after_overall : places three_wins
    (played (ended 1 0 ∷ ended 1 0 ∷ ended 1 0 ∷ []) (0 ∷ 0 ∷ 0 ∷ 0 ∷ [])) (1 ∷ 0 ∷ 2 ∷ 3 ∷ [])
    ≡ 2 ∷ 3 ∷ 1 ∷ 4 ∷ []
own_match_after_overall = refl

-- A beat B 1:0 and lost 0:1 to C, B beat C 2:0, and with A's 2:1 and B's 1:1 against D both have
-- difference 1 from 3 goals; three points are taken off A and one off B, so that all three have 3
abbrev pub three_level : Sheet
three_level = sheet_of (2 ∷ 1 ∷ 3 ∷ 4 ∷ []) (vs 0 1 ∷ vs 2 0 ∷ vs 1 2 ∷ vs 0 3 ∷ vs 1 3 ∷ [])

abbrev pub three_level_season : Results
three_level_season =
    played (ended 1 0 ∷ ended 1 0 ∷ ended 2 0 ∷ ended 2 1 ∷ ended 1 1 ∷ []) (3 ∷ 1 ∷ 0 ∷ 0 ∷ [])

-- the head-to-head of all three puts B first; that of the two with one difference puts A first
head_to_head_of_three : places three_level three_level_season (0 ∷ 1 ∷ 2 ∷ 3 ∷ [])
    ≡ 2 ∷ 1 ∷ 3 ∷ 4 ∷ []
head_to_head_of_three = refl

head_to_head_of_two : places (overall_first three_level) three_level_season (1 ∷ 0 ∷ 2 ∷ 3 ∷ [])
    ≡ 1 ∷ 2 ∷ 3 ∷ 4 ∷ []
head_to_head_of_two = refl

-- ---- five clubs, four of them with four points: the head-to-head leaves A, B and D level, then A
-- and B, whose own match B won 2:1; overall sums, ranks and lots are for A

abbrev thrice : Sheet
thrice = sheet_of (1 ∷ 2 ∷ 3 ∷ 4 ∷ 5 ∷ [])
    (vs 0 1 ∷ vs 0 2 ∷ vs 0 3 ∷ vs 1 2 ∷ vs 1 3 ∷ vs 2 3 ∷ vs 0 4 ∷ vs 1 4 ∷ vs 2 4 ∷ vs 3 4 ∷ [])

abbrev thrice_season : Results
thrice_season =
    played (ended 1 2 ∷ ended 0 0 ∷ ended 1 0 ∷ ended 0 0 ∷ ended 0 1 ∷ ended 1 1 ∷ ended 1 2 ∷
    ended 0 1 ∷ ended 1 1 ∷ ended 0 2 ∷ []) (0 ∷ 0 ∷ 0 ∷ 0 ∷ 0 ∷ [])

thrice_points : map (points_of thrice thrice_season) (clubs_of thrice)
    ≡ pos 4 ∷ pos 4 ∷ pos 4 ∷ pos 4 ∷ pos 10 ∷ []
thrice_points = refl

taken_a_third_time : places thrice thrice_season (0 ∷ 1 ∷ 2 ∷ 3 ∷ 4 ∷ []) ≡ 3 ∷ 2 ∷ 5 ∷ 4 ∷ 1 ∷ []
taken_a_third_time = refl

-- ---- C drew with X and Y 0:0 and beat Z 1:0, X and Y beat Z 3:0, and X and Y drew: all three have
-- 5

abbrev last_day : Sheet
last_day = sheet_of (1 ∷ 2 ∷ 3 ∷ 4 ∷ []) (vs 0 1 ∷ vs 0 2 ∷ vs 1 3 ∷ vs 2 3 ∷ vs 0 3 ∷ vs 1 2 ∷ [])

abbrev last_day_season : ℕ → Results
last_day_season goals =
    played (ended 0 0 ∷ ended 0 0 ∷ ended 3 0 ∷ ended 3 0 ∷ ended 1 0 ∷ ended goals goals ∷ [])
    (0 ∷ 0 ∷ 0 ∷ 0 ∷ [])

-- after 0:0 overall difference, 1 against 3, puts C behind; X is before Y by rank
overall_difference_decides : places last_day (last_day_season 0) (0 ∷ 1 ∷ 2 ∷ 3 ∷ [])
    ≡ 3 ∷ 1 ∷ 2 ∷ 4 ∷ []
overall_difference_decides = refl

-- after 1:1 goals in the group put C after; Y is before X by its away goal
group_goals_decide : places last_day (last_day_season 1) (0 ∷ 1 ∷ 2 ∷ 3 ∷ []) ≡ 3 ∷ 2 ∷ 1 ∷ 4 ∷ []
group_goals_decide = refl
