-- Zones in which the criteria are looked at, by hand, for either order of them; computed when the
-- crate is checked. Clubs are named by letters in the comments, and count from 0 below, as fixtures
-- do.
use Rattle.std.specs.Prelude.{◌≡◌, ℕ, pos, true, false, List, [], ◌∷◌, None, map}
use Rattle.std.specs.Prelude.{refl}
use Rattle.league_core.specs.declared.sheet.Sheet.{Sheet}
use Rattle.league_core.specs.declared.question.Question.{Question}
use Rattle.league_core.specs.declared.question.Claim.TheVariants.{Inside, Outside}
use Rattle.league_core.specs.declared.sure.Sure.TheVariants.{Above, Below, Level, Unknown}
use Rattle.league_core.specs.declared.zone.Test.TheVariants.{Home, Draw, HomeMost, Rival}
use Rattle.league_core.specs.declared.zone.Literal.{Literal}
use Rattle.league_core.specs.declared.zone.Reason.TheVariants.{Low, Tie}
use Rattle.league_core.specs.game.Results.{Results}
use Rattle.league_core.specs.game.ClubSets.{clubs_below}
use Rattle.league_core.specs.game.Questions.{full_question}
use Rattle.league_core.specs.search.Options.{has_finish}
use Rattle.league_core.specs.search.PointRanges.{least_points_of, most_points_of, own_most}
use Rattle.league_core.specs.search.SureOrder.{sure_order}
use Rattle.league_core.specs.search.Reasons.{has_reason}
use Rattle.league_core.specs.rows.WorkedRows.{sheet_of, overall_first, pair, four, four_season}
use Rattle.league_core.specs.rows.WorkedRows.{three_level, three_level_season}
use Rattle.league_core.specs.rows.ZoneRows.{league, vs, ended, played, yes, no, clubs}
use Rattle.league_core.specs.rows.ZoneRows.{nine_question}

-- ---- C drew with X and Y 0:0, who beat Z 3:0; C plays Z and X plays Y

abbrev ten : Sheet
ten = league 1 4 (vs 0 1 ∷ vs 0 2 ∷ vs 1 3 ∷ vs 2 3 ∷ vs 0 3 ∷ vs 1 2 ∷ [])

abbrev ten_season : Results
ten_season = played 4 (ended 0 0 ∷ ended 0 0 ∷ ended 3 0 ∷ ended 3 0 ∷ None ∷ None ∷ [])

abbrev ten_zone : List Literal
ten_zone = no (Rival 1) ∷ no (Rival 2) ∷ []

-- X and Y together have at least 10 points, which is what twice C's most points allow
ten_sums : least_points_of ten ten_season ten_zone
    (1 ∷ 2 ∷ []) ∷ own_most ten ten_season nine_question ten_zone ∷ [] ≡ pos 10 ∷ pos 5 ∷ []
unfolding least_points_of most_points_of
ten_sums = refl

no_cut_at_equality : map (has_reason ten ten_season nine_question ten_zone)
    (Low (clubs 6) ∷ Tie ∷ []) ≡ false ∷ false ∷ []
unfolding has_reason has_finish least_points_of most_points_of clubs_below sure_order
no_cut_at_equality = refl

-- C wins, and X and Y draw 0:0, or 1:1, or either
abbrev ten_draw : List Literal → List Literal
ten_draw goals = no (Rival 1) ∷ no (Rival 2) ∷ yes (Home 4) ∷ yes (Draw 5) ∷ goals

-- at 0:0 overall difference puts X before C, at 1:1 its goals in the group; at either it is not
-- said
ten_sure : map (λ zone. sure_order ten ten_season zone 1 0)
    (ten_draw (yes (HomeMost 5 0) ∷ []) ∷ ten_draw (no (HomeMost 5 0) ∷ []) ∷ ten_draw [] ∷ [])
    ≡ Above ∷ Above ∷ Unknown ∷ []
unfolding sure_order
ten_sure = refl

-- with the overall sums first X is before C by difference, 3 against 1, whatever the goals of its
-- draw
ten_sure_overall : map (λ zone. sure_order (overall_first ten) ten_season zone 1 0)
    (ten_draw (yes (HomeMost 5 0) ∷ []) ∷ ten_draw (no (HomeMost 5 0) ∷ []) ∷ ten_draw [] ∷ [])
    ≡ Above ∷ Above ∷ Above ∷ []
unfolding sure_order
ten_sure_overall = refl

ten_tie : map (λ zone. has_reason ten ten_season nine_question zone Tie)
    (ten_draw (yes (HomeMost 5 0) ∷ []) ∷ ten_draw (no (HomeMost 5 0) ∷ []) ∷ ten_draw [] ∷ [])
    ≡ true ∷ true ∷ false ∷ []
unfolding has_reason has_finish sure_order
ten_tie = refl

-- a club below on points is surely behind, and the other way round
ten_points : sure_order ten ten_season (ten_draw []) 3 0 ∷ sure_order ten ten_season
    (ten_draw []) 0 3 ∷ [] ≡ Below ∷ Above ∷ []
unfolding sure_order
ten_points = refl

-- the parts of the tie-break reason one by one: two rivals above C fill the only place; one rival
-- marked behind C that is above it; one marked before C that is below it; and for the other side,
-- with one club to stay behind C, the club that is below it
ten_tie_parts : has_reason ten ten_season nine_question
    (yes (Home 4) ∷ yes (Draw 5) ∷ yes (HomeMost 5 0) ∷ []) Tie ∷ has_reason ten ten_season
    (full_question 0 3 Inside)
    (no (Rival 1) ∷ yes (Home 4) ∷ yes (Draw 5) ∷ yes (HomeMost 5 0) ∷ []) Tie ∷ has_reason ten
    ten_season (full_question 0 2 Outside)
    (yes (Rival 3) ∷ yes (Home 4) ∷ yes (Draw 5) ∷ yes (HomeMost 5 0) ∷ []) Tie ∷ has_reason ten
    ten_season (full_question 0 3 Outside)
    (yes (Home 4) ∷ yes (Draw 5) ∷ yes (HomeMost 5 0) ∷ []) Tie ∷ has_reason ten ten_season
    (full_question 0 3 Inside) (yes (Home 4) ∷ yes (Draw 5) ∷ yes (HomeMost 5 0) ∷ []) Tie ∷ []
    ≡ true ∷ true ∷ true ∷ true ∷ false ∷ []
unfolding has_reason has_finish sure_order
ten_tie_parts = refl

-- ---- A and B drew 0:0, C and D are to draw: whether C shares A's record in their group of four is
-- open until its goals are, and then B is behind A by rank, or level with it if their ranks are one

abbrev open_third : List ℕ → Sheet
open_third ranks = record (league 1 4 (vs 0 1 ∷ vs 2 3 ∷ []))
    { clubs = map (λ rank. record { name = []; rank = rank }) ranks }

abbrev open_third_season : Results
open_third_season = played 4 (ended 0 0 ∷ None ∷ [])

third_club_unsure : map
    (λ zone. sure_order (open_third (1 ∷ 2 ∷ 3 ∷ 4 ∷ [])) open_third_season zone 1 0)
    ((yes (Draw 1) ∷ []) ∷ (yes (Draw 1) ∷ yes (HomeMost 1 0) ∷ []) ∷
    (yes (Draw 1) ∷ no (HomeMost 1 0) ∷ []) ∷ []) ≡ Unknown ∷ Below ∷ Below ∷ []
unfolding sure_order
third_club_unsure = refl

level_by_rank : sure_order (open_third (1 ∷ 1 ∷ 3 ∷ 4 ∷ [])) open_third_season
    (yes (Draw 1) ∷ yes (HomeMost 1 0) ∷ []) 1 0 ≡ Level
unfolding sure_order
level_by_rank = refl

-- the same by the overall sums first: whether C shares A's two sums over all matches is open until
-- its goals are
abbrev open_third_overall : List ℕ → Sheet
open_third_overall ranks = overall_first (open_third ranks)

third_club_unsure_overall : map
    (λ zone. sure_order (open_third_overall (1 ∷ 2 ∷ 3 ∷ 4 ∷ [])) open_third_season zone 1 0)
    ((yes (Draw 1) ∷ []) ∷ (yes (Draw 1) ∷ yes (HomeMost 1 0) ∷ []) ∷
    (yes (Draw 1) ∷ no (HomeMost 1 0) ∷ []) ∷ []) ≡ Unknown ∷ Below ∷ Below ∷ []
unfolding sure_order
third_club_unsure_overall = refl

level_by_rank_overall : sure_order (open_third_overall (1 ∷ 1 ∷ 3 ∷ 4 ∷ [])) open_third_season
    (yes (Draw 1) ∷ yes (HomeMost 1 0) ∷ []) 1 0 ≡ Level
unfolding sure_order
level_by_rank_overall = refl

-- ---- three clubs on 3 points, all played: the head-to-head of the three puts B before A; by the
-- overall sums first C is out of it, and that of the two puts A before B

three_level_sure : map (λ sheet. sure_order sheet three_level_season [] 0 1)
    (three_level ∷ overall_first three_level ∷ []) ≡ Below ∷ Above ∷ []
unfolding sure_order
three_level_sure = refl

-- ---- A and B of one rank drew 0:0

abbrev level_pair : Sheet
level_pair = pair (1 ∷ 1 ∷ [])

abbrev level_season : Results
level_season = played 2 (ended 0 0 ∷ [])

-- neither is above the other, so that without a mark nothing is said; a mark before fills the only
-- place, a mark after leaves none outside, and neither is wrong
level_is_no_reason : map (λ (asked : Question × List Literal).
    has_reason level_pair level_season asked.0 asked.1 Tie)
    ((full_question 0 1 Inside, []) ∷ (full_question 0 1 Inside, yes (Rival 1) ∷ []) ∷
    (full_question 0 1 Inside, no (Rival 1) ∷ []) ∷ (full_question 0 1 Outside, []) ∷
    (full_question 0 1 Outside, yes (Rival 1) ∷ []) ∷
    (full_question 0 1 Outside, no (Rival 1) ∷ []) ∷ [])
    ≡ false ∷ true ∷ false ∷ false ∷ false ∷ true ∷ []
unfolding has_reason has_finish sure_order
level_is_no_reason = refl

-- ---- steps of the comparison if all is played, or goals are open

-- the record of A, B and C leaves A and B level, and that of the two puts A first, although B's
-- overall difference is greater
taken_again_is_sure : sure_order four four_season [] 1 0 ≡ Below
unfolding sure_order
taken_again_is_sure = refl

-- A and B won once each, and A won away
away_wins_are_sure : sure_order
    (sheet_of (2 ∷ 1 ∷ 3 ∷ 4 ∷ []) (vs 2 0 ∷ vs 0 2 ∷ vs 1 3 ∷ vs 3 1 ∷ []))
    (record {
      scores = ended 0 1 ∷ ended 1 2 ∷ ended 1 0 ∷ ended 2 1 ∷ [];
      deductions = 0 ∷ 0 ∷ 3 ∷ 3 ∷ [];
    }) [] 1 0 ≡ Below
unfolding sure_order
away_wins_are_sure = refl

-- with the overall sums first: both have difference 1, and A scored more
overall_goals_are_sure : sure_order
    (overall_first (sheet_of (2 ∷ 1 ∷ 3 ∷ []) (vs 1 0 ∷ vs 0 2 ∷ [])))
    (played 3 (ended 1 0 ∷ ended 3 1 ∷ [])) [] 1 0 ≡ Below
unfolding sure_order
overall_goals_are_sure = refl

-- A and B drew 0:0, and each is to draw once more: their goals are open alike, which does not make
-- them level
abbrev open_goals : Sheet
open_goals = league 1 4 (vs 0 1 ∷ vs 0 2 ∷ vs 1 3 ∷ [])

open_goals_are_unknown : map
    (λ zone. sure_order open_goals (played 4 (ended 0 0 ∷ None ∷ None ∷ [])) zone 1 0)
    ((yes (Draw 1) ∷ yes (Draw 2) ∷ []) ∷
    (yes (Draw 1) ∷ yes (Draw 2) ∷ yes (HomeMost 1 0) ∷ yes (HomeMost 2 0) ∷ []) ∷ [])
    ≡ Unknown ∷ Below ∷ []
unfolding sure_order
open_goals_are_unknown = refl
