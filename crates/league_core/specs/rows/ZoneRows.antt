-- Zones worked by hand: options, sums, reasons and splits, computed when the crate is
-- checked. Clubs are named by letters in the comments, and count from 0 below, as fixtures do.
use Rattle.std.specs.Prelude.{◌≡◌, ℕ, pos, true, false, List, [], ◌∷◌, Option, Some, None, map}
use Rattle.std.specs.Prelude.{refl}
use Rattle.std.specs.List.{range_with_len}
use Rattle.league_core.specs.declared.sheet.Sheet.{Sheet}
use Rattle.league_core.specs.declared.sheet.Order.TheVariants.{HeadFirst}
use Rattle.league_core.specs.declared.sheet.Fixture.{Fixture}
use Rattle.league_core.specs.declared.season.Score.{Score}
use Rattle.league_core.specs.declared.club_set.ClubSet.{ClubSet}
use Rattle.league_core.specs.declared.question.Claim.TheVariants.{Inside, Outside}
use Rattle.league_core.specs.declared.question.Question.{Question}
use Rattle.league_core.specs.declared.sure.Sure.TheVariants.{Below}
use Rattle.league_core.specs.declared.zone.Test.{Test}
use Rattle.league_core.specs.declared.zone.Test.TheVariants.{Home, HomeMost, AwayMost, Rival}
use Rattle.league_core.specs.declared.zone.Literal.{Literal}
use Rattle.league_core.specs.declared.zone.Reason.TheVariants.{Count, Window, Low, High, Tie}
use Rattle.league_core.specs.game.Results.{Results}
use Rattle.league_core.specs.game.ClubSets.{clubs_below}
use Rattle.league_core.specs.game.Questions.{full_question}
use Rattle.league_core.specs.search.Options.{score_of, options_of, has_finish}
use Rattle.league_core.specs.search.PointRanges.{least_points_of, most_points_of, own_most}
use Rattle.league_core.specs.search.SureOrder.{sure_order}
use Rattle.league_core.specs.search.Reasons.{has_reason}
use Rattle.league_core.specs.search.Splits.{is_proper}

-- a sheet with this goal limit, of so many clubs, the first with rank 1, and of these fixtures
abbrev pub league : ℕ → ℕ → List Fixture → Sheet
league limit clubs fixtures = record {
  name = [];
  clubs = map (λ rank. record { name = []; rank = rank }) (range_with_len 1 clubs);
  fixtures = fixtures;
  lines = 1 ∷ [];
  goal_limit = limit;
  budget = 2000;
  order = HeadFirst;
}

-- home against away
abbrev pub vs : ℕ → ℕ → Fixture
vs home away = record { home = home; away = away }

-- a match that ended so
abbrev pub ended : ℕ → ℕ → Option Score
ended home away = Some (score_of home away)

-- a season with these scores, in which none of so many clubs lost points
abbrev pub played : ℕ → List (Option Score) → Results
played clubs scores =
    record { scores = scores; deductions = map (λ club. 0) (range_with_len 0 clubs) }

abbrev pub yes : Test → Literal
yes test = record { test = test; yes = true }

abbrev pub no : Test → Literal
no test = record { test = test; yes = false }

-- a set of clubs by its bits
abbrev pub clubs : ℕ → ClubSet
clubs bits = record { bits = bits }

-- ---- X and Y have 3 points and still play each other, C has none and one match left

abbrev pub nine : Sheet
nine = league 2 4 (vs 1 3 ∷ vs 2 3 ∷ vs 0 3 ∷ vs 1 2 ∷ [])

abbrev pub nine_season : Results
nine_season = played 4 (ended 1 0 ∷ ended 1 0 ∷ None ∷ None ∷ [])

-- neither X nor Y is before C
abbrev pub nine_zone : List Literal
nine_zone = no (Rival 1) ∷ no (Rival 2) ∷ []

abbrev pub nine_question : Question
nine_question = full_question 0 1 Inside

-- each could stay at 3, and C can come to 3
alone : map (λ club. least_points_of nine nine_season nine_zone (club ∷ [])) (1 ∷ 2 ∷ [])
    ≡ pos 3 ∷ pos 3 ∷ []
unfolding least_points_of
alone = refl

own : own_most nine nine_season nine_question nine_zone ≡ pos 3
unfolding most_points_of
own = refl

-- but not both: their match gives them two points together, or three
together : least_points_of nine nine_season nine_zone (1 ∷ 2 ∷ []) ≡ pos 8
unfolding least_points_of
together = refl

most_together : most_points_of nine nine_season nine_zone (1 ∷ 2 ∷ []) ≡ pos 9
unfolding most_points_of
most_together = refl

-- so the floor cut of both stands, that of one alone does not, nor does another reason named here
nine_reasons : map (has_reason nine nine_season nine_question nine_zone)
    (Low (clubs 6) ∷ Low (clubs 2) ∷ Low (clubs 4) ∷ Low (clubs 0) ∷ High
    (clubs 6) ∷ Count ∷ Window ∷ Tie ∷ [])
    ≡ true ∷ false ∷ false ∷ false ∷ false ∷ false ∷ false ∷ false ∷ []
unfolding has_reason has_finish least_points_of most_points_of clubs_below sure_order
nine_reasons = refl

-- one rival before C fills the only place
nine_count : map (λ zone. has_reason nine nine_season nine_question zone Count)
    ((yes (Rival 1) ∷ []) ∷ (no (Rival 1) ∷ yes (Rival 2) ∷ []) ∷ []) ≡ true ∷ true ∷ []
unfolding has_reason has_finish
nine_count = refl

-- a window of one point or two: C gets none, 1 or 3, so its points are neither all below nor all
-- above
nine_window : map (λ (q : Question). has_reason nine nine_season q [] Window)
    (record nine_question { low = pos 1; high = pos 2 } ∷ record nine_question { low = pos 4 } ∷
    []) ≡ false ∷ true ∷ []
unfolding has_reason has_finish least_points_of most_points_of
nine_window = refl

-- two places: one rival before C leaves one, two leave none
nine_two_places : map (λ zone. has_reason nine nine_season (full_question 0 2 Inside) zone Count)
    ((yes (Rival 1) ∷ []) ∷ (yes (Rival 1) ∷ yes (Rival 2) ∷ []) ∷ []) ≡ false ∷ true ∷ []
unfolding has_reason has_finish
nine_two_places = refl

-- the window bounds what C can have: with one point at most X alone, 3, is too many; with seven at
-- least X, who comes to 6 at most, is too few, and with six it is not
nine_windows_cut : has_reason nine nine_season (record nine_question { high = pos 1 })
    (no (Rival 1) ∷ []) (Low (clubs 2)) ∷ has_reason nine nine_season nine_question
    (no (Rival 1) ∷ []) (Low (clubs 2)) ∷ has_reason nine nine_season
    (record nine_question { low = pos 7 }) (yes (Rival 1) ∷ [])
    (High (clubs 2)) ∷ has_reason nine nine_season (record nine_question { low = pos 6 })
    (yes (Rival 1) ∷ []) (High (clubs 2)) ∷ [] ≡ true ∷ false ∷ true ∷ false ∷ []
unfolding has_reason has_finish least_points_of most_points_of clubs_below
nine_windows_cut = refl

-- X has three points at least, so a window up to two is missed
nine_window_below : has_reason nine nine_season
    (record (full_question 1 1 Inside) { high = pos 2 }) [] Window ≡ true
unfolding has_reason has_finish least_points_of most_points_of
nine_window_below = refl

-- a point taken off X is one less for both
nine_deducted : least_points_of nine
    (record nine_season { deductions = 0 ∷ 1 ∷ 0 ∷ 0 ∷ [] }) nine_zone (1 ∷ 2 ∷ []) ≡ pos 7
unfolding least_points_of
nine_deducted = refl

-- ---- A and B play each other home and away; A won the first match 12:0, past the goal limit of 5

abbrev eleven : Sheet
eleven = league 5 2 (vs 0 1 ∷ vs 1 0 ∷ [])

abbrev eleven_season : Results
eleven_season = played 2 (ended 12 0 ∷ None ∷ [])

-- the result stands as it is, and the open match ends within the limit
eleven_options : options_of 5 (no (HomeMost 0 2) ∷ []) 0 (ended 12 0) ∷ options_of 5
    (yes (HomeMost 0 2) ∷ []) 0 (ended 12 0) ∷ options_of 5
    (no (HomeMost 1 4) ∷ no (AwayMost 1 3) ∷ yes (HomeMost 0 2) ∷ []) 1 None ∷ [] ≡
    (score_of 12 0 ∷ []) ∷ [] ∷ (score_of 5 4 ∷ score_of 5 5 ∷ []) ∷ []
eleven_options = refl

-- so a split by at most two home goals in the first match leaves one half without a finish
eleven_halves : map (has_finish eleven eleven_season)
    ((yes (HomeMost 0 2) ∷ []) ∷ (no (HomeMost 0 2) ∷ []) ∷ []) ≡ false ∷ true ∷ []
unfolding has_finish
eleven_halves = refl

eleven_proper : map (is_proper eleven eleven_season (full_question 0 1 Inside) [])
    (HomeMost 0 2 ∷ HomeMost 1 2 ∷ Rival 0 ∷ Rival 1 ∷ Home 2 ∷ [])
    ≡ false ∷ true ∷ false ∷ true ∷ false ∷ []
unfolding has_finish
eleven_proper = refl

-- no reason holds if no finish is left
no_finish_no_reason : map
    (has_reason eleven eleven_season (full_question 0 1 Outside)
    (yes (HomeMost 0 2) ∷ no (Rival 1) ∷ [])) (Count ∷ Low (clubs 2) ∷ Tie ∷ [])
    ≡ false ∷ false ∷ false ∷ []
unfolding has_reason has_finish least_points_of most_points_of clubs_below sure_order
no_finish_no_reason = refl

-- not even that of a window that no points reach
no_finish_no_window : map
    (λ zone. has_reason eleven eleven_season
    (record (full_question 0 1 Outside) { low = pos 1800 }) zone Window)
    ((yes (HomeMost 0 2) ∷ []) ∷ [] ∷ []) ≡ false ∷ true ∷ []
unfolding has_reason has_finish least_points_of most_points_of
no_finish_no_window = refl

-- even a home win of B leaves A before it: both have won once, and A by the wider margin
eleven_sure : sure_order eleven eleven_season (yes (Home 1) ∷ []) 1 0 ≡ Below
unfolding sure_order
eleven_sure = refl
