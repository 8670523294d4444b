-- More reasons worked by hand: ceiling cuts and counts among sixteen clubs, cuts of unmarked
-- rivals, and the ends of a window; computed when the crate is checked. Clubs are named by letters
-- in the comments, and count from 0 below.
use Rattle.std.specs.Prelude.{◌≡◌, pos, true, false, [], ◌∷◌, None, map, refl}
use Rattle.std.specs.List.{range_with_len}
use Rattle.league_core.specs.declared.sheet.Sheet.{Sheet}
use Rattle.league_core.specs.declared.question.Claim.TheVariants.{Inside, Outside}
use Rattle.league_core.specs.declared.question.Question.{Question}
use Rattle.league_core.specs.declared.zone.Test.TheVariants.{Rival}
use Rattle.league_core.specs.declared.zone.Reason.TheVariants.{Count, Window, Low, High}
use Rattle.league_core.specs.game.Results.{Results}
use Rattle.league_core.specs.game.ClubSets.{clubs_below}
use Rattle.league_core.specs.game.Questions.{full_question}
use Rattle.league_core.specs.search.Options.{has_finish}
use Rattle.league_core.specs.search.PointRanges.{least_points_of, most_points_of}
use Rattle.league_core.specs.search.Reasons.{has_reason}
use Rattle.league_core.specs.rows.ZoneRows.{league, vs, ended, played, yes, no, clubs, nine}
use Rattle.league_core.specs.rows.ZoneRows.{nine_season, nine_question}

-- ---- sixteen clubs and goal limit 20: the first beat the second twice, and the last round is open

abbrev thirteen : Sheet
thirteen = league 20 16
    (vs 0 1 ∷ vs 0 1 ∷ vs 0 1 ∷ vs 2 3 ∷ vs 4 5 ∷ vs 6 7 ∷ vs 8 9 ∷ vs 10 11 ∷ vs 12 13 ∷ vs 14
    15 ∷ [])

abbrev thirteen_season : Results
thirteen_season = played 16
    (ended 1 0 ∷ ended 1 0 ∷ None ∷ None ∷ None ∷ None ∷ None ∷ None ∷ None ∷ None ∷ [])

abbrev thirteen_question : Question
thirteen_question = full_question 0 1 Outside

-- a rival before the first club would need 6 points, and none can come to more than 3
thirteen_high : has_reason thirteen thirteen_season thirteen_question (yes (Rival 1) ∷ [])
    (High (clubs 2)) ∷ has_reason thirteen thirteen_season thirteen_question (yes (Rival 15) ∷ [])
    (High (clubs 32768)) ∷ [] ≡ true ∷ true ∷ []
unfolding has_reason has_finish least_points_of most_points_of clubs_below
thirteen_high = refl

-- if the first club won but one of its two matches it has 3 points, and a rival can come to that
thirteen_equality : has_reason thirteen
    (played 16 (ended 1 0 ∷ ended 0 1 ∷ None ∷ None ∷ None ∷ None ∷ None ∷ None ∷ None ∷ None ∷
    [])) thirteen_question (yes (Rival 15) ∷ []) (High (clubs 32768)) ≡ false
unfolding has_reason has_finish least_points_of most_points_of clubs_below
thirteen_equality = refl

-- with all fifteen rivals behind it the first club is first
thirteen_count : map
    (λ rivals. has_reason thirteen thirteen_season thirteen_question
    (map (λ rival. no (Rival rival)) (range_with_len 1 rivals)) Count) (14 ∷ 15 ∷ [])
    ≡ false ∷ true ∷ []
unfolding has_reason has_finish
thirteen_count = refl

-- ---- what is no reason

-- a cut is one of marked rivals alone
cuts_need_marks : has_reason nine nine_season nine_question [] (Low (clubs 6))
    ∷ has_reason thirteen thirteen_season thirteen_question [] (High (clubs 2)) ∷ []
    ≡ false ∷ false ∷ []
unfolding has_reason has_finish least_points_of most_points_of clubs_below
cuts_need_marks = refl

-- the ends of the window are no points out of it: C can have 3, and X cannot have fewer
window_ends : has_reason nine nine_season (record nine_question { low = pos 3 }) [] Window
    ∷ has_reason nine nine_season (record (full_question 1 1 Inside) { high = pos 3 }) [] Window
    ∷ []
    ≡ false ∷ false ∷ []
unfolding has_reason has_finish least_points_of most_points_of
window_ends = refl
