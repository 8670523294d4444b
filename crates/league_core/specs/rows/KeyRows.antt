-- Keys worked by hand, computed when the crate is checked. Clubs are named by letters in the
-- comments, and count from 0 within their group below, as fixtures do.
use Rattle.std.specs.Prelude.{◌≡◌, ℕ, pos, negsuc, Bool, true, false, List, [], ◌∷◌, Option}
use Rattle.std.specs.Prelude.{None, map, refl}
use Rattle.league_core.specs.declared.sheet.Sheet.{Sheet}
use Rattle.league_core.specs.declared.season.Score.{Score}
use Rattle.league_core.specs.declared.zone.Test.TheVariants.{Home, Draw, HomeMost}
use Rattle.league_core.specs.game.Results.{Results}
use Rattle.league_core.specs.rows.WorkedRows.{sheet_of, vs, ended, played, four, four_season}
use Rattle.league_core.specs.rows.ZoneRows.{yes, no}
use Rattle.league_core.specs.search.Keys.{key_of, is_key_from, low_key, high_key}

-- ---- two groups of three with up to three goals a side: A, B and C with the ranks 1 to 3, and D,
-- E and F with the ranks 4 to 6; in each the first club meets the second, then the third, and then
-- these two meet

abbrev group : List ℕ → Sheet
group ranks = record (sheet_of ranks (vs 0 1 ∷ vs 0 2 ∷ vs 1 2 ∷ [])) { goal_limit = 3 }

abbrev group_one : Sheet
group_one = group (1 ∷ 2 ∷ 3 ∷ [])

abbrev group_two : Sheet
group_two = group (4 ∷ 5 ∷ 6 ∷ [])

abbrev scores : List (Option Score) → Results
scores list = played list (0 ∷ 0 ∷ 0 ∷ [])

-- A beat B and C 1:0, B beat C 2:0
abbrev one_played : Results
one_played = scores (ended 1 0 ∷ ended 1 0 ∷ ended 2 0 ∷ [])

-- D beat E and F 1:0; E and F ended so, or have not met yet
abbrev two_so : Option Score → Results
two_so last = scores (ended 1 0 ∷ ended 1 0 ∷ last ∷ [])

-- B and E have 3 points each, with the differences 1 and 0
keys_of_seconds : key_of group_one one_played 1 ∷ key_of group_two (two_so (ended 1 0)) 1 ∷ [] ≡
    (pos 3 ∷ pos 1 ∷ pos 2 ∷ pos 0 ∷ pos 1 ∷ pos 0 ∷ pos 998 ∷ []) ∷
    (pos 3 ∷ pos 0 ∷ pos 1 ∷ pos 0 ∷ pos 1 ∷ pos 0 ∷ pos 995 ∷ []) ∷ []
keys_of_seconds = refl

-- so B's is the greater; E's is after a 3:0, and F's after a 0:3, but neither after a draw
abbrev at_least_b : Results → ℕ → Bool
at_least_b finish club = is_key_from (key_of group_one one_played 1) (key_of group_two finish club)

seconds_compared : at_least_b (two_so (ended 1 0)) 1 ∷ at_least_b (two_so (ended 3 0)) 1 ∷
    at_least_b (two_so (ended 0 3)) 2 ∷ at_least_b (two_so (ended 1 1)) 1 ∷
    is_key_from (key_of group_one one_played 1) (key_of group_one one_played 1) ∷ []
    ≡ false ∷ true ∷ true ∷ false ∷ true ∷ []
seconds_compared = refl

-- before E and F meet E can end with 0 to 3 points and with a difference of -4 to 2; its away match
-- is over
low_before : low_key group_two (two_so None) [] 1
    ≡ pos 0 ∷ negsuc 3 ∷ pos 0 ∷ pos 0 ∷ pos 0 ∷ pos 0 ∷ pos 995 ∷ []
unfolding low_key
low_before = refl

high_before : high_key group_two (two_so None) [] 1
    ≡ pos 3 ∷ pos 2 ∷ pos 3 ∷ pos 0 ∷ pos 1 ∷ pos 0 ∷ pos 995 ∷ []
unfolding high_key
high_before = refl

-- F is the away side: its goals there count in two parts, and so does its win
high_away : high_key group_two (two_so None) [] 2
    ≡ pos 3 ∷ pos 2 ∷ pos 3 ∷ pos 3 ∷ pos 1 ∷ pos 1 ∷ pos 994 ∷ []
unfolding high_key
high_away = refl

-- if E wins, its difference is at least 0; after a draw it is -1, and after a defeat at least -4
low_keys_in_zones : map (λ zone. low_key group_two (two_so None) zone 1)
    ((yes (Home 2) ∷ []) ∷ (yes (Draw 2) ∷ []) ∷ (no (Home 2) ∷ no (Draw 2) ∷ []) ∷ []) ≡
    (pos 3 ∷ pos 0 ∷ pos 1 ∷ pos 0 ∷ pos 1 ∷ pos 0 ∷ pos 995 ∷ []) ∷
    (pos 1 ∷ negsuc 0 ∷ pos 0 ∷ pos 0 ∷ pos 0 ∷ pos 0 ∷ pos 995 ∷ []) ∷
    (pos 0 ∷ negsuc 3 ∷ pos 0 ∷ pos 0 ∷ pos 0 ∷ pos 0 ∷ pos 995 ∷ []) ∷ []
unfolding low_key
low_keys_in_zones = refl

-- if E wins, its difference is at most 2, and 0 if it scores at most one goal: then it wins 1:0
high_keys_in_zones : map (λ zone. high_key group_two (two_so None) zone 1)
    ((yes (Home 2) ∷ []) ∷ (yes (Draw 2) ∷ []) ∷ (yes (Home 2) ∷ yes (HomeMost 2 1) ∷ []) ∷ []) ≡
    (pos 3 ∷ pos 2 ∷ pos 3 ∷ pos 0 ∷ pos 1 ∷ pos 0 ∷ pos 995 ∷ []) ∷
    (pos 1 ∷ negsuc 0 ∷ pos 3 ∷ pos 0 ∷ pos 0 ∷ pos 0 ∷ pos 995 ∷ []) ∷
    (pos 3 ∷ pos 0 ∷ pos 1 ∷ pos 0 ∷ pos 1 ∷ pos 0 ∷ pos 995 ∷ []) ∷ []
unfolding high_key
high_keys_in_zones = refl

-- ---- what is taken off counts in the points alone, of the key and of both its ends

deducted_keys : key_of group_two (record (two_so (ended 1 0)) { deductions = 0 ∷ 4 ∷ 0 ∷ [] }) 1 ∷
    low_key group_two (record (two_so None) { deductions = 0 ∷ 4 ∷ 0 ∷ [] }) (yes (Draw 2) ∷ []) 1 ∷
    high_key group_two (record (two_so None) { deductions = 0 ∷ 4 ∷ 0 ∷ [] }) [] 1 ∷ [] ≡
    (negsuc 0 ∷ pos 0 ∷ pos 1 ∷ pos 0 ∷ pos 1 ∷ pos 0 ∷ pos 995 ∷ []) ∷
    (negsuc 2 ∷ negsuc 0 ∷ pos 0 ∷ pos 0 ∷ pos 0 ∷ pos 0 ∷ pos 995 ∷ []) ∷
    (negsuc 0 ∷ pos 2 ∷ pos 3 ∷ pos 0 ∷ pos 1 ∷ pos 0 ∷ pos 995 ∷ []) ∷ []
unfolding low_key high_key
deducted_keys = refl

-- ---- if all sums are equal, the lower fixed rank has the greater key

ranks_decide : map (λ club. is_key_from (key_of (group (2 ∷ 1 ∷ 3 ∷ []))
    (scores (ended 0 0 ∷ ended 0 0 ∷ ended 0 0 ∷ [])) 0)
    (key_of (group (2 ∷ 1 ∷ 3 ∷ [])) (scores (ended 0 0 ∷ ended 0 0 ∷ ended 0 0 ∷ [])) club))
    (0 ∷ 1 ∷ 2 ∷ []) ≡ true ∷ true ∷ false ∷ []
ranks_decide = refl

-- ---- B's key is the greatest of the three with six points, although the head-to-head puts it last
-- of them

four_keys : map (key_of four four_season) (0 ∷ 1 ∷ 2 ∷ []) ≡
    (pos 6 ∷ pos 1 ∷ pos 3 ∷ pos 1 ∷ pos 2 ∷ pos 0 ∷ pos 999 ∷ []) ∷
    (pos 6 ∷ pos 5 ∷ pos 7 ∷ pos 0 ∷ pos 2 ∷ pos 0 ∷ pos 998 ∷ []) ∷
    (pos 6 ∷ pos 1 ∷ pos 4 ∷ pos 1 ∷ pos 2 ∷ pos 0 ∷ pos 997 ∷ []) ∷ []
four_keys = refl
