-- Sides of a line, lots, ends of a season and events by hand, computed when the crate is checked.
-- Clubs are named by letters in the comments, and count from 0 below.
use Rattle.std.specs.Prelude.{◌≡◌, ℤ, pos, negsuc, Bool, true, false, [], ◌∷◌, Option}
use Rattle.std.specs.Prelude.{None, map, refl}
use Rattle.league_core.specs.declared.season.Score.{Score}
use Rattle.league_core.specs.declared.season.Event.TheVariants.{Set, Clear, Deduct}
use Rattle.league_core.specs.declared.question.Claim.TheVariants.{Inside, Outside}
use Rattle.league_core.specs.game.Seasons.{season_after, unplayed_season}
use Rattle.league_core.specs.game.Finishes.{may_end, may_all_end}
use Rattle.league_core.specs.game.Ranking.{are_lots}
use Rattle.league_core.specs.game.Questions.{holds_at, full_question}
use Rattle.league_core.specs.rows.WorkedRows.{ended, played, pair, four}

-- ---- sides of a line, and lots

-- a drawing of lots takes A inside the first place, and the other leaves it outside
inside_by_lots : holds_at (pair (1 ∷ 1 ∷ [])) (full_question 0 1 Inside)
    (played (ended 0 0 ∷ []) (0 ∷ 0 ∷ [])) (0 ∷ 1 ∷ []) ≡ true
inside_by_lots = refl

outside_by_lots : holds_at (pair (1 ∷ 1 ∷ [])) (full_question 0 1 Outside)
    (played (ended 0 0 ∷ []) (0 ∷ 0 ∷ [])) (1 ∷ 0 ∷ []) ≡ true
outside_by_lots = refl

not_both_by_lots : holds_at (pair (1 ∷ 1 ∷ [])) (full_question 0 1 Outside)
    (played (ended 0 0 ∷ []) (0 ∷ 0 ∷ [])) (0 ∷ 1 ∷ []) ≡ false
not_both_by_lots = refl

-- the ends of the window belong to it: A has one point
abbrev in_window : ℤ → ℤ → Bool
in_window low high =
    holds_at (pair (1 ∷ 2 ∷ []))
    (record { club = 0; line = 1; claim = Inside; low = low; high = high })
    (played (ended 0 0 ∷ []) (0 ∷ 0 ∷ [])) (0 ∷ 1 ∷ [])

windows : in_window (pos 1) (pos 1) ∷ in_window (pos 2) (pos 9) ∷ in_window (negsuc 0) (pos 0) ∷ []
    ≡ true ∷ false ∷ false ∷ []
windows = refl

-- lots name each club once
each_once : map (are_lots 3)
    ((2 ∷ 0 ∷ 1 ∷ []) ∷ (0 ∷ 1 ∷ 1 ∷ []) ∷ (0 ∷ 1 ∷ []) ∷ (0 ∷ 1 ∷ 3 ∷ []) ∷ (0 ∷ 1 ∷ 2 ∷ 2 ∷ []) ∷
    []) ≡ true ∷ false ∷ false ∷ false ∷ false ∷ []
each_once = refl

-- ---- how a fixture may end, at goal limit 5

-- a played match keeps its score, even one past the limit; an open one ends with at most the limit
endings : map (λ (p : Option Score × Option Score). may_end 5 p.0 p.1)
    ((ended 12 0, ended 12 0) ∷ (ended 12 0, ended 0 0) ∷ (None, ended 5 5) ∷ (None, ended 6 0) ∷
    (None, None) ∷ []) ≡ true ∷ false ∷ true ∷ false ∷ false ∷ []
endings = refl

-- a finish has as many fixtures as its season
as_many : may_all_end 5 (None ∷ []) [] ∷ may_all_end 5 [] (ended 0 0 ∷ []) ∷ may_all_end 5
    (None ∷ []) (ended 0 0 ∷ []) ∷ [] ≡ false ∷ false ∷ true ∷ []
as_many = refl

-- ---- events: a result, its correction, and its annulment, which is no 0:0

corrected : (season_after four
    (Set 0 (record { home = 1; away = 0 }) ∷ Set 0 (record { home = 2; away = 2 }) ∷ [])).scores
    ≡ ended 2 2 ∷ None ∷ None ∷ None ∷ None ∷ None ∷ []
corrected = refl

annulled : season_after four (Set 0 (record { home = 1; away = 0 }) ∷ Clear 0 ∷ [])
    ≡ unplayed_season 4 6
annulled = refl

-- a later deduction of a club takes the place of an earlier one, and 0 takes it away
deducted : (season_after four (Deduct 1 3 ∷ Deduct 2 4 ∷ Deduct 1 2 ∷ Deduct 2 0 ∷ [])).deductions
    ≡ 0 ∷ 2 ∷ 0 ∷ 0 ∷ []
deducted = refl
