-- The finishes of a season as a walk meets them: how many they are, which of them comes at which
-- number, and the step from one to the next.
use Rattle.std.specs.Prelude.{◌≡◌, ◌≤◌, ◌+◌, ℕ, Bool, true, false, if◌then◌else◌, take}
use Rattle.std.specs.Prelude.{slice_index_or, slice_set, Some, None, is_some}
use Rattle.league_core.specs.declared.sheet.Sheet.{Sheet}
use Rattle.league_core.specs.declared.season.Score.{Score}
use Rattle.league_core.specs.game.Limits.{most_finishes}
use Rattle.league_core.specs.game.Results.{Results}
use Rattle.league_core.specs.game.Finishes.{IsFinishOf}
use Rattle.league_core.specs.inside.FinishList.{ways_to_finish, number_of}

-- how many finishes a season has
abbrev pub count_of_finishes : Sheet → Results → ℕ
count_of_finishes sheet season = ways_to_finish sheet.goal_limit season.scores

-- they are few enough to be walked
abbrev pub HasFewFinishes : Sheet → Results → Type 0
HasFewFinishes sheet season = count_of_finishes sheet season ≤ most_finishes

-- where a finish stands in the list of all finishes of the season, from 0
abbrev pub number_in : Sheet → Results → Results → ℕ
number_in sheet season finish = number_of sheet.goal_limit season.scores finish.scores

-- the finish of that number
pub record IsNumbered (sheet : Sheet) (season : Results) (number : ℕ) (finish : Results)
    : Type 0 where
  pub is_finish : IsFinishOf sheet season finish
  pub stands : number_in sheet season finish ≡ number

-- from one finish to the one after it; from the last one, if the answer is false, to the first
abbrev pub GoesOn : Sheet → Results → Results → Results → Bool → Type 0
GoesOn sheet season old new true = IsNumbered sheet season (number_in sheet season old + 1) new
GoesOn sheet season old new false =
    (number_in sheet season old + 1 ≡ count_of_finishes sheet season)
    × IsNumbered sheet season 0 new

-- a match without a goal
abbrev pub nil_nil : Score
nil_nil = record { home = 0; away = 0 }

-- the finish, in which the fixture ends 0:0 if the season has no score for it
abbrev pub with_start : Results → ℕ → Results → Results
with_start season fixture finish =
    if is_some (slice_index_or season.scores fixture None) then finish
    else record finish { scores = slice_set finish.scores fixture (Some nil_nil) }

-- in how many ways the fixtures before one may end
abbrev pub ways_before : Sheet → Results → ℕ → ℕ
ways_before sheet season fixture = ways_to_finish sheet.goal_limit (take fixture season.scores)

-- the fixture has its next score; if the answer is true it had its last one and has its first again
abbrev pub Turns : Sheet → Results → ℕ → Results → Results → Bool → Type 0
Turns sheet season fixture old new true =
    number_in sheet season new + ways_before sheet season (fixture + 1)
    ≡ number_in sheet season old + ways_before sheet season fixture
Turns sheet season fixture old new false =
    number_in sheet season new ≡ number_in sheet season old + ways_before sheet season fixture
