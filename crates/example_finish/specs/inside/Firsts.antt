-- The first of a cell's scores, for what its two sides are wished: among all of them, or among
-- those of one outcome.
use Rattle.std.specs.Prelude.{◌≢◌, ◌||◌, Bool, true, Option, Some, None}
use Rattle.std.specs.declared.cmp.Ordering.TheVariants.{Less}
use Rattle.league_core.specs.declared.season.Score.{Score}
use Rattle.league_core.specs.search.Options.{is_home_win, is_draw, is_away_win}
use Rattle.league_core.specs.search.Proposals.{option_order}
use Rattle.score_box.specs.declared.cell.Cell.{Cell}
use Rattle.score_box.specs.inside.Cells.{IsAllowed, AllowsNone}

-- a score of the cell that passes the test; no other such score is taken before it
pub record IsFirstScore (cell : Cell) (test : Score → Bool) (home away : Bool)
    (score : Score) : Type 0 where
  pub one : IsAllowed cell test score
  pub first : (other : Score) → IsAllowed cell test other
      → option_order home away other score ≢ Less

-- the first of the cell's scores that pass the test; none if none passes
abbrev pub IsFirstAmong : Cell → (Score → Bool) → Bool → Bool → Option Score → Type 0
IsFirstAmong cell test home away None = AllowsNone cell test
IsFirstAmong cell test home away (Some score) = IsFirstScore cell test home away score

-- every score
abbrev pub is_any : Score → Bool
is_any score = true

-- one side wins
abbrev pub is_win : Score → Bool
is_win score = is_home_win score || is_away_win score

-- the home side does not win
abbrev pub is_no_home_win : Score → Bool
is_no_home_win score = is_draw score || is_away_win score

-- the away side does not win
abbrev pub is_no_away_win : Score → Bool
is_no_away_win score = is_draw score || is_home_win score
