-- What the mode `table` answers: the table of the matches played so far, with the lots in the order
-- of the sheet, and for each club the places that other lots may give it.
use Rattle.std.specs.Prelude.{◌≡◌, ℕ, ◌+◌, Bool, ◌&&◌, ◌||◌, ◌==◌, List, [], ◌∷◌, ◌++◌, Option}
use Rattle.std.specs.Prelude.{is_some, if◌then◌else◌}
use Rattle.league_core.specs.declared.sheet.Sheet.{Sheet}
use Rattle.league_core.specs.declared.sheet.Fixture.{Fixture}
use Rattle.league_core.specs.declared.season.Score.{Score}
use Rattle.league_core.specs.game.Results.{Results}
use Rattle.league_core.specs.game.Sheets.{clubs_of}
use Rattle.league_core.specs.game.Sums.{points_of, sum_of, goal_difference, goals}
use Rattle.league_core.specs.game.Ranking.{IsTable}
use Rattle.final_rank.specs.Places.{IsBestPlace, IsWorstPlace}
use Rattle.answer_rows.specs.declared.table_row.TableRow.{TableRow}
use Rattle.answer_rows.specs.Rows.{ask_row}
use Rattle.answer_rows.specs.Rows.{place_row}
use Rattle.answer_rows.specs.Parts.{IsMadeOf, club_name}

-- the club plays in the match, at home or away
abbrev pub plays_in : ℕ → Fixture → Bool
plays_in club match = match.home == club || match.away == club

-- one if the match has a score and the club plays in it
abbrev pub count_if_played : ℕ → Fixture → Option Score → ℕ
count_if_played club match score = if is_some score && plays_in club match then 1 else 0

-- how many of the matches have a score and the club in them
abbrev pub count_played : ℕ → List Fixture → List (Option Score) → ℕ
count_played club [] scores = 0
count_played club (match ∷ matches) [] = 0
count_played club (match ∷ matches) (score ∷ scores) =
    count_if_played club match score + count_played club matches scores

-- what a table says of a club: its least and its greatest place over all drawings of lots, its
-- matches that have a score, its points, and its goal difference and goals over all of them
pub record IsTableRow (sheet : Sheet) (season : Results) (club : ℕ) (row : TableRow) :
    Type 0 where
  pub best : IsBestPlace sheet season club row.best
  pub worst : IsWorstPlace sheet season club row.worst
  pub played : row.played ≡ count_played club sheet.fixtures season.scores
  pub points : row.points ≡ points_of sheet season club
  pub difference : row.difference ≡ sum_of goal_difference sheet season club
  pub scored : row.scored ≡ sum_of goals sheet season club

-- the row of a club
abbrev pub IsPlaceRow : Sheet → Results → ℕ → List ℕ → Type 0
IsPlaceRow sheet season club text =
    (row : TableRow) × IsTableRow sheet season club row
    × (text ≡ place_row (club_name sheet club) row)

-- the row of the ask, then the clubs' rows in the order of the table
abbrev pub IsTableText : Sheet → Results → ℕ → List ℕ → Type 0
IsTableText sheet season epoch text =
    (order : List ℕ) × (rows : List ℕ)
    × IsTable sheet season (clubs_of sheet) order
    × (text ≡ ask_row epoch ++ rows)
    × IsMadeOf (IsPlaceRow sheet season) order rows
