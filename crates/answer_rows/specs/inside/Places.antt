-- The rows of a table: those of a season, and the text in which they are written.
use Rattle.std.specs.Prelude.{ℕ, ◌<◌, List, ◌++◌, All, length, map}
use Rattle.std.specs.List.{flat_map}
use Rattle.league_core.specs.declared.sheet.Sheet.{Sheet}
use Rattle.league_core.specs.game.Results.{Results}
use Rattle.league_core.specs.game.Sheets.{clubs_of}
use Rattle.league_core.specs.game.Ranking.{IsTable}
use Rattle.answer_rows.specs.declared.table.ClubRow.{ClubRow}
use Rattle.answer_rows.specs.Parts.{club_name}
use Rattle.answer_rows.specs.Rows.{ask_row, place_row}
use Rattle.answer_rows.specs.Tables.{IsTableRow}

-- each row is about one of the clubs
abbrev pub AreInSheet : Sheet → List ClubRow → Type 0
AreInSheet sheet rows = All (λ (found : ClubRow). found.club < length sheet.clubs) rows

-- the clubs stand in the order of the table, with the lots in the sheet's order, and each has its
-- own row
pub record AreTableRows (sheet : Sheet) (season : Results) (rows : List ClubRow) : Type 0 where
  pub order : IsTable sheet season (clubs_of sheet) (map (λ found. found.club) rows)
  pub in_sheet : AreInSheet sheet rows
  pub each : All (λ (found : ClubRow). IsTableRow sheet season found.club found.row) rows

-- the row of a club
abbrev pub text_of_place : Sheet → ClubRow → List ℕ
text_of_place sheet found = place_row (club_name sheet found.club) found.row

-- the rows, in their order
abbrev pub text_of_places : Sheet → List ClubRow → List ℕ
text_of_places sheet rows = flat_map (text_of_place sheet) rows

-- the row of the ask, then the rows
abbrev pub text_of_table : Sheet → ℕ → List ClubRow → List ℕ
text_of_table sheet epoch rows = ask_row epoch ++ text_of_places sheet rows
