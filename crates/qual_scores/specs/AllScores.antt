-- The numbers of all clubs and lines, as an answer has them.
use Rattle.std.specs.Prelude.{◌≡◌, ◌<◌, List, map, All, length}
use Rattle.league_core.specs.declared.sheet.Sheet.{Sheet}
use Rattle.league_core.specs.game.Results.{Results}
use Rattle.answer_rows.specs.Items.{AnswerRow, answer_rows}
use Rattle.answer_rows.specs.declared.bound.ClubScores.{ClubScores}
use Rattle.qual_scores.specs.Bounds.{AreRightScores}

-- the row that the numbers are about
abbrev pub scores_row : ClubScores → AnswerRow
scores_row found = record { line = found.line; club = found.club }

-- the numbers are right, and about one of the clubs
pub record AreRightOf (sheet : Sheet) (season : Results) (found : ClubScores) : Type 0 where
  pub club : found.club < length sheet.clubs
  pub right : AreRightScores sheet season found.club found.line found.scores

-- right numbers for these rows, in their order
pub record AreScoresFor (sheet : Sheet) (season : Results) (rows : List AnswerRow)
    (scores : List ClubScores) : Type 0 where
  pub about : map scores_row scores ≡ rows
  pub each : All (AreRightOf sheet season) scores

-- right numbers for each line and club, line by line in the sheet's order and club by club
abbrev pub AreScoresOf : Sheet → Results → List ClubScores → Type 0
AreScoresOf sheet season scores = AreScoresFor sheet season (answer_rows sheet) scores
