-- The lines of the spent trees of ranges are in the ranges of their forms.
use Rattle.std.specs.Prelude.{◌<◌, IsTrue, List, All, length}
use Rattle.league_core.specs.declared.sheet.Sheet.{Sheet}
use Rattle.cert_text.specs.Ranges.{is_in_range}
use Rattle.answer_rows.specs.declared.bound.Bound.{Bound}
use Rattle.answer_rows.specs.declared.bound.ClubScores.{ClubScores}
use Rattle.answer_rows.specs.ScoreTexts.{tree_lines}

-- the lines of a tree are in the ranges of their forms
abbrev pub IsBoundInRange : Bound → Type 0
IsBoundInRange bound = All (λ line. IsTrue (is_in_range line)) (tree_lines bound)

-- the numbers are about one of the clubs, and their lines are in range
pub record IsInLineRange (sheet : Sheet) (found : ClubScores) : Type 0 where
  pub club : found.club < length sheet.clubs
  pub possible : IsBoundInRange found.scores.pqs
  pub guaranteed : IsBoundInRange found.scores.gqs

-- so are those of each line and club
abbrev pub AreInLineRange : Sheet → List ClubScores → Type 0
AreInLineRange sheet scores = All (IsInLineRange sheet) scores
