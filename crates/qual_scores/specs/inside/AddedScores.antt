-- The numbers of clubs and lines, as they are added to an answer one after another.
use Rattle.std.specs.Prelude.{◌≡◌, ℕ, List, ◌++◌, length}
use Rattle.std.specs.List.{flat_map}
use Rattle.league_core.specs.declared.sheet.Sheet.{Sheet}
use Rattle.league_core.specs.game.Results.{Results}
use Rattle.answer_rows.specs.Items.{answer_rows_of}
use Rattle.answer_rows.specs.declared.bound.ClubScores.{ClubScores}
use Rattle.qual_scores.specs.AllScores.{AreScoresFor}

-- the numbers about the first lines
abbrev pub AreScoresOfLines : Sheet → Results → List ℕ → List ClubScores → Type 0
AreScoresOfLines sheet season lines scores =
    AreScoresFor sheet season (flat_map (answer_rows_of (length sheet.clubs)) lines) scores

-- what is added: the numbers about the first clubs and a line
pub record AddsClubs (sheet : Sheet) (season : Results) (line clubs : ℕ)
    (old new : List ClubScores) : Type 0 where
  pub more : List ClubScores
  pub after : new ≡ old ++ more
  pub right : AreScoresFor sheet season (answer_rows_of clubs line) more

-- the numbers about all clubs and a line
abbrev pub AddsLine : Sheet → Results → ℕ → List ClubScores → List ClubScores → Type 0
AddsLine sheet season line old new = AddsClubs sheet season line (length sheet.clubs) old new
