-- What is decided, row by row.
use Rattle.std.specs.Prelude.{◌≡◌, true, List, map, All}
use Rattle.league_core.specs.declared.sheet.Sheet.{Sheet}
use Rattle.league_core.specs.game.Results.{Results}
use Rattle.wide_lines.specs.declared.wide_line.WideLine.{WideLine}
use Rattle.answer_rows.specs.declared.word.Verdict.{Verdict}
use Rattle.answer_rows.specs.Items.{answer_row, answer_rows}
use Rattle.decide_run.specs.Decisions.{IsDecidedItem}

-- what is decided is right, and its lines show it with proofs
abbrev pub IsShownDecided : Sheet → Results → Verdict WideLine → Type 0
IsShownDecided sheet season found =
    IsDecidedItem true sheet season found.line found.club found.word found.proof.items

-- one of them for each row of an answer, in order, each of them right and shown
pub record AreAllDecided (sheet : Sheet) (season : Results) (all : List (Verdict WideLine))
    : Type 0 where
  pub rows : map answer_row all ≡ answer_rows sheet
  pub each : All (IsShownDecided sheet season) all
