-- What stands for one question, and what an answer is put together from.
use Rattle.std.specs.Prelude.{ℕ, true, IsTrue, List, length}
use Rattle.std.specs.List.{list_all, flat_map}
use Rattle.league_core.specs.declared.sheet.Sheet.{Sheet}
use Rattle.league_core.specs.declared.question.Question.{Question}
use Rattle.league_core.specs.game.Results.{Results}
use Rattle.wide_lines.specs.declared.wide_line.WideLine.{WideLine}
use Rattle.wide_lines.specs.WideTexts.{is_wide_in_range}
use Rattle.answer_rows.specs.declared.part.Part.{Part}
use Rattle.answer_rows.specs.declared.part.PartKind.{PartKind}
use Rattle.answer_rows.specs.declared.part.PartKind.TheVariants.{Won, Refuted, Spent}
use Rattle.answer_rows.specs.declared.word.Verdict.{Verdict}
use Rattle.answer_rows.specs.Items.{answer_row, answer_rows_of}
use Rattle.answer_rows.specs.inside.ItemRanges.{IsInRange}
use Rattle.answer_rows.specs.inside.RowItems.{AreAbout}
use Rattle.decide_run.specs.Decisions.{RefutesWideIfAsked, ShowsWideExample}
use Rattle.decide_run.specs.Decisions.{ShowsWideSpentNow}
use Rattle.decide_run.specs.inside.AllDecided.{IsShownDecided}

-- the lines show this of the question
abbrev pub IsKindShown : Sheet → Results → Question → PartKind → List WideLine → Type 0
IsKindShown sheet season question Won lines = ShowsWideExample sheet season question lines
IsKindShown sheet season question Refuted lines =
    RefutesWideIfAsked true sheet season question lines
IsKindShown sheet season question Spent lines = ShowsWideSpentNow sheet season question lines

-- a part of an answer: its lines show it, and are in the ranges of their forms
pub record IsWidePart (sheet : Sheet) (season : Results) (question : Question)
    (part : Part WideLine) : Type 0 where
  pub shows : IsKindShown sheet season question part.kind part.lines.items
  pub in_range : IsTrue (list_all is_wide_in_range part.lines.items)

-- right, shown and in range
pub record IsRightDecided (sheet : Sheet) (season : Results) (found : Verdict WideLine)
    : Type 0 where
  pub shown : IsShownDecided sheet season found
  pub in_range : IsInRange is_wide_in_range sheet found

-- so is each about the first lines
abbrev pub AreDecidedForLines : Sheet → Results → List ℕ → List (Verdict WideLine) → Type 0
AreDecidedForLines sheet season lines all =
    AreAbout answer_row (IsRightDecided sheet season)
    (flat_map (answer_rows_of (length sheet.clubs)) lines) all
