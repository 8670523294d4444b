-- The bytes of a saved text that was written, and what is read of them. The statement is the
-- contract of a function of src/laws.rt that does nothing.
use Rattle.std.specs.Prelude.{◌≡◌, ◌≢◌, ℕ, ◌+◌, IsTrue, List, ◌++◌, length, Option, is_some, Ok}
use Rattle.std.specs.Prelude.{is_ok}
use Rattle.std.specs.List.{flat_map, list_all}
use Rattle.league_core.specs.declared.sheet.Sheet.{Sheet}
use Rattle.league_core.specs.declared.question.Question.{Question}
use Rattle.league_core.specs.game.Results.{Results}
use Rattle.league_core.specs.game.Sheets.{IsWithinLimits}
use Rattle.league_core.specs.search.Trees.{Tree}
use Rattle.port_core.specs.Lines.{lines_of}
use Rattle.port_core.specs.Contents.{Position, contents_from}
use Rattle.report_lines.specs.inside.WrittenReports.{written}
use Rattle.answer_rows.specs.AskedQuestions.{questions_of}
use Rattle.pool_save.specs.SavedTexts.{AreTreesOf, IsSavedTree, lines_of_saved}
use Rattle.pool_save.specs.SavedReadings.{nothing_saved, saved_reading_of}
use Rattle.pool_save.specs.SavedItems.{IsSavedOf, IsWorthSaving}

-- a tree that an item of the season has
abbrev pub IsTreeOfItem : Sheet → Results → Question → Tree → Type 0
IsTreeOfItem sheet season question tree =
    IsSavedTree sheet question tree × IsWorthSaving sheet season question tree

-- the trees are those of the text: one for each question about the sheet, and the text is their
-- items and the line `saved_end`
pub record AreTreesOfText (sheet : Sheet) (season : Results) (trees : List (Option Tree))
    (text : List ℕ) : Type 0 where
  pub each : AreTreesOf (IsTreeOfItem sheet season) (questions_of sheet) trees
  pub all : IsTrue (list_all is_some trees)
  pub bytes : text ≡ flat_map written (lines_of_saved sheet (questions_of sheet) trees)

-- the position after the text of these trees
abbrev pub position_past : Sheet → List (Option Tree) → List ℕ → Position → Position
position_past sheet trees text position = record {
  lines = position.lines + length (lines_of_saved sheet (questions_of sheet) trees);
  bytes = position.bytes + length text;
}

-- if an input is read to its end after its first line, and what is left of it are the bytes of a
-- saved text that was written, and then others, the trees of that text are read, one for each
-- question, and what comes after it is left
abbrev pub WrittenTextsAreRead : Type 0
WrittenTextsAreRead =
    (sheet : Sheet) (season : Results) (text after : List ℕ) (position : Position)
    → IsWithinLimits sheet → IsSavedOf sheet season text → position.lines ≢ 0
    → IsTrue (is_ok (contents_from position (lines_of (text ++ after))).ending)
    → (trees : List (Option Tree)) × AreTreesOfText sheet season trees text
    × (saved_reading_of sheet (questions_of sheet)
    (contents_from position (lines_of (text ++ after))) nothing_saved
    ≡ record {
      gives = Ok trees;
      rest = contents_from (position_past sheet trees text position) (lines_of after);
    })
