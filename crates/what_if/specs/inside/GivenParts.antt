-- What stands for one question given a base, and the verdicts that an answer is put together from.
use Rattle.std.specs.Prelude.{◌≡◌, ◌<◌, ℕ, true, false, IsTrue, List, [], length}
use Rattle.std.specs.Prelude.{None, slice_index_or}
use Rattle.std.specs.List.{list_all, flat_map}
use Rattle.league_core.specs.declared.sheet.Sheet.{Sheet}
use Rattle.league_core.specs.declared.question.Question.{Question}
use Rattle.league_core.specs.declared.zone.Literal.{Literal}
use Rattle.league_core.specs.game.Results.{Results}
use Rattle.league_core.specs.search.GivenVerdicts.{HoldsNowhereIn}
use Rattle.league_core.specs.search.Options.{has_finish}
use Rattle.cert_text.specs.declared.proof_line.ProofLine.{ProofLine}
use Rattle.cert_text.specs.Ranges.{is_in_range}
use Rattle.answer_rows.specs.declared.word.Verdict.{Verdict}
use Rattle.answer_rows.specs.Items.{answer_row, answer_rows_of}
use Rattle.answer_rows.specs.inside.ItemRanges.{IsInRange}
use Rattle.answer_rows.specs.inside.RowItems.{AddsAbout, AreAbout}
use Rattle.answer_rows.specs.declared.part.Part.{Part}
use Rattle.answer_rows.specs.declared.part.PartKind.{PartKind}
use Rattle.answer_rows.specs.declared.part.PartKind.TheVariants.{Won, Refuted, Spent}
use Rattle.what_if.specs.Bases.{is_base_of}
use Rattle.what_if.specs.Given.{ShowsPartGiven, IsShownGiven}

-- a base in which the season has a finish
pub record IsBaseIn (sheet : Sheet) (season : Results) (base : List Literal) : Type 0 where
  pub of_scores : IsTrue (is_base_of sheet base)
  pub some : IsTrue (has_finish sheet season base)

-- a match of the sheet that is not played
pub record IsOpenMatch (sheet : Sheet) (season : Results) (fixture : ℕ) : Type 0 where
  pub in_range : fixture < length sheet.fixtures
  pub unplayed : slice_index_or season.scores fixture None ≡ None

-- the lines show what is known of the question given the zone; that it holds nowhere there has none
abbrev pub IsPartGiven : Sheet → Results → List Literal → Question → PartKind → List ProofLine
    → Type 0
IsPartGiven sheet season zone question Won lines =
    ShowsPartGiven sheet season zone question false lines
IsPartGiven sheet season zone question Refuted lines =
    HoldsNowhereIn sheet season question zone × (lines ≡ [])
IsPartGiven sheet season zone question Spent lines =
    ShowsPartGiven sheet season zone question true lines

-- a part of an answer given the zone: its lines show it, and are in the ranges of their forms
pub record IsAnswerPartGiven (sheet : Sheet) (season : Results) (zone : List Literal)
    (question : Question) (part : Part ProofLine) : Type 0 where
  pub shows : IsPartGiven sheet season zone question part.kind part.lines.items
  pub in_range : IsTrue (list_all is_in_range part.lines.items)

-- the verdict is right and shown given the zone, and in range
pub record IsRightGiven (sheet : Sheet) (season : Results) (zone : List Literal)
    (verdict : Verdict ProofLine) : Type 0 where
  pub shown : IsShownGiven sheet season zone verdict
  pub in_range : IsInRange is_in_range sheet verdict

-- such verdicts about the first lines
abbrev pub AreRightForLines : Sheet → Results → List Literal → List ℕ → List (Verdict ProofLine)
    → Type 0
AreRightForLines sheet season zone lines verdicts =
    AreAbout answer_row (IsRightGiven sheet season zone)
    (flat_map (answer_rows_of (length sheet.clubs)) lines) verdicts

-- what is added: such verdicts about the first clubs and a line
abbrev pub AddsVerdicts : Sheet → Results → List Literal → ℕ → ℕ → List (Verdict ProofLine)
    → List (Verdict ProofLine)
    → Type 0
AddsVerdicts sheet season zone line clubs old new =
    AddsAbout answer_row (IsRightGiven sheet season zone) line clubs old new
