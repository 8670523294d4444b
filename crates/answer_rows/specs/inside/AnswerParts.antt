-- What stands for one question in an answer, and the word and the lines that the parts of its two
-- questions give a club.
use Rattle.std.specs.Prelude.{◌≡◌, true, IsTrue, List, ◌++◌}
use Rattle.std.specs.List.{list_all}
use Rattle.league_core.specs.declared.sheet.Sheet.{Sheet}
use Rattle.league_core.specs.declared.question.Question.{Question}
use Rattle.league_core.specs.game.Results.{Results}
use Rattle.cert_text.specs.declared.proof_line.ProofLine.{ProofLine}
use Rattle.cert_text.specs.Ranges.{is_in_range}
use Rattle.cert_text.specs.ExampleLines.{IsExampleInLines}
use Rattle.answer_rows.specs.declared.word.Word.{Word}
use Rattle.answer_rows.specs.declared.word.Word.TheVariants.{Clinched, Lost, Possible, Unsettled}
use Rattle.answer_rows.specs.declared.part.Part.{Part}
use Rattle.answer_rows.specs.declared.part.PartKind.{PartKind}
use Rattle.answer_rows.specs.declared.part.PartKind.TheVariants.{Won, Refuted, Spent}
use Rattle.answer_rows.specs.Items.{RefutesIfAsked, ShowsSpentNow}

-- the lines show this of the question
abbrev pub IsPart : Sheet → Results → Question → PartKind → List ProofLine → Type 0
IsPart sheet season question Won lines = IsExampleInLines sheet season question lines
IsPart sheet season question Refuted lines = RefutesIfAsked true sheet season question lines
IsPart sheet season question Spent lines = ShowsSpentNow sheet season question lines

-- a part of an answer: its lines show it, and are in the ranges of their forms
pub record IsAnswerPart (sheet : Sheet) (season : Results) (question : Question)
    (part : Part ProofLine) : Type 0 where
  pub shows : IsPart sheet season question part.kind part.lines.items
  pub in_range : IsTrue (list_all is_in_range part.lines.items)

-- a part that refutes the question
pub record IsRefutedPart (sheet : Sheet) (season : Results) (question : Question)
    (part : Part ProofLine) : Type 0 where
  pub kind : part.kind ≡ Refuted
  pub part_of : IsAnswerPart sheet season question part

-- the word, by what the parts of `Inside` and of `Outside` show
abbrev pub word_by : PartKind → PartKind → Word
word_by Refuted outside = Lost
word_by Won Refuted = Clinched
word_by Won Won = Possible
word_by Won Spent = Unsettled
word_by Spent Refuted = Clinched
word_by Spent Won = Unsettled
word_by Spent Spent = Unsettled

-- the lines after the word, out of those of `Inside` and of `Outside`
abbrev pub proof_by : {L : Type 0} → Word → List L → List L → List L
proof_by Clinched inside outside = outside
proof_by Lost inside outside = inside
proof_by Possible inside outside = inside ++ outside
proof_by Unsettled inside outside = inside ++ outside
