-- Answers with proofs of the modes `verdicts` and `decide`, as the lines of a report.
use Rattle.std.specs.Prelude.{◌≡◌, ℕ, ◌+◌, List, ◌++◌, length, map}
use Rattle.league_core.specs.declared.sheet.Sheet.{Sheet}
use Rattle.league_core.specs.game.Results.{Results}
use Rattle.wide_lines.specs.declared.wide_line.WideLine.TheVariants as line
use Rattle.line_tokens.specs.declared.token.Token.{Token}
use Rattle.line_tokens.specs.declared.row_word.RowWord.{RowWord}
use Rattle.line_tokens.specs.declared.row_word.RowWord.TheVariants as row
use Rattle.cert_check.specs.declared.expected.ReportKind.{ReportKind}
use Rattle.cert_check.specs.declared.expected.ReportKind.TheVariants.{Plain, Wide}
use Rattle.cert_check.specs.LineGrammars.{whole_at}
use Rattle.cert_check.specs.Machine.{basis_of, ending_of, part_of_ask}
use Rattle.cert_check.specs.inside.Answers.{ShownItem, answer_tokens, unsettled_items}
use Rattle.cert_text.specs.declared.proof_line.ProofLine.{ProofLine}
use Rattle.wide_lines.specs.declared.wide_line.WideLine.{WideLine}
use Rattle.answer_rows.specs.declared.word.Word.{Word}
use Rattle.answer_rows.specs.declared.word.Word.TheVariants.{Clinched, Lost, Possible, Unsettled}
use Rattle.answer_rows.specs.declared.word.Verdict.{Verdict}
use Rattle.answer_rows.specs.Items.{AreVerdictsOf}
use Rattle.decide_run.specs.inside.AllDecided.{AreAllDecided}

-- the word of a row for the word of a verdict
abbrev pub row_word : Word → RowWord
row_word Clinched = row.Clinched
row_word Lost = row.Lost
row_word Possible = row.Possible
row_word Unsettled = row.Unsettled

-- one, if the word leaves it unsettled
abbrev pub unsettled_one : Word → ℕ
unsettled_one Clinched = 0
unsettled_one Lost = 0
unsettled_one Possible = 0
unsettled_one Unsettled = 1

-- a verdict as an item of a report: the row about its line and its club, and its lines after it
abbrev pub item_of_verdict : Verdict ProofLine → ShownItem
item_of_verdict verdict =
    record {
      line = verdict.line;
      club = verdict.club;
      word = row_word verdict.word;
      lines = map (λ shown. line.Plain shown) verdict.proof.items;
    }

-- the same of what is decided of a line and a club
abbrev pub item_of_decided : Verdict WideLine → ShownItem
item_of_decided found =
    record {
      line = found.line;
      club = found.club;
      word = row_word found.word;
      lines = found.proof.items;
    }

-- what an answer in a report of this kind says: verdicts, or what was decided
abbrev pub Findings : ReportKind → Type 0
Findings Plain = List (Verdict ProofLine)
Findings Wide = List (Verdict WideLine)

-- one of them for each line and each club, all of them right and shown
abbrev pub AreFindingsOf : (kind : ReportKind) → Sheet → Results → Findings kind → Type 0
AreFindingsOf Plain sheet season verdicts = AreVerdictsOf sheet season verdicts
AreFindingsOf Wide sheet season all = AreAllDecided sheet season all

-- as items of the report
abbrev pub items_of_findings : (kind : ReportKind) → Findings kind → List ShownItem
items_of_findings Plain verdicts = map item_of_verdict verdicts
items_of_findings Wide all = map item_of_decided all

-- how many of them are unsettled
abbrev pub unsettled_count : (kind : ReportKind) → Findings kind → ℕ
unsettled_count kind findings = unsettled_items (items_of_findings kind findings)

-- the lines of an answer: the row of the ask, and then each finding's row and what shows it
abbrev pub answer_written : (kind : ReportKind) → Sheet → Results → ℕ → Findings kind → List Token
answer_written kind sheet season epoch findings =
    answer_tokens (basis_of kind sheet season epoch) (items_of_findings kind findings)

-- an answer that has a right and shown finding for each line and each club is read as one whole
-- part, whatever follows it, with as many unsettled rows as it has
abbrev pub AnswersAreAccepted : Type 0
AnswersAreAccepted =
    (kind : ReportKind) (sheet : Sheet) (season : Results) (epoch : ℕ) (findings : Findings kind)
    (rest : List Token) (from : ℕ) → AreFindingsOf kind sheet season findings
    → ending_of (basis_of kind sheet season epoch)
    (answer_written kind sheet season epoch findings ++ rest) (part_of_ask sheet) from 0
    ≡ whole_at (from + length (answer_written kind sheet season epoch findings))
    (unsettled_count kind findings)
