-- The text of an answer, of either mode, is the bytes of one part.
use Rattle.std.proofs.Common.{◌≡◌, ℕ, ◌+◌, ◌≤◌, true, List, [], ◌∷◌, ◌++◌, length, refl}
use Rattle.std.proofs.Common.{sym, ap, ◌∙◌, arith, None}
use Rattle.std.specs.List.{flat_map}
use Rattle.league_core.specs.game.Limits.{most_events}
use Rattle.league_core.specs.declared.sheet.Sheet.{Sheet}
use Rattle.league_core.specs.game.Results.{Results, are_results}
use Rattle.league_core.specs.game.Seasons.{IsLeague}
use Rattle.cert_text.specs.declared.proof_line.ProofLine.{ProofLine}
use Rattle.cert_text.specs.Lines.{text_of_proof_line}
use Rattle.cert_text.specs.ExampleLines.{text_of_proof_lines}
use Rattle.line_tokens.specs.declared.token.Token.{Token}
use Rattle.cert_check.specs.declared.expected.ReportKind.{ReportKind}
use Rattle.cert_check.specs.declared.expected.ReportKind.TheVariants.{Plain, Wide}
use Rattle.cert_check.specs.ExpectedItems.{Basis}
use Rattle.cert_check.specs.LineGrammars.{whole_at}
use Rattle.cert_check.specs.Machine.{basis_of}
use Rattle.cert_check.specs.inside.Answers.{answer_tokens}
use Rattle.report_lines.specs.inside.WrittenReports.{written}
use Rattle.cert_check.proofs.AnswerLemmas.{answer_accepted}
use Rattle.answer_rows.specs.Items.{AnswerRow, answer_rows}
use Rattle.answer_rows.specs.Parts.{club_name}
use Rattle.answer_rows.specs.Rows.{ask_row, verdict_row}
use Rattle.pool_save.specs.SavedAnswers.{IsItemText}
use Rattle.decide_run.specs.DecidedTexts.{IsDecidedItemText, text_of_wide_lines}
use Rattle.session_turns.specs.Answers.{IsAnswerTo}
use Rattle.session_turns.specs.Plays.{Played}
use Rattle.report_laws.specs.inside.AcceptedTexts.{mode_of_kind, unsettled_answered}
use Rattle.report_laws.proofs.AnswerTextLemmas.{ItemTold, ItemsRead, answer_items}
use Rattle.report_laws.proofs.ItemLemmas.{dues_on_lines}
use Rattle.report_laws.proofs.PutLemmas.{ArePut, ask-put}
use Rattle.report_laws.proofs.ReportLemmas.{IsWholePart}
use Rattle.report_laws.proofs.ShownLemmas.{as_wide, decided_shown, word_shown}

-- ---- one item

-- proof lines have the same text as wide ones
wide-texts : (lines : List ProofLine)
    → text_of_wide_lines (as_wide lines) ≡ text_of_proof_lines lines
wide-texts [] = refl
wide-texts (shown ∷ lines) =
    ap (λ (rest : List ℕ). (text_of_proof_line shown ++ 10 ∷ []) ++ rest) (wide-texts lines)

-- an item of the mode `verdicts`
verdict-told : (basis : Basis) (about : AnswerRow) (text : List ℕ)
    (item : IsItemText true basis.sheet basis.season None about text)
    → ItemTold basis about item.0 text
verdict-told basis about text item = record {
  lines = as_wide item.1;
  shown = word_shown basis about.line about.club item.0 item.1 item.2;
  bytes = item.4
      ∙ ap (λ (rest : List ℕ). verdict_row about.line (club_name basis.sheet about.club) item.0
      ++ rest) (sym (wide-texts item.1));
}

-- one of the mode `decide`
decided-told : (basis : Basis) → basis.kind ≡ Wide → (about : AnswerRow) (text : List ℕ)
    (item : IsDecidedItemText true basis.sheet basis.season about text)
    → ItemTold basis about item.0 text
decided-told basis wide about text item = record {
  lines = item.1;
  shown = decided_shown basis wide about.line about.club item.0 item.1 item.2;
  bytes = item.3;
}

-- ---- one answer

-- a text as the lines of one part
pub record AnswerRead (kind : ReportKind) (sheet : Sheet) (season : Results) (epoch : ℕ)
    (text : List ℕ) (unsettled : ℕ) : Type 0 where
  pub part : List Token
  pub whole : IsWholePart kind sheet season epoch part unsettled
  pub bytes : text ≡ flat_map written part
  pub put : ArePut part

-- the row of the ask, and then items
items-answer : (kind : ReportKind) (sheet : Sheet) (season : Results) (epoch : ℕ)
    (text items : List ℕ) (unsettled : ℕ) → epoch ≤ most_events → text ≡ ask_row epoch ++ items
    → ItemsRead (basis_of kind sheet season epoch) (answer_rows sheet) unsettled items
    → AnswerRead kind sheet season epoch text unsettled
items-answer kind sheet season epoch text items unsettled few is found =
    let basis = basis_of kind sheet season epoch in
    record {
      part = answer_tokens basis found.items;
      whole = λ rest from.
          answer_accepted basis found.items rest from
          (found.dues ∙ dues_on_lines (length sheet.clubs) sheet.lines) found.shown
          ∙ ap (whole_at (from + length (answer_tokens basis found.items))) found.counted;
      bytes = is ∙ ap (λ (rest : List ℕ). ask_row epoch ++ rest) found.bytes;
      put = (ask-put epoch (omega (arith, few)), found.put);
    }

pub answer-read : (kind : ReportKind) (asked : Played) (text : List ℕ)
    → IsLeague asked.sheet asked.season → are_results asked.season ≡ true
    → asked.epoch ≤ most_events → (told : IsAnswerTo (mode_of_kind kind) asked text)
    → AnswerRead kind asked.sheet asked.season asked.epoch text
    (unsettled_answered kind asked text told)
answer-read Plain asked text league results few told =
    let basis = basis_of Plain asked.sheet asked.season asked.epoch in
    items-answer Plain asked.sheet asked.season asked.epoch text told.0
    (unsettled_answered Plain asked text told) few told.1
    (answer_items basis (IsItemText true asked.sheet asked.season None)
    (λ about part item. item.0) told.0 league results (verdict-told basis) told.2)
answer-read Wide asked text league results few told =
    let basis = basis_of Wide asked.sheet asked.season asked.epoch in
    items-answer Wide asked.sheet asked.season asked.epoch text told.0
    (unsettled_answered Wide asked text told) few told.1
    (answer_items basis (IsDecidedItemText true asked.sheet asked.season)
    (λ about part item. item.0) told.0 league results (decided-told basis refl) told.2)
