-- What an answer says as the items of a report.
use Rattle.std.proofs.Common.{◌≡◌, ℕ, ◌+◌, List, [], ◌∷◌, ◌++◌, map, length, All, refl, ap, ap₂}
use Rattle.std.proofs.Common.{◌∙◌}
use Rattle.std.specs.List.{flat_map, range_with_len}
use Rattle.std.proofs.lemmas.List.{map-append}
use Rattle.std.proofs.lemmas.List.Elements.{All-head, All-tail}
use Rattle.league_core.specs.declared.sheet.Sheet.{Sheet}
use Rattle.league_core.specs.game.Results.{Results}
use Rattle.line_tokens.specs.declared.token.Token.{Token}
use Rattle.cert_check.specs.declared.expected.ReportKind.{ReportKind}
use Rattle.cert_check.specs.declared.expected.ReportKind.TheVariants.{Plain, Wide}
use Rattle.cert_check.specs.ExpectedItems.{Basis, Expected, verdict_row}
use Rattle.cert_check.specs.LineGrammars.{whole_at}
use Rattle.cert_check.specs.Machine.{basis_of, ending_of, part_of_ask, rows_of, rows_on_line}
use Rattle.cert_check.specs.inside.Answers.{AreShown, ShowsWord, ShownItem, row_due}
use Rattle.cert_check.proofs.AnswerLemmas.{answer_accepted}
use Rattle.answer_rows.specs.Items.{AnswerRow, IsShownVerdict, answer_row, answer_rows_of}
use Rattle.decide_run.specs.inside.AllDecided.{IsShownDecided}
use Rattle.report_laws.specs.inside.AcceptedAnswers.{Findings, AreFindingsOf, answer_written}
use Rattle.report_laws.specs.inside.AcceptedAnswers.{item_of_decided, item_of_verdict}
use Rattle.report_laws.specs.inside.AcceptedAnswers.{items_of_findings, unsettled_count}
use Rattle.report_laws.proofs.ShownLemmas.{decided_shown, word_shown}

-- ---- what each item shows

-- the item shows its word
abbrev IsShownItem : Basis → ShownItem → Type 0
IsShownItem basis item = ShowsWord basis item.line item.club item.word item.lines

-- what is said is shown, if each is
all_shown : {A : Type 0} (basis : Basis) (item : A → ShownItem) (IsShown : A → Type 0)
    → ((it : A) → IsShown it → IsShownItem basis (item it))
    → (list : List A) → All IsShown list → AreShown basis (map item list)
all_shown basis item IsShown each [] all = tt
all_shown basis item IsShown each (it ∷ list) all = (
  each it (All-head IsShown it list all),
  all_shown basis item IsShown each list (All-tail IsShown it list all),
)

findings_shown : (kind : ReportKind) (sheet : Sheet) (season : Results) (epoch : ℕ)
    (findings : Findings kind) → AreFindingsOf kind sheet season findings
    → AreShown (basis_of kind sheet season epoch) (items_of_findings kind findings)
findings_shown Plain sheet season epoch verdicts are =
    let basis = basis_of Plain sheet season epoch in
    all_shown basis item_of_verdict (IsShownVerdict sheet season)
    (λ it shown. word_shown basis it.line it.club it.word it.proof.items shown) verdicts are.each
findings_shown Wide sheet season epoch all are =
    let basis = basis_of Wide sheet season epoch in
    all_shown basis item_of_decided (IsShownDecided sheet season)
    (λ it shown. decided_shown basis refl it.line it.club it.word it.proof.items shown) all
    are.each

-- ---- the rows that they are about

-- the row that an answer's row is in a report
abbrev pub due_of_row : AnswerRow → Expected
due_of_row row = verdict_row row.line row.club

-- the rows of what is said
dues_of_items : {A : Type 0} (item : A → ShownItem) (row : A → AnswerRow)
    → ((it : A) → row_due (item it) ≡ due_of_row (row it)) → (list : List A)
    → map row_due (map item list) ≡ map due_of_row (map row list)
dues_of_items item row same [] = refl
dues_of_items item row same (it ∷ list) =
    ap₂ (λ (first : Expected) (rest : List Expected). first ∷ rest) (same it)
    (dues_of_items item row same list)

-- the rows about a line
dues_on_line : (clubs : List ℕ) (line : ℕ)
    → map due_of_row (map (λ (club : ℕ). record { line = line; club = club }) clubs)
    ≡ rows_on_line clubs line
dues_on_line [] line = refl
dues_on_line (club ∷ clubs) line =
    ap (λ (rest : List Expected). verdict_row line club ∷ rest) (dues_on_line clubs line)

-- the rows about all lines
pub dues_on_lines : (clubs : ℕ) (lines : List ℕ)
    → map due_of_row (flat_map (answer_rows_of clubs) lines)
    ≡ flat_map (rows_on_line (range_with_len 0 clubs)) lines
dues_on_lines clubs [] = refl
dues_on_lines clubs (line ∷ lines) =
    map-append due_of_row (answer_rows_of clubs line) (flat_map (answer_rows_of clubs) lines)
    ∙ ap₂ (λ (xs ys : List Expected). xs ++ ys) (dues_on_line (range_with_len 0 clubs) line)
    (dues_on_lines clubs lines)

-- those of an answer
findings_due : (kind : ReportKind) (sheet : Sheet) (season : Results) (findings : Findings kind)
    → AreFindingsOf kind sheet season findings
    → map row_due (items_of_findings kind findings) ≡ rows_of sheet
findings_due Plain sheet season verdicts are =
    dues_of_items item_of_verdict answer_row (λ it. refl) verdicts ∙ ap (map due_of_row) are.rows
    ∙ dues_on_lines (length sheet.clubs) sheet.lines
findings_due Wide sheet season all are =
    dues_of_items item_of_decided answer_row (λ it. refl) all ∙ ap (map due_of_row) are.rows
    ∙ dues_on_lines (length sheet.clubs) sheet.lines

-- an answer is accepted
pub answer_of_findings : (kind : ReportKind) (sheet : Sheet) (season : Results) (epoch : ℕ)
    (findings : Findings kind) (rest : List Token) (from : ℕ)
    → AreFindingsOf kind sheet season findings
    → ending_of (basis_of kind sheet season epoch)
    (answer_written kind sheet season epoch findings ++ rest) (part_of_ask sheet) from 0
    ≡ whole_at (from + length (answer_written kind sheet season epoch findings))
    (unsettled_count kind findings)
answer_of_findings kind sheet season epoch findings rest from are =
    answer_accepted (basis_of kind sheet season epoch) (items_of_findings kind findings) rest from
    (findings_due kind sheet season findings are)
    (findings_shown kind sheet season epoch findings are)
