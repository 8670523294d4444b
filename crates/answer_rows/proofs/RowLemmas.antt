-- The rows of an answer are about lines and clubs of the sheet.
use Rattle.std.proofs.Common.{◌≡◌, ℕ, zero, suc, ◌+◌, ◌<◌, ◌≤◌, true, List, [], ◌∷◌, length}
use Rattle.std.proofs.Common.{map, arith, nat_lt, nat_le}
use Rattle.std.specs.Prelude.{All}
use Rattle.std.specs.List.{list_all, flat_map, range_with_len}
use Rattle.std.proofs.lemmas.Bool.{and_parts, ltb-true, leb-true}
use Rattle.std.proofs.lemmas.List.Elements.{All-nil, All-cons, All-append}
use Rattle.league_core.specs.declared.sheet.Sheet.{Sheet}
use Rattle.league_core.specs.declared.question.Claim.{Claim}
use Rattle.league_core.specs.game.Sheets.{IsWithinLimits, is_line}
use Rattle.league_core.specs.game.Questions.{full_question, IsQuestionOf}
use Rattle.answer_rows.specs.Items.{AnswerRow, answer_rows, answer_rows_of}

-- the questions about a row are questions about the sheet
abbrev pub IsRowOf : Sheet → AnswerRow → Type 0
IsRowOf sheet row = (claim : Claim) → IsQuestionOf sheet (full_question row.club row.line claim)

-- a line of the sheet and one of its clubs make a row of it
pub row_asked : (sheet : Sheet) (line club : ℕ) → club < length sheet.clubs
    → is_line (length sheet.clubs) line ≡ true
    → IsRowOf sheet (record { line = line; club = club })
row_asked sheet line club within may claim =
    let parts = and_parts (nat_le 1 line) (nat_lt line (length sheet.clubs)) may in
    record {
      club = within;
      least_line = leb-true 1 line parts.0;
      most_line = ltb-true line (length sheet.clubs) parts.1;
    }

clubs_asked : (sheet : Sheet) (line from count : ℕ) → from + count ≤ length sheet.clubs
    → is_line (length sheet.clubs) line ≡ true
    → All (IsRowOf sheet) (map (λ club. record { line = line; club = club })
    (range_with_len from count))
clubs_asked sheet line from zero few may = All-nil (IsRowOf sheet)
clubs_asked sheet line from (suc count) few may =
    All-cons (IsRowOf sheet) (record { line = line; club = from })
    (map (λ club. record { line = line; club = club }) (range_with_len (from + 1) count))
    (row_asked sheet line from (omega (arith, few)) may)
    (clubs_asked sheet line (from + 1) count (omega (arith, few)) may)

lines_asked : (sheet : Sheet) (lines : List ℕ)
    → list_all (is_line (length sheet.clubs)) lines ≡ true
    → All (IsRowOf sheet) (flat_map (answer_rows_of (length sheet.clubs)) lines)
lines_asked sheet [] may = All-nil (IsRowOf sheet)
lines_asked sheet (line ∷ lines) may =
    let clubs = length sheet.clubs in
    let parts = and_parts (is_line clubs line) (list_all (is_line clubs) lines) may in
    All-append (IsRowOf sheet) (answer_rows_of clubs line)
    (flat_map (answer_rows_of clubs) lines)
    (clubs_asked sheet line 0 clubs (omega arith) parts.0) (lines_asked sheet lines parts.1)

-- so are all rows
pub rows_asked : (sheet : Sheet) → IsWithinLimits sheet → All (IsRowOf sheet) (answer_rows sheet)
rows_asked sheet limits = lines_asked sheet sheet.lines limits.lines
