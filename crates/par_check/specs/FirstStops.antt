-- A report read piece by piece: where its grammar alone cuts it, what each piece comes to for
-- itself, and the first stop among them. A piece is the row of an ask, or an item: the row of a
-- line and a club with what its word asks for.
use Rattle.std.specs.Prelude.{◌≡◌, ℕ, Bool, true, false, List, drop}
use Rattle.line_tokens.specs.declared.token.Token.{Token}
use Rattle.cert_check.specs.LineGrammars.{Ending, ending_by}
use Rattle.cert_check.specs.ExpectedItems.{Basis, Expected, ask_row}
use Rattle.cert_check.specs.Machine.{report_grammar, rows_of}
use Rattle.cert_check.specs.inside.Calls.{ReportView}
use Rattle.cert_check.specs.inside.Pieces.{AnswerForm, WantedBy, PieceBy, CutBy, believing}
use Rattle.cert_check.specs.inside.Pieces.{ending_of_asks, cut_of_asks, first_stop_of}

-- ---- the grammar alone

-- what lines come to by the grammar alone, if this is due, with so many unsettled rows so far
abbrev pub grammar_of : Basis → List Token → List Expected → ℕ → ℕ → Ending
grammar_of basis tokens dues at unsettled =
    ending_by (believing report_grammar) basis tokens dues at unsettled

-- the same of the lines that are judged, from a position on
abbrev pub grammar_from : ReportView → ℕ → List Expected → ℕ → Ending
grammar_from judged at dues unsettled =
    grammar_of judged.basis (drop at judged.tokens) dues at unsettled

-- the lines with what a piece of them is judged by
abbrev pub judged_by : List Token → Basis → ReportView
judged_by tokens basis = record { basis = basis; tokens = tokens }

-- ---- pieces

-- the piece is an item: not the row of an ask
abbrev pub is_item_due : Expected → Bool
is_item_due ask_row = false
is_item_due _ = true

-- the answers of reports
abbrev pub reports : AnswerForm Basis Token Expected
reports = record {
  grammar = report_grammar;
  own = ask_row;
  rows = λ basis. rows_of basis.sheet;
  is_item = is_item_due;
}

-- something due in a report
abbrev pub WantedPiece : Type 0
WantedPiece = WantedBy Basis Expected

-- a piece of a report
abbrev pub ReportPiece : Type 0
ReportPiece = PieceBy Basis Expected

-- what the grammar alone cuts a report into
abbrev pub GrammarCut : Type 0
GrammarCut = CutBy Basis Expected

-- ---- the law

-- the first stop of a report is where reading it ask after ask stops
abbrev pub TheFirstStopIsTold : Type 0
TheFirstStopIsTold =
    (tokens : List Token) (asks : List Basis)
    → ending_of_asks reports tokens asks 0 0
    ≡ first_stop_of reports tokens (cut_of_asks reports tokens asks)
