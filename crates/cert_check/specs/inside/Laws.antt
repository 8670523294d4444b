-- The laws that join the reading line by line with the grammar: each statement is the contract of a
-- function of src/laws.rt that does nothing.
use Rattle.std.specs.Prelude.{◌≡◌, ◌↔◌, ◌≤◌, ℕ, ◌+◌, true, IsTrue, List, ◌++◌, length}
use Rattle.std.specs.List.{list_all}
use Rattle.line_tokens.specs.declared.token.Token.{Token}
use Rattle.line_tokens.specs.Tokens.{counts, counted_lines}
use Rattle.cert_check.specs.LineGrammars.{whole_at, bad_line, no_proof, short}
use Rattle.cert_check.specs.ExpectedItems.{Basis, Expected}
use Rattle.cert_check.specs.Machine.{ending_of, is_unsettled_row}
use Rattle.cert_check.specs.inside.LineParts.{unsettled_with, IsBadLineAt, IsUnprovedAt, AreTooFew}
use Rattle.cert_check.specs.inside.Grammar.{AreParts, report_parts}

-- what is read as whole up to a position are lines that prove what is due, some passed over among
-- them, and its unsettled rows are theirs
abbrev pub AcceptedPartsAreProved : Type 0
AcceptedPartsAreProved =
    (basis : Basis) (tokens : List Token) (dues : List Expected) (at unsettled to found : ℕ)
    → ending_of basis tokens dues at unsettled ≡ whole_at to found
    → (taken : List Token) × (rest : List Token) × (tokens ≡ taken ++ rest)
    × (to ≡ at + length taken) × (found ≡ unsettled_with is_unsettled_row unsettled taken)
    × AreParts true basis dues (counted_lines taken)

-- lines that prove what is due are read as whole, whatever follows; the last of them that counts is
-- the last that is read
abbrev pub ProvedPartsAreAccepted : Type 0
ProvedPartsAreAccepted =
    (basis : Basis) (taken rest : List Token) (dues : List Expected) (at unsettled : ℕ)
    → AreParts true basis dues (counted_lines taken)
    → (to : ℕ) × (ending_of basis (taken ++ rest) dues at unsettled
    ≡ whole_at to (unsettled_with is_unsettled_row unsettled taken))
    × (to ≤ at + length taken)
    × (IsTrue (list_all counts taken) → to ≡ at + length taken)

-- a line is refused exactly when it does not fit
abbrev pub BadLinesDoNotFit : Type 0
BadLinesDoNotFit =
    (basis : Basis) (tokens : List Token) (dues : List Expected) (at unsettled place : ℕ)
    → (ending_of basis tokens dues at unsettled ≡ bad_line (at + place))
    ↔ IsBadLineAt report_parts basis tokens dues place

-- a line is named as no proof exactly when it is the first that does not prove what it says
abbrev pub UnprovedLinesFit : Type 0
UnprovedLinesFit =
    (basis : Basis) (tokens : List Token) (dues : List Expected) (at unsettled place : ℕ)
    → (ending_of basis tokens dues at unsettled ≡ no_proof (at + place))
    ↔ IsUnprovedAt report_parts basis tokens dues place

-- lines are said to be missing exactly when they are too few
abbrev pub ShortReportsBegin : Type 0
ShortReportsBegin =
    (basis : Basis) (tokens : List Token) (dues : List Expected) (at unsettled : ℕ)
    → (ending_of basis tokens dues at unsettled ≡ short)
    ↔ AreTooFew report_parts basis tokens dues
