-- A report read piece by piece, over any grammar: where its grammar alone cuts it, what each piece
-- comes to for itself, and the first stop among them. A piece is the row of an ask, or an item.
use Rattle.std.specs.Prelude.{ℕ, ◌+◌, Bool, true, List, [], ◌∷◌, ◌++◌, map, filter}
use Rattle.std.specs.Prelude.{drop, length, Option, Some, None}
use Rattle.cert_check.specs.LineGrammars.{Next, bad, go, LineGrammar, Ending, whole_at, bad_line}
use Rattle.cert_check.specs.LineGrammars.{no_proof, short, ending_by}

-- ---- the grammar alone

-- the line is believed: where it may come, it proves what it says
abbrev pub believed : {Due : Type 0} → Next Due → Next Due
believed bad = bad
believed (go holds dues) = go true dues

-- the grammar alone: each line is believed
abbrev pub believing : {Basis Line Due : Type 0} → LineGrammar Basis Line Due
    → LineGrammar Basis Line Due
believing grammar = record {
  after = λ basis due line. believed (grammar.after basis due line);
  is_unsettled = grammar.is_unsettled;
}

-- ---- the line that is no proof

-- the line that an ending names as no proof
abbrev pub unproved_in : Ending → Option ℕ
unproved_in (whole_at at unsettled) = None
unproved_in (bad_line at) = None
unproved_in (no_proof at) = Some at
unproved_in short = None

-- the earlier of two that are looked at in order
abbrev pub first_found_of : Option ℕ → Option ℕ → Option ℕ
first_found_of None later = later
first_found_of (Some at) later = Some at

-- the first of many
abbrev pub first_among : List (Option ℕ) → Option ℕ
first_among [] = None
first_among (found ∷ more) = first_found_of found (first_among more)

-- a line that is no proof stops the reading before what the grammar comes to
abbrev pub first_stop : Option ℕ → Ending → Ending
first_stop None ending = ending
first_stop (Some at) ending = no_proof at

-- ---- pieces

-- how the answers to asks are read: the grammar of each by what it is judged by, the row of an ask,
-- the rows behind it, and what is due in an item
pub record AnswerForm (Basis Line Due : Type 0) : Type 0 where
  pub grammar : LineGrammar Basis Line Due
  pub own : Due
  pub rows : Basis → List Due
  pub is_item : Due → Bool

-- something due: by what it is judged, the position of its ask, and its position among the rows
pub record WantedBy (Basis Due : Type 0) : Type 0 where
  pub basis : Basis
  pub due : Due
  pub ask : ℕ
  pub row : ℕ

-- the same where it begins, and where its lines end
pub record PieceBy (Basis Due : Type 0) : Type 0 where
  pub wanted : WantedBy Basis Due
  pub from : ℕ
  pub until : ℕ

-- the pieces that the grammar goes over, the last one perhaps cut off, and what it comes to
pub record CutBy (Basis Due : Type 0) : Type 0 where
  pub pieces : List (PieceBy Basis Due)
  pub ending : Ending

-- what the lines from a position on come to, judged by this
abbrev pub ending_at : {Basis Line Due : Type 0} → AnswerForm Basis Line Due → List Line → Basis
    → ℕ → List Due → ℕ → Ending
ending_at form lines basis at dues unsettled =
    ending_by form.grammar basis (drop at lines) dues at unsettled

-- what the grammar alone makes of a piece
abbrev pub grammar_of_piece : {Basis Line Due : Type 0} → AnswerForm Basis Line Due → List Line
    → WantedBy Basis Due → ℕ → ℕ → Ending
grammar_of_piece form lines wanted at unsettled =
    ending_by (believing form.grammar) wanted.basis (drop at lines) (wanted.due ∷ []) at unsettled

-- the position after the last line of a piece: a line that may not come there is none of it
abbrev pub end_by : {Line : Type 0} → List Line → Ending → ℕ
end_by lines (whole_at at unsettled) = at
end_by lines (bad_line at) = at
end_by lines (no_proof at) = at
end_by lines short = length lines

-- where the reading of a piece is through, what is read behind it
abbrev pub go_on_by : Ending → (ℕ → ℕ → Ending) → Ending
go_on_by (whole_at at unsettled) rest = rest at unsettled
go_on_by (bad_line at) rest = bad_line at
go_on_by (no_proof at) rest = no_proof at
go_on_by short rest = short

-- one piece more before the others
abbrev pub with_piece : {Basis Due : Type 0} → PieceBy Basis Due → CutBy Basis Due
    → CutBy Basis Due
with_piece piece cut = record { pieces = piece ∷ cut.pieces; ending = cut.ending }

-- a piece at which the grammar stops
abbrev pub last_piece : {Basis Due : Type 0} → PieceBy Basis Due → Ending → CutBy Basis Due
last_piece piece ending = record { pieces = piece ∷ []; ending = ending }

-- a piece, and where the grammar is through with it, those behind it
abbrev pub cut_behind : {Basis Due : Type 0} → PieceBy Basis Due → Ending
    → (ℕ → ℕ → CutBy Basis Due) → CutBy Basis Due
cut_behind piece (whole_at at unsettled) rest =
    with_piece piece (rest at unsettled)
cut_behind piece (bad_line at) rest = last_piece piece (bad_line at)
cut_behind piece (no_proof at) rest = last_piece piece (no_proof at)
cut_behind piece short rest = last_piece piece short

-- the pieces of what is wanted, one after another
abbrev pub cut_of : {Basis Line Due : Type 0} → AnswerForm Basis Line Due → List Line
    → List (WantedBy Basis Due) → ℕ → ℕ → CutBy Basis Due
cut_of form lines [] at unsettled = record { pieces = []; ending = whole_at at unsettled }
cut_of form lines (wanted ∷ later) at unsettled =
    cut_behind
    (record {
      wanted = wanted;
      from = at;
      until = end_by lines (grammar_of_piece form lines wanted at unsettled);
    })
    (grammar_of_piece form lines wanted at unsettled)
    (λ to found. cut_of form lines later to found)

-- the line of a piece that is no proof, by this piece alone
abbrev pub judged_alone : {Basis Line Due : Type 0} → AnswerForm Basis Line Due → List Line
    → PieceBy Basis Due → Option ℕ
judged_alone form lines piece =
    unproved_in (ending_at form lines piece.wanted.basis piece.from (piece.wanted.due ∷ []) 0)

-- ---- asks

-- things due of an ask, from this position among its rows on
abbrev pub rows_wanted : {Basis Due : Type 0} → Basis → ℕ → ℕ → List Due
    → List (WantedBy Basis Due)
rows_wanted basis ask row [] = []
rows_wanted basis ask row (due ∷ dues) =
    record { basis = basis; due = due; ask = ask; row = row }
    ∷ rows_wanted basis ask (row + 1) dues

-- what one ask wants: its own row, and then the rows of its answer
abbrev pub wanted_by_ask : {Basis Line Due : Type 0} → AnswerForm Basis Line Due → Basis → ℕ
    → List (WantedBy Basis Due)
wanted_by_ask form basis ask =
    record { basis = basis; due = form.own; ask = ask; row = 0 }
    ∷ rows_wanted basis ask 0 (form.rows basis)

-- what the asks of a report want, one after another, from this position among the asks on
abbrev pub wanted_by_asks : {Basis Line Due : Type 0} → AnswerForm Basis Line Due → ℕ
    → List Basis → List (WantedBy Basis Due)
wanted_by_asks form ask [] = []
wanted_by_asks form ask (basis ∷ later) =
    wanted_by_ask form basis ask ++ wanted_by_asks form (ask + 1) later

-- the answers of the asks read one after another, each as the part of one ask
abbrev pub ending_of_asks : {Basis Line Due : Type 0} → AnswerForm Basis Line Due → List Line
    → List Basis → ℕ → ℕ → Ending
ending_of_asks form lines [] at unsettled = whole_at at unsettled
ending_of_asks form lines (basis ∷ later) at unsettled =
    go_on_by (ending_at form lines basis at (form.own ∷ form.rows basis) unsettled)
    (λ to found. ending_of_asks form lines later to found)

-- the cut of a whole report
abbrev pub cut_of_asks : {Basis Line Due : Type 0} → AnswerForm Basis Line Due → List Line
    → List Basis → CutBy Basis Due
cut_of_asks form lines asks = cut_of form lines (wanted_by_asks form 0 asks) 0 0

-- the items among pieces: not the rows of asks
abbrev pub items_among : {Basis Line Due : Type 0} → AnswerForm Basis Line Due
    → List (PieceBy Basis Due) → List (PieceBy Basis Due)
items_among form pieces = filter (λ piece. form.is_item piece.wanted.due) pieces

-- the first stop of a report: the first line that is no proof of any item, each judged for
-- itself, and where there is none, what the grammar alone comes to
abbrev pub first_stop_of : {Basis Line Due : Type 0} → AnswerForm Basis Line Due → List Line
    → CutBy Basis Due → Ending
first_stop_of form lines cut =
    first_stop (first_among (map (judged_alone form lines) (items_among form cut.pieces)))
    cut.ending
