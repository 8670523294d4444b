-- The first stop of a report is told: the row of an ask has no line that is no proof.
use Rattle.std.proofs.Common.{◌≡◌, ℕ, ◌+◌, Bool, true, false, List, [], ◌∷◌, ◌++◌, None, refl, sym}
use Rattle.std.proofs.Common.{if◌then◌else◌}
use Rattle.std.proofs.lemmas.Bool.{false≢true}
use Rattle.line_tokens.specs.declared.token.Token.{Token}
use Rattle.line_tokens.specs.declared.token.Token.TheVariants.{Blank, Row, Proof, Near, Unknown}
use Rattle.cert_check.specs.LineGrammars.{bad, go, by_next}
use Rattle.cert_check.specs.ExpectedItems.{Basis, Expected, ask_row, is_ask_row}
use Rattle.cert_check.specs.Machine.{with_unsettled, ending_of, report_grammar}
use Rattle.cert_check.specs.inside.Pieces.{unproved_in}
use Rattle.cert_check.proofs.PieceLemmas.{first_stop_of_asks}
use Rattle.par_check.specs.FirstStops.{reports, is_item_due, TheFirstStopIsTold}

by_row : (basis : Basis) (tokens : List Token) (is : Bool) (at unsettled : ℕ)
    → unproved_in (by_next (if is then go true [] else bad) at
    (λ more. ending_of basis tokens (more ++ []) (at + 1) unsettled)) ≡ None
by_row basis [] true at unsettled = refl
by_row basis (token ∷ tokens) true at unsettled = refl
by_row basis tokens false at unsettled = refl

pub ask_row_believed : (basis : Basis) (tokens : List Token) (at unsettled : ℕ)
    → unproved_in (ending_of basis tokens (ask_row ∷ []) at unsettled) ≡ None
unfolding report_grammar
ask_row_believed basis [] at unsettled = refl
ask_row_believed basis (Blank ∷ tokens) at unsettled =
    ask_row_believed basis tokens (at + 1) unsettled
ask_row_believed basis (Row fields ∷ tokens) at unsettled =
    by_row basis tokens (is_ask_row basis.epoch fields) at (with_unsettled unsettled (Row fields))
ask_row_believed basis (Proof it ∷ tokens) at unsettled = refl
ask_row_believed basis (Near rival fresh ∷ tokens) at unsettled = refl
ask_row_believed basis (Unknown ∷ tokens) at unsettled = refl

-- what is no item has no line that is no proof
others_believed : (basis : Basis) (due : Expected) → is_item_due due ≡ false
    → (tokens : List Token) (at : ℕ)
    → unproved_in (ending_of basis tokens (due ∷ []) at 0) ≡ None
others_believed basis ask_row is tokens at = ask_row_believed basis tokens at 0
others_believed basis _ is tokens at = absurd (false≢true (sym is))

-- the first stop of a report is where reading ask after ask stops
pub first_stop_told : TheFirstStopIsTold
first_stop_told tokens asks = first_stop_of_asks reports tokens others_believed asks
