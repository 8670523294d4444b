-- What a line of a report on a cup makes of the reading, by what is due there.
use Rattle.std.proofs.Common.{◌≡◌, ℕ, ◌+◌, Bool, true, false, List, [], ◌∷◌, ◌++◌, Result}
use Rattle.std.proofs.Common.{refl, sym, ap, drop, ◌∙◌}
use Rattle.std.proofs.lemmas.Bool.{false≢true}
use Rattle.cert_check.specs.declared.stop.CheckStopAt.{CheckStopAt}
use Rattle.cert_check.specs.ExpectedItems.{is_ask_row}
use Rattle.cert_check.specs.LineGrammars.{Next, go, by_next}
use Rattle.cert_check.proofs.NextLemmas.{go-if, bad-go}
use Rattle.cert_check.proofs.RowLemmas.{ask_row-says}
use Rattle.cert_check.proofs.GoesLemmas.{goes_along, goes_on_along, next_reads}
use Rattle.cup_grammar.specs.declared.token.CupToken.{CupToken}
use Rattle.cup_grammar.specs.declared.token.CupToken.TheVariants.{Blank, Row, Proof, Unknown}
use Rattle.cup_grammar.specs.PlacedGroups.{CupBasis}
use Rattle.cup_grammar.specs.CupDues.{CupDue, ask_row, club_row}
use Rattle.cup_grammar.specs.CupExpected.{after_in_cup}
use Rattle.cup_grammar.specs.CupReports.{cup_ending_of, cup_grammar}
use Rattle.cup_grammar.specs.inside.CupRowTruths.{counts_in_cup}
use Rattle.cup_check.specs.inside.CupGoes.{CupReportView, GoesInCup, IsNextInCup}
use Rattle.cup_check.specs.inside.CupGoes.{cup_ending_from, with_unsettled_club}
use Rattle.cup_check.specs.inside.CupSideCalls.{TakesNextInCup, next_ending_from}

-- a line of a report is read by what is due
pub line_reads : (judged : CupReportView) (at : ℕ) (token : CupToken)
    → drop at judged.tokens ≡ token ∷ drop (at + 1) judged.tokens
    → (due : CupDue) (dues : List CupDue) (unsettled : ℕ)
    → cup_ending_from judged at (due ∷ dues) unsettled
    ≡ by_next (after_in_cup judged.basis due token) at
    (λ more. cup_ending_from judged (at + 1) (more ++ dues) (with_unsettled_club unsettled token))
unfolding cup_grammar
line_reads judged at token there due dues unsettled =
    ap (λ lines. cup_ending_of judged.basis lines (due ∷ dues) at unsettled) there

-- a line that does not count is passed over
pub line_passes : (judged : CupReportView) (at : ℕ) (token : CupToken)
    → drop at judged.tokens ≡ token ∷ drop (at + 1) judged.tokens → counts_in_cup token ≡ false
    → (due : CupDue) (dues : List CupDue) (unsettled : ℕ)
    → cup_ending_from judged at (due ∷ dues) unsettled
    ≡ cup_ending_from judged (at + 1) (due ∷ dues) unsettled
line_passes judged at Blank there passed = line_reads judged at Blank there
line_passes judged at (Row fields) there passed = absurd (false≢true (sym passed))
line_passes judged at (Proof shown) there passed = absurd (false≢true (sym passed))
line_passes judged at Unknown there passed = absurd (false≢true (sym passed))

-- whether this is anything but the row of a club
abbrev pub is_quiet : CupDue → Bool
is_quiet (club_row club) = false
is_quiet _ = true

-- if another thing is due, a line that goes on is no row of an unsettled club
pub quiet : (basis : CupBasis) (due : CupDue) (token : CupToken) (holds : Bool) (more : List CupDue)
    → is_quiet due ≡ true → after_in_cup basis due token ≡ go holds more → (unsettled : ℕ)
    → with_unsettled_club unsettled token ≡ unsettled
quiet basis due Blank holds more is goes unsettled = refl
quiet basis due (Proof shown) holds more is goes unsettled = refl
quiet basis due Unknown holds more is goes unsettled = refl
quiet basis ask_row (Row fields) holds more is goes unsettled =
    let fits = go-if (is_ask_row basis.epoch fields) (go true []) holds more goes in
    ap (λ it. with_unsettled_club unsettled (Row it)) (ask_row-says basis.epoch fields fits.0)
quiet basis (club_row club) (Row fields) holds more is goes unsettled =
    absurd (false≢true is)
quiet basis _ (Row fields) holds more is goes unsettled = absurd (bad-go holds more goes)

-- ---- a proof line

-- a proof line is read with the same count
next_line : (judged : CupReportView) (from at : ℕ) (shown : _)
    → IsNextInCup judged from at (Proof shown)
    → (due : CupDue) (next : Next CupDue) → after_in_cup judged.basis due (Proof shown) ≡ next
    → (dues : List CupDue) (unsettled : ℕ)
    → cup_ending_from judged from (due ∷ dues) unsettled
    ≡ next_ending_from judged next at dues unsettled
next_line judged from at shown is due next after dues unsettled =
    is.reads due dues unsettled
    ∙ ap (λ it. by_next it at (λ rest. cup_ending_from judged (at + 1) (rest ++ dues) unsettled))
    after

-- a call that goes on behind a proof line reads what was due before it
pub taken_goes : (judged : CupReportView) (from at : ℕ) (shown : _)
    → IsNextInCup judged from at (Proof shown) → (due : CupDue) (next : Next CupDue)
    → after_in_cup judged.basis due (Proof shown) ≡ next → (result : Result ℕ CheckStopAt)
    → TakesNextInCup judged next at result → GoesInCup judged from due result
taken_goes judged from at shown is due next after result takes =
    goes_on_along cup_grammar judged (λ dues. cup_ending_from judged from (due ∷ dues))
    (next_ending_from judged next at) (next_line judged from at shown is due next after)
    result takes

-- a line behind which one thing is due in its place, and a call that reads it
pub goes_behind : (judged : CupReportView) (from at : ℕ) (token : CupToken)
    → IsNextInCup judged from at token → (due next : CupDue) → is_quiet due ≡ true
    → after_in_cup judged.basis due token ≡ go true (next ∷ []) → (result : Result ℕ CheckStopAt)
    → GoesInCup judged (at + 1) next result → GoesInCup judged from due result
goes_behind judged from at token is due next other goes result later =
    goes_along cup_grammar judged from (at + 1) due next result
    (next_reads cup_grammar judged from at token is due (next ∷ [])
    (quiet judged.basis due token true (next ∷ []) other goes) goes) later
