-- The grammar of reports on cups reads line by line what its parts are, and so the laws.
use Rattle.std.proofs.Common.{◌≡◌, true, false, [], ◌∷◌, refl, sym}
use Rattle.std.proofs.lemmas.Bool.{false≢true}
use Rattle.cert_check.specs.LineGrammars.{go}
use Rattle.cup_sheet.specs.Cups.{AreSeasonsOf, IsCup}
use Rattle.cup_grammar.specs.declared.token.CupToken.{CupToken}
use Rattle.cup_grammar.specs.declared.token.CupToken.TheVariants.{Blank, Row, Proof, Unknown}
use Rattle.cup_grammar.specs.PlacedGroups.{CupBasis}
use Rattle.cup_grammar.specs.CupDues.{CupDue}
use Rattle.cup_grammar.specs.CupExpected.{after_in_cup}
use Rattle.cup_grammar.specs.CupReports.{cup_grammar, is_unsettled_club}
use Rattle.cup_grammar.specs.inside.CupRowTruths.{counts_in_cup}
use Rattle.cup_stops.specs.inside.CupCases.{cup_cases}
use Rattle.cup_stops.specs.inside.CupStops.{AcceptedCupCasesAreProved, AnswersAreDue}
use Rattle.cup_stops.specs.inside.CupStops.{BadCupLinesDoNotFit, ProvedCupCasesAreAccepted}
use Rattle.cup_stops.specs.inside.CupStops.{ShortCupReportsBegin, UnprovedCupLinesFit, can_be_met}
use Rattle.cup_stops.proofs.CupCaseLemmas.{join_case, part_case}
use Rattle.cup_stops.proofs.FilledGrammarLemmas.{ReadsMetParts}
use Rattle.cup_stops.proofs.KeptLineLemmas.{answer_met, line_keeps}
use Rattle.cup_stops.proofs.MetDueLemmas.{met_bad_line, met_no_proof, met_short}
use Rattle.cup_stops.proofs.MetWholeLemmas.{met_read, met_taken}
use Rattle.cup_stops.proofs.SomeCaseLemmas.{some_case}

-- a line that is passed over leaves what is due
passed_by : (basis : CupBasis) (due : CupDue) (token : CupToken) → counts_in_cup token ≡ false
    → after_in_cup basis due token ≡ go true (due ∷ [])
passed_by basis due Blank passed = refl
passed_by basis due (Row fields) passed = absurd (false≢true (sym passed))
passed_by basis due (Proof it) passed = absurd (false≢true (sym passed))
passed_by basis due Unknown passed = absurd (false≢true (sym passed))

-- it is no row
no_club_row : (token : CupToken) → counts_in_cup token ≡ false → is_unsettled_club token ≡ false
no_club_row Blank passed = refl
no_club_row (Row fields) passed = absurd (false≢true (sym passed))
no_club_row (Proof it) passed = refl
no_club_row Unknown passed = refl

reads_cases : (basis : CupBasis) → IsCup basis.cup → AreSeasonsOf basis.cup.groups basis.seasons
    → ReadsMetParts cup_cases basis (can_be_met basis)
unfolding cup_grammar
reads_cases basis is_cup each = record {
  joins = λ proved due token holds more tokens. join_case proved basis due token holds more tokens;
  starts = λ proved due tokens. part_case proved basis due tokens;
  some = some_case basis is_cup each;
  passed = passed_by basis;
  no_row = no_club_row;
  keeps = line_keeps basis;
  some_line = Unknown;
  counted = refl;
}

-- ---- the laws

pub bad_cup_lines : BadCupLinesDoNotFit
bad_cup_lines basis tokens dues at unsettled place due =
    met_bad_line cup_cases basis (can_be_met basis) (reads_cases basis due.is_cup due.each) tokens
    dues at unsettled place due.met

pub unproved_cup_lines : UnprovedCupLinesFit
unproved_cup_lines basis tokens dues at unsettled place due =
    met_no_proof cup_cases basis (can_be_met basis) (reads_cases basis due.is_cup due.each) tokens
    dues at unsettled place due.met

pub short_cup_reports : ShortCupReportsBegin
short_cup_reports basis tokens dues at unsettled due =
    met_short cup_cases basis (can_be_met basis) (reads_cases basis due.is_cup due.each) tokens dues
    at unsettled due.met

pub accepted_cases : AcceptedCupCasesAreProved
unfolding cup_grammar
accepted_cases basis tokens dues at unsettled to found due =
    met_taken cup_cases basis (can_be_met basis) (reads_cases basis due.is_cup due.each) tokens dues
    at unsettled to found due.met

pub proved_cases : ProvedCupCasesAreAccepted
unfolding cup_grammar
proved_cases basis taken rest dues at unsettled due =
    met_read cup_cases basis (can_be_met basis) (reads_cases basis due.is_cup due.each) taken rest
    dues at unsettled due.met

pub answers_due : AnswersAreDue
answers_due basis is_cup each = record { is_cup = is_cup; each = each; met = answer_met basis }
