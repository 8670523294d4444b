-- The asks among the entries of a feed, and what a report comes to by them.
use Rattle.std.specs.Prelude.{◌≡◌, ◌<◌, ◌≤◌, ℕ, ◌+◌, List, [], ◌∷◌, ◌++◌, length, drop, get_or}
use Rattle.league_core.specs.declared.sheet.Sheet.{Sheet}
use Rattle.league_core.specs.game.Results.{Results}
use Rattle.league_core.specs.declared.season.Event.{Event}
use Rattle.league_core.specs.game.Seasons.{AreEventsOf, event_applied, season_after}
use Rattle.result_log.specs.declared.entry.Entry.{Entry}
use Rattle.result_log.specs.declared.entry.Entry.TheVariants.{Change, Ask, Proofs, End}
use Rattle.cert_check.specs.declared.expected.ReportKind.{ReportKind}
use Rattle.kept_lines.specs.LineLists.{line_number_at}
use Rattle.cert_check.specs.ExpectedItems.{Basis}
use Rattle.cert_check.specs.LineGrammars.{Ending, whole_at, bad_line, no_proof, short}
use Rattle.cert_check.specs.Machine.{basis_of}
use Rattle.cert_check.specs.declared.outcome.CheckOutcome.{CheckOutcome}
use Rattle.cert_check.specs.declared.outcome.CheckOutcome.TheVariants.{Refused}
use Rattle.cert_check.specs.declared.outcome.ReportFault.TheVariants.{BadLine, NoProof, Short}
use Rattle.cert_check.specs.inside.InputCalls.{IsEntryOf}
use Rattle.par_check.specs.Cuts.{bases_of}
use Rattle.cert_check.specs.Outcomes.{ReportInput, ReportProgressView, outcome_at_end}
use Rattle.cert_check.specs.declared.stop.Accepted.{Accepted}

-- what each ask among entries is judged by in a report of this kind, from a season and a number of
-- events on
abbrev pub bases_from : ReportKind → Sheet → Results → ℕ → List Entry → List Basis
bases_from kind sheet season epoch [] = []
bases_from kind sheet season epoch (Change event ∷ entries) =
    bases_from kind sheet (event_applied season event) (epoch + 1) entries
bases_from kind sheet season epoch (Ask ∷ entries) =
    basis_of kind sheet season epoch ∷ bases_from kind sheet season epoch entries
bases_from kind sheet season epoch (Proofs ∷ entries) = bases_from kind sheet season epoch entries
bases_from kind sheet season epoch (End ∷ entries) = bases_from kind sheet season epoch entries

-- how far a report is read whose answers were accepted so
abbrev pub standing_at_end : Accepted → ReportProgressView
standing_at_end accepted = record {
  season = record { scores = []; deductions = [] };
  epoch = 0;
  at = accepted.next;
  rows = accepted.rows;
  unsettled = accepted.unsettled;
}

-- what a report comes to whose answers have so many rows and come to this
abbrev pub outcome_of_ending : ReportInput → ℕ → Ending → CheckOutcome
outcome_of_ending report rows (whole_at next unsettled) =
    outcome_at_end (standing_at_end (record { next = next; rows = rows; unsettled = unsettled }))
    (drop next report.lines)
outcome_of_ending report rows (bad_line at) = Refused (line_number_at report.lines at) BadLine
outcome_of_ending report rows (no_proof at) = Refused (line_number_at report.lines at) NoProof
outcome_of_ending report rows short = Refused report.end Short

-- how far the asks of entries are taken
pub record AreAsksSoFar (sheet : Sheet) (entries : List Entry) (at : ℕ) (log : List Event)
    (epochs : List ℕ) : Type 0 where
  pub events : AreEventsOf sheet log
  pub far : (k : ℕ) → k < length epochs → get_or epochs k 0 ≤ length log
  pub in_order : (k : ℕ) → k + 1 < length epochs → get_or epochs k 0 ≤ get_or epochs (k + 1) 0
  pub log_count : length log ≤ at
  pub ask_count : length epochs ≤ at
  pub bases : (kind : ReportKind) → bases_of kind sheet log epochs
      ++ bases_from kind sheet (season_after sheet log) (length log) (drop at entries)
      ≡ bases_from kind sheet (season_after sheet []) 0 entries

-- a call that takes one entry: the asks are those of one entry more
abbrev pub TakesEntry : Entry → List Event → List ℕ → List Event → List ℕ → Type 0
TakesEntry entry log epochs new_log new_epochs =
    (sheet : Sheet) (entries : List Entry) (at : ℕ) → AreAsksSoFar sheet entries at log epochs
    → drop at entries ≡ entry ∷ drop (at + 1) entries → IsEntryOf sheet entry
    → AreAsksSoFar sheet entries (at + 1) new_log new_epochs
