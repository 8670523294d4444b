-- What checking a whole report comes to: ask after ask, and by its first stop.
use Rattle.std.specs.Prelude.{◌≡◌, ◌<◌, ◌≤◌, ℕ, ◌*◌, length, List, Result, Ok, Err, Option, map}
use Rattle.league_core.specs.declared.sheet.Sheet.{Sheet}
use Rattle.cert_check.specs.declared.stop.Accepted.{Accepted}
use Rattle.cert_check.specs.declared.stop.CheckStop.{CheckStop}
use Rattle.cert_check.specs.declared.stop.CheckStop.TheVariants as stop
use Rattle.cert_check.specs.declared.stop.CheckStopAt.{CheckStopAt}
use Rattle.cert_check.specs.declared.stop.CheckStopAt.TheVariants as halt
use Rattle.kept_lines.specs.LineLists.{NumberedLine, line_number_at}
use Rattle.line_tokens.specs.Tokens.{tokens_of}
use Rattle.cert_check.specs.LineGrammars.{Ending, whole_at, bad_line, no_proof, short}
use Rattle.cert_check.specs.Machine.{rows_of}
use Rattle.cert_check.specs.Machine.{basis_of}
use Rattle.par_check.specs.declared.asks.Asks.{Asks}
use Rattle.par_check.specs.declared.asks.Item.{Item}
use Rattle.cert_check.specs.inside.Pieces.{ending_of_asks, first_among, first_stop, first_stop_of}
use Rattle.par_check.specs.FirstStops.{reports}
use Rattle.par_check.specs.Cuts.{bases_in, grammar_cut, season_at, unproved_of}

-- what the answers come to, read one after another
abbrev pub ending_in : Sheet → Asks → List NumberedLine → Ending
ending_in sheet asks lines = ending_of_asks reports (tokens_of lines) (bases_in sheet asks) 0 0

-- the first stop among the items, each judged for itself, and the grammar's
abbrev pub first_stop_in : Sheet → Asks → List NumberedLine → Ending
first_stop_in sheet asks lines =
    first_stop_of reports (tokens_of lines) (grammar_cut sheet asks lines)

-- the line of an item that is no proof, where it is judged for itself by the season of its ask
abbrev pub judged_of : Sheet → Asks → List NumberedLine → Item → Option ℕ
judged_of sheet asks lines item =
    unproved_of (tokens_of lines) (basis_of asks.kind sheet (season_at sheet asks item.ask) 0) item

-- the first stop of a report is the first line that is no proof of these items, each judged for
-- itself, else the grammar's
abbrev pub IsToldByItems : Sheet → Asks → List NumberedLine → List Item → Type 0
IsToldByItems sheet asks lines items =
    first_stop_in sheet asks lines
    ≡ first_stop (first_among (map (judged_of sheet asks lines) items))
    (grammar_cut sheet asks lines).ending

-- how many rows the answers have
abbrev pub rows_in : Sheet → Asks → ℕ
rows_in sheet asks = length asks.epochs.items * length (rows_of sheet)

-- a call that checks lines which come to this: they are accepted, with so many rows; or the stop
-- is told, by the number of its line; or memory runs out
abbrev pub AnswersSo : List NumberedLine → ℕ → Ending → Result Accepted CheckStop → Type 0
AnswersSo lines rows ending (Ok accepted) =
    (ending ≡ whole_at accepted.next accepted.unsettled) × (accepted.next ≤ length lines)
    × (accepted.rows ≡ rows)
AnswersSo lines rows ending (Err (stop.BadLine number)) =
    (at : ℕ) × (at < length lines) × (ending ≡ bad_line at)
    × (number ≡ line_number_at lines at)
AnswersSo lines rows ending (Err (stop.NoProof number)) =
    (at : ℕ) × (at < length lines) × (ending ≡ no_proof at)
    × (number ≡ line_number_at lines at)
AnswersSo lines rows ending (Err stop.Short) = ending ≡ short
AnswersSo lines rows ending (Err stop.OutOfMemory) = Unit {0}

-- lines come to this stop
abbrev pub StopsSo : ℕ → Ending → CheckStopAt → Type 0
StopsSo lines ending (halt.BadLine at) = (at < lines) × (ending ≡ bad_line at)
StopsSo lines ending (halt.NoProof at) = (at < lines) × (ending ≡ no_proof at)
StopsSo lines ending halt.Short = ending ≡ short
StopsSo lines ending halt.OutOfMemory = Unit {0}
