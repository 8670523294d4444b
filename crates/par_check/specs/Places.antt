-- What is left of a report at a place, and what calls promise that read on from there.
use Rattle.std.specs.Prelude.{◌≡◌, ◌<◌, ◌≤◌, ℕ, ◌+◌, List, [], ◌∷◌, drop, length, Result, Ok, Err}
use Rattle.std.specs.Prelude.{if◌then◌else◌, nat_lt, ◌^◌}
use Rattle.league_core.specs.declared.sheet.Sheet.{Sheet}
use Rattle.line_tokens.specs.declared.token.Token.{Token}
use Rattle.cert_check.specs.declared.item.PartRead.{PartRead}
use Rattle.cert_check.specs.declared.stop.CheckStopAt.{CheckStopAt}
use Rattle.kept_lines.specs.LineLists.{NumberedLine}
use Rattle.line_tokens.specs.Tokens.{tokens_of}
use Rattle.cert_check.specs.ExpectedItems.{Basis}
use Rattle.cert_check.specs.LineGrammars.{Ending, whole_at}
use Rattle.cert_check.specs.Machine.{part_of_ask}
use Rattle.cert_check.specs.inside.Calls.{ReportView, ending_from, AllHalt, Reaches}
use Rattle.par_check.specs.declared.asks.Asks.{Asks}
use Rattle.par_check.specs.declared.places.Place.{Place}
use Rattle.par_check.specs.declared.places.RunRead.{RunRead}
use Rattle.par_check.specs.declared.places.Whole.{Whole}
use Rattle.cert_check.specs.inside.Pieces.{go_on_by, ending_of_asks}
use Rattle.par_check.specs.FirstStops.{judged_by, reports}
use Rattle.par_check.specs.Cuts.{AreAsks, bases_in}
use Rattle.par_check.specs.Checked.{StopsSo}

-- what the lines from a position on come to, where these asks are left and so many rows of the
-- first of them are read, its own row first
abbrev pub rest_of : List Token → ℕ → ℕ → ℕ → List Basis → Ending
rest_of tokens row at unsettled [] = whole_at at unsettled
rest_of tokens row at unsettled (basis ∷ later) =
    go_on_by
    (ending_from (judged_by tokens basis) at (drop row (part_of_ask basis.sheet)) unsettled)
    (λ to found. ending_of_asks reports tokens later to found)

-- the same at a place of a report
abbrev pub rest_at : Sheet → Asks → List NumberedLine → Place → ℕ → Ending
rest_at sheet asks lines place unsettled =
    rest_of (tokens_of lines) place.row place.next unsettled (drop place.ask (bases_in sheet asks))

-- a place of a report: the end of it is the first row behind the last ask
pub record IsPlace (sheet : Sheet) (asks : Asks) (lines : List NumberedLine) (place : Place)
    : Type 0 where
  pub ask : place.ask ≤ length asks.epochs.items
  pub row : place.row < length (part_of_ask sheet)
  pub next : place.next ≤ length lines

-- a report with what it is judged by
pub record IsWholeReport (whole : Whole) : Type 0 where
  pub asks : AreAsks whole.sheet.now whole.asks.now
  pub few : length whole.lines.now < 2 ^ 32

-- the place before a row of an ask with so many, or before the next ask if that was its last
abbrev pub place_before : ℕ → ℕ → ℕ → ℕ → Place
place_before rows ask row next =
    if nat_lt row rows then record { ask = ask; row = row; next = next }
    else record { ask = ask + 1; row = 0; next = next }

-- the ask that is reached from one: it, or the next, and the next before this other one
pub record IsBehindAsk (ask until reached : ℕ) : Type 0 where
  pub from : ask ≤ reached
  pub near : reached ≤ ask + 1
  pub whole : ask < until → reached ≡ ask + 1

-- a stop of the reading from a place
abbrev pub StopsFrom : Sheet → Asks → List NumberedLine → Place → CheckStopAt → Type 0
StopsFrom sheet asks lines from stop =
    (before : ℕ) → StopsSo (length lines) (rest_at sheet asks lines from before) stop

-- a call that reads on from a place: what was left there is left where it ends, with so many
-- unsettled rows in between; or the reading stops
abbrev pub ReadsOn : Sheet → Asks → List NumberedLine → Place → Result RunRead CheckStopAt → Type 0
ReadsOn sheet asks lines from (Ok found) =
    IsPlace sheet asks lines found.to
    × (from.next + found.unsettled ≤ found.to.next)
    × ((before : ℕ) → rest_at sheet asks lines from before
    ≡ rest_at sheet asks lines found.to (before + found.unsettled))
ReadsOn sheet asks lines from (Err stop) = StopsFrom sheet asks lines from stop

-- the same of a report that is judged
abbrev pub ReadsWhole : Whole → Place → Result RunRead CheckStopAt → Type 0
ReadsWhole whole from result =
    ReadsOn whole.sheet.now whole.asks.now whole.lines.now from result

-- the rows of an ask from one up to before another are shown, with so many unsettled among them
abbrev pub GoesOverRows : ReportView → ℕ → ℕ → ℕ → Result PartRead CheckStopAt → Type 0
GoesOverRows judged row until from (Ok found) =
    (found.next ≤ length judged.tokens) × (from + found.unsettled ≤ found.next)
    × Reaches judged from (drop row (part_of_ask judged.basis.sheet)) found.next
    (drop until (part_of_ask judged.basis.sheet)) found.unsettled
GoesOverRows judged row until from (Err stop) =
    AllHalt judged from (drop row (part_of_ask judged.basis.sheet)) stop

-- a report is read to its end, or the reading stops
abbrev pub ReadsToEnd : ℕ → Ending → Result PartRead CheckStopAt → Type 0
ReadsToEnd lines ending (Ok found) =
    (found.next ≤ lines) × (ending ≡ whole_at found.next found.unsettled)
ReadsToEnd lines ending (Err stop) = StopsSo lines ending stop

-- a place of a report that is judged
abbrev pub IsIn : Whole → Place → Type 0
IsIn whole place = IsPlace whole.sheet.now whole.asks.now whole.lines.now place
