-- A report is read from place to place.
use Rattle.std.proofs.Common.{◌≡◌, ◌<◌, ◌≤◌, ℕ, ◌+◌, List, [], ◌∷◌, drop, length, Result, Ok, Err}
use Rattle.std.proofs.Common.{refl, sym, ap, subst, ◌∙◌, arith, append-nil, Bool, true, false}
use Rattle.std.proofs.Common.{◌++◌, take, zero, suc}
use Rattle.std.specs.List.{AllZip}
use Rattle.std.specs.Prelude.{All, get_or, nat_lt, if◌then◌else◌}
use Rattle.std.proofs.Math.ListN.{drop_of_length-le}
use Rattle.std.proofs.lemmas.Bool.{ltb-true, ltb-false}
use Rattle.std.proofs.lemmas.List.{drop_more, length-map}
use Rattle.league_core.specs.declared.sheet.Sheet.{Sheet}
use Rattle.line_tokens.specs.declared.token.Token.{Token}
use Rattle.cert_check.specs.declared.item.PartRead.{PartRead}
use Rattle.cert_check.specs.declared.stop.CheckStopAt.{CheckStopAt}
use Rattle.cert_check.specs.declared.stop.CheckStopAt.TheVariants as halt
use Rattle.kept_lines.specs.LineLists.{NumberedLine}
use Rattle.line_tokens.specs.Tokens.{tokens_of}
use Rattle.line_tokens.specs.Tokens.{token_of}
use Rattle.cert_check.specs.ExpectedItems.{Basis, Expected, ask_row, verdict_row}
use Rattle.cert_check.specs.LineGrammars.{Ending, whole_at, bad_line, no_proof, short}
use Rattle.cert_check.specs.Machine.{part_of_ask, report_grammar}
use Rattle.cert_check.specs.Machine.{basis_of, rows_of}
use Rattle.league_core.specs.game.Seasons.{season_after}
use Rattle.cert_check.specs.inside.Goes.{IsStopWithin, stop_by_number}
use Rattle.cert_check.specs.inside.Calls.{ReportView, ending_from, Goes, GoesOverAll, AllHalt}
use Rattle.cert_check.specs.inside.Calls.{GoesOverItem, Reaches}
use Rattle.cert_check.proofs.GoesLemmas.{ends_whole, reach_on, reach_halt, all_shown_ends}
use Rattle.par_check.specs.declared.asks.Asks.{Asks}
use Rattle.par_check.specs.declared.item_due.ItemRow.{ItemRow}
use Rattle.par_check.specs.declared.places.Place.{Place}
use Rattle.par_check.specs.declared.places.RunRead.{RunRead}
use Rattle.par_check.specs.declared.places.Whole.{Whole}
use Rattle.cert_check.specs.inside.Pieces.{go_on_by, ending_of_asks}
use Rattle.par_check.specs.FirstStops.{judged_by, reports}
use Rattle.par_check.specs.Cuts.{bases_in}
use Rattle.par_check.specs.Checked.{AnswersSo, StopsSo, ending_in}
use Rattle.par_check.specs.Places.{rest_of, rest_at, IsPlace, ReadsOn, place_before}
use Rattle.par_check.specs.Places.{GoesOverRows, ReadsToEnd, IsBehindAsk, ReadsWhole}
use Rattle.par_check.proofs.AskLemmas.{ask_first, report_of_ask}
use Rattle.cert_check.proofs.CountLemmas.{takes_lines}

-- ---- rows of an ask

-- the row of an ask alone
pub ask_row_alone : (judged : ReportView) (from next : ℕ) → Goes judged from ask_row (Ok next)
    → GoesOverAll judged from (ask_row ∷ []) (Ok (record { next = next; unsettled = 0 }))
ask_row_alone judged from next goes = (
  goes.0,
  λ dues unsettled. goes.1 dues unsettled
      ∙ ap (λ count. ending_from judged next dues count) (omega arith),
)

pub ask_row_stops : (judged : ReportView) (from : ℕ) (stop : CheckStopAt)
    → Goes judged from ask_row (Err stop) → GoesOverAll judged from (ask_row ∷ []) (Err stop)
ask_row_stops judged from stop halts = halts

-- the same at row 0
pub row_zero : (judged : ReportView) (from row : ℕ) (result : Result PartRead CheckStopAt)
    → row ≡ 0 → GoesOverAll judged from (ask_row ∷ []) result
    → GoesOverAll judged from (get_or (part_of_ask judged.basis.sheet) row ask_row ∷ []) result
row_zero judged from row result is goes =
    let P : ℕ → Type 0 = λ it.
    GoesOverAll judged from (get_or (part_of_ask judged.basis.sheet) it ask_row ∷ []) result in
    subst P (sym is) goes

-- a row behind it
pub row_more : (judged : ReportView) (from row before : ℕ) (about : ItemRow)
    (result : Result PartRead CheckStopAt) → row ≡ suc before
    → get_or (rows_of judged.basis.sheet) before ask_row ≡ verdict_row about.line about.club
    → GoesOverItem judged from about.line about.club result
    → GoesOverAll judged from (get_or (part_of_ask judged.basis.sheet) row ask_row ∷ []) result
row_more judged from row before about result is due goes =
    let P : ℕ → Type 0 = λ it.
    GoesOverAll judged from (get_or (part_of_ask judged.basis.sheet) it ask_row ∷ []) result in
    let Q : Expected → Type 0 = λ it. GoesOverAll judged from (it ∷ []) result in
    subst P (sym is) (subst Q (sym due) goes)

-- how far what is shown goes
pub goes_far : (judged : ReportView) (wanted : List Expected) (at : ℕ) (found : PartRead)
    → GoesOverAll judged at wanted (Ok found) → at + found.unsettled ≤ found.next
goes_far judged wanted at found goes =
    let taken = takes_lines report_grammar judged.basis (drop at judged.tokens) wanted at 0
    found.next
    found.unsettled (all_shown_ends report_grammar judged at wanted found goes) in
    omega (arith, taken.1)

-- the rows that are left, the next one first
rows_first : (sheet : Sheet) (row : ℕ) → row < length (part_of_ask sheet)
    → drop row (part_of_ask sheet)
    ≡ get_or (part_of_ask sheet) row ask_row ∷ drop (row + 1) (part_of_ask sheet)
rows_first sheet row within = drop_more (part_of_ask sheet) row ask_row within

-- one row more
pub row_on : (judged : ReportView) (row at from next count : ℕ) (found : PartRead)
    → at < length (part_of_ask judged.basis.sheet)
    → Reaches judged from (drop row (part_of_ask judged.basis.sheet)) next
    (drop at (part_of_ask judged.basis.sheet)) count
    → GoesOverAll judged next (get_or (part_of_ask judged.basis.sheet) at ask_row ∷ []) (Ok found)
    → Reaches judged from (drop row (part_of_ask judged.basis.sheet)) found.next
    (drop (at + 1) (part_of_ask judged.basis.sheet)) (count + found.unsettled)
row_on judged row at from next count found within reaches goes =
    let part = part_of_ask judged.basis.sheet in
    let P : List Expected → Type 0 = λ it. Reaches judged from (drop row part) next it count in
    reach_on report_grammar judged from next count (drop row part) (get_or part at ask_row ∷ [])
    (drop (at + 1) part) found (subst P (rows_first judged.basis.sheet at within) reaches) goes

-- the reading stops at a row
pub row_stops : (judged : ReportView) (row at from next count : ℕ) (stop : CheckStopAt)
    → at < length (part_of_ask judged.basis.sheet)
    → Reaches judged from (drop row (part_of_ask judged.basis.sheet)) next
    (drop at (part_of_ask judged.basis.sheet)) count
    → GoesOverAll judged next (get_or (part_of_ask judged.basis.sheet) at ask_row ∷ []) (Err stop)
    → AllHalt judged from (drop row (part_of_ask judged.basis.sheet)) stop
row_stops judged row at from next count stop within reaches halts =
    let part = part_of_ask judged.basis.sheet in
    let P : List Expected → Type 0 = λ it. Reaches judged from (drop row part) next it count in
    reach_halt report_grammar judged from next count (drop row part) (get_or part at ask_row ∷ [])
    (drop (at + 1) part) stop (subst P (rows_first judged.basis.sheet at within) reaches) halts

-- no row yet
pub rows_none : (judged : ReportView) (row from : ℕ)
    → Reaches judged from (drop row (part_of_ask judged.basis.sheet)) from
    (drop row (part_of_ask judged.basis.sheet)) 0
rows_none judged row from = λ dues before.
    ap (ending_from judged from (drop row (part_of_ask judged.basis.sheet) ++ dues)) (omega arith)

-- ---- places

-- what is left before the first row of the first ask that is left
rest_begins : (tokens : List Token) (at unsettled : ℕ) (bases : List Basis)
    → rest_of tokens 0 at unsettled bases ≡ ending_of_asks reports tokens bases at unsettled
rest_begins tokens at unsettled [] = refl
rest_begins tokens at unsettled (basis ∷ later) = refl

-- rows that are shown leave what is left behind them
rest_moves : (tokens : List Token) (basis : Basis) (later : List Basis)
    (row until from next count before : ℕ)
    → Reaches (judged_by tokens basis) from (drop row (part_of_ask basis.sheet)) next
    (drop until (part_of_ask basis.sheet)) count
    → rest_of tokens row from before (basis ∷ later)
    ≡ rest_of tokens until next (before + count) (basis ∷ later)
rest_moves tokens basis later row until from next count before reaches =
    let judged = judged_by tokens basis in
    let part = part_of_ask basis.sheet in
    let rest : ℕ → ℕ → Ending = λ to found. ending_of_asks reports tokens later to found in
    ap (λ it. go_on_by it rest)
    (ap (λ due. ending_from judged from due before) (sym (append-nil (drop row part)))
    ∙ reaches [] before
    ∙ ap (λ due. ending_from judged next due (before + count)) (append-nil (drop until part)))

-- behind the last row of an ask the next one is left
rest_over : (tokens : List Token) (basis : Basis) (later : List Basis) (row at unsettled : ℕ)
    → length (part_of_ask basis.sheet) ≤ row
    → rest_of tokens row at unsettled (basis ∷ later) ≡ rest_of tokens 0 at unsettled later
rest_over tokens basis later row at unsettled all =
    let judged = judged_by tokens basis in
    let rest : ℕ → ℕ → Ending = λ to found. ending_of_asks reports tokens later to found in
    ap (λ due. go_on_by (ending_from judged at due unsettled) rest)
    (drop_of_length-le (part_of_ask basis.sheet) all)
    ∙ ap (λ it. go_on_by it rest) (ends_whole report_grammar judged at unsettled)
    ∙ sym (rest_begins tokens at unsettled later)

-- a row of an ask that is there
abbrev pub row_of : ℕ → ℕ → ℕ → Place
row_of ask row next = record { ask = ask; row = row; next = next }

-- what is left there, by the ask
rest_there : (sheet : Sheet) (asks : Asks) (lines : List NumberedLine)
    (ask row next unsettled : ℕ) → ask < length asks.epochs.items
    → rest_at sheet asks lines (row_of ask row next) unsettled
    ≡ rest_of (tokens_of lines) row next unsettled
    ((report_of_ask sheet asks lines ask).basis ∷ drop (ask + 1) (bases_in sheet asks))
rest_there sheet asks lines ask row next unsettled within =
    ap (rest_of (tokens_of lines) row next unsettled) (ask_first sheet asks ask within)

-- the place before a row is where the reading of the rows before it ends
before_row : (sheet : Sheet) (asks : Asks) (lines : List NumberedLine)
    (ask row next unsettled : ℕ) → ask < length asks.epochs.items
    → rest_at sheet asks lines (row_of ask row next) unsettled
    ≡ rest_at sheet asks lines (place_before (length (part_of_ask sheet)) ask row next) unsettled
before_row sheet asks lines ask row next unsettled within =
    by_order (nat_lt row (length (part_of_ask sheet))) refl
  where
    rows : ℕ
    rows = length (part_of_ask sheet)

    by_order : (is : Bool) → nat_lt row rows ≡ is
        → rest_at sheet asks lines (row_of ask row next) unsettled
        ≡ rest_at sheet asks lines (place_before rows ask row next) unsettled
    by_order true order =
        ap (λ (it : Bool). rest_at sheet asks lines
        (if it then row_of ask row next else row_of (ask + 1) 0 next) unsettled) (sym order)
    by_order false order =
        rest_there sheet asks lines ask row next unsettled within
        ∙ rest_over (tokens_of lines) (report_of_ask sheet asks lines ask).basis
        (drop (ask + 1) (bases_in sheet asks)) row next unsettled (ltb-false row rows order)
        ∙ ap (λ (it : Bool). rest_at sheet asks lines
        (if it then row_of ask row next else row_of (ask + 1) 0 next) unsettled) (sym order)

-- it is a place
before_is_place : (sheet : Sheet) (asks : Asks) (lines : List NumberedLine) (ask row next : ℕ)
    → ask < length asks.epochs.items → next ≤ length lines
    → IsPlace sheet asks lines (place_before (length (part_of_ask sheet)) ask row next)
before_is_place sheet asks lines ask row next within room =
    by_order (nat_lt row (length (part_of_ask sheet))) refl
  where
    rows : ℕ
    rows = length (part_of_ask sheet)

    by_order : (is : Bool) → nat_lt row rows ≡ is
        → IsPlace sheet asks lines (place_before rows ask row next)
    by_order true order =
        subst (λ (it : Bool). IsPlace sheet asks lines
        (if it then row_of ask row next else row_of (ask + 1) 0 next)) (sym order)
        (record { ask = omega (arith, within); row = ltb-true row rows order; next = room })
    by_order false order =
        subst (λ (it : Bool). IsPlace sheet asks lines
        (if it then row_of ask row next else row_of (ask + 1) 0 next)) (sym order)
        (record { ask = omega (arith, within); row = omega arith; next = room })

before_next : (rows ask row next : ℕ) → (place_before rows ask row next).next ≡ next
before_next rows ask row next = by_order (nat_lt row rows)
  where
    by_order : (is : Bool)
        → (if is then row_of ask row next else row_of (ask + 1) 0 next).next ≡ next
    by_order true = refl
    by_order false = refl

-- the ask that it is in
pub behind_ask : (rows ask row next until : ℕ) (to : Place) → to ≡ place_before rows ask row next
    → (ask < until → row ≡ rows) → IsBehindAsk ask until to.ask
behind_ask rows ask row next until to is whole =
    subst (λ (it : Place). IsBehindAsk ask until it.ask) (sym is)
    (by_order (nat_lt row rows) refl)
  where
    by_order : (is : Bool) → nat_lt row rows ≡ is
        → IsBehindAsk ask until (place_before rows ask row next).ask
    by_order true order =
        subst (λ (it : Bool). IsBehindAsk ask until
        (if it then row_of ask row next else row_of (ask + 1) 0 next).ask) (sym order)
        (record {
          from = omega arith;
          near = omega arith;
          whole = λ less. absurd (omega (arith, whole less, ltb-true row rows order));
        })
    by_order false order =
        subst (λ (it : Bool). IsBehindAsk ask until
        (if it then row_of ask row next else row_of (ask + 1) 0 next).ask) (sym order)
        (record { from = omega arith; near = omega arith; whole = λ less. refl })

-- rows of an ask that were gone over
pub ask_read : (sheet : Sheet) (asks : Asks) (lines : List NumberedLine) (judged : ReportView)
    (at : Place) (until : ℕ) (found : PartRead) → at.ask < length asks.epochs.items
    → judged ≡ report_of_ask sheet asks lines at.ask
    → GoesOverRows judged at.row until at.next (Ok found)
    → ReadsOn sheet asks lines at (Ok (record {
      to = place_before (length (part_of_ask sheet)) at.ask until found.next;
      unsettled = found.unsettled;
    }))
ask_read sheet asks lines judged at until found within is goes =
    let P : ReportView → Type 0 = λ it. GoesOverRows it at.row until at.next (Ok found) in
    let here = subst P is goes in
    let shown = λ (it : NumberedLine). token_of it.text in
    let basis = (report_of_ask sheet asks lines at.ask).basis in
    let later = drop (at.ask + 1) (bases_in sheet asks) in
    let reaches = here.2 in (
      before_is_place sheet asks lines at.ask until found.next within
          (omega (arith, here.0, length-map lines shown)),
      omega (arith, here.1, before_next (length (part_of_ask sheet)) at.ask until found.next),
      λ before. rest_there sheet asks lines at.ask at.row at.next before within
          ∙ rest_moves (tokens_of lines) basis later at.row until at.next found.next
          found.unsettled before reaches
          ∙ sym (rest_there sheet asks lines at.ask until found.next (before + found.unsettled)
          within)
          ∙ before_row sheet asks lines at.ask until found.next (before + found.unsettled) within,
    )

-- the reading stops in an ask
rest_stops : (tokens : List Token) (basis : Basis) (later : List Basis) (row from before : ℕ)
    (ending : Ending) → (go_on_by ending (λ to found. ending_of_asks reports tokens later to found))
    ≡ ending
    → ((dues : List Expected) (unsettled : ℕ) → ending_from (judged_by tokens basis) from
    (drop row (part_of_ask basis.sheet) ++ dues) unsettled ≡ ending)
    → rest_of tokens row from before (basis ∷ later) ≡ ending
rest_stops tokens basis later row from before ending stays is =
    let judged = judged_by tokens basis in
    let rest : ℕ → ℕ → Ending = λ to found. ending_of_asks reports tokens later to found in
    ap (λ due. go_on_by (ending_from judged from due before) rest)
    (sym (append-nil (drop row (part_of_ask basis.sheet))))
    ∙ ap (λ it. go_on_by it rest) (is [] before) ∙ stays

pub ask_stops_at : (sheet : Sheet) (asks : Asks) (lines : List NumberedLine) (judged : ReportView)
    (at : Place) (until : ℕ) (stop : CheckStopAt) → at.ask < length asks.epochs.items
    → judged ≡ report_of_ask sheet asks lines at.ask
    → GoesOverRows judged at.row until at.next (Err stop)
    → ReadsOn sheet asks lines at (Err stop)
ask_stops_at sheet asks lines judged at until (halt.BadLine place) within is goes =
    let P : ReportView → Type 0 =
    λ it. GoesOverRows it at.row until at.next (Err (halt.BadLine place)) in
    let halts = subst P is goes in
    let shown = λ (it : NumberedLine). token_of it.text in
    let basis = (report_of_ask sheet asks lines at.ask).basis in
    λ before. (
      omega (arith, halts.0, length-map lines shown),
      rest_there sheet asks lines at.ask at.row at.next before within
          ∙ rest_stops (tokens_of lines) basis (drop (at.ask + 1) (bases_in sheet asks)) at.row
          at.next before (bad_line place) refl halts.1,
    )
ask_stops_at sheet asks lines judged at until (halt.NoProof place) within is goes =
    let P : ReportView → Type 0 =
    λ it. GoesOverRows it at.row until at.next (Err (halt.NoProof place)) in
    let halts = subst P is goes in
    let shown = λ (it : NumberedLine). token_of it.text in
    let basis = (report_of_ask sheet asks lines at.ask).basis in
    λ before. (
      omega (arith, halts.0, length-map lines shown),
      rest_there sheet asks lines at.ask at.row at.next before within
          ∙ rest_stops (tokens_of lines) basis (drop (at.ask + 1) (bases_in sheet asks)) at.row
          at.next before (no_proof place) refl halts.1,
    )
ask_stops_at sheet asks lines judged at until halt.Short within is goes =
    let P : ReportView → Type 0 =
    λ it. GoesOverRows it at.row until at.next (Err halt.Short) in
    let halts = subst P is goes in
    let basis = (report_of_ask sheet asks lines at.ask).basis in
    λ before. rest_there sheet asks lines at.ask at.row at.next before within
    ∙ rest_stops (tokens_of lines) basis (drop (at.ask + 1) (bases_in sheet asks)) at.row
    at.next before short refl halts
ask_stops_at sheet asks lines judged at until halt.OutOfMemory within is goes = λ before. tt

-- ---- one reading behind another

-- nothing is read yet
pub reads_none : (sheet : Sheet) (asks : Asks) (lines : List NumberedLine) (from : Place)
    → IsPlace sheet asks lines from
    → ReadsOn sheet asks lines from (Ok (record { to = from; unsettled = 0 }))
reads_none sheet asks lines from is = (
  is,
  omega arith,
  λ before. ap (rest_at sheet asks lines from) (omega arith),
)

-- what is read behind what was read
pub reads_then : (sheet : Sheet) (asks : Asks) (lines : List NumberedLine) (from : Place)
    (first second : RunRead) → ReadsOn sheet asks lines from (Ok first)
    → ReadsOn sheet asks lines first.to (Ok second)
    → ReadsOn sheet asks lines from (Ok (record {
      to = second.to;
      unsettled = first.unsettled + second.unsettled;
    }))
reads_then sheet asks lines from first second before more = (
  more.0,
  omega (arith, before.1, more.1),
  λ count. before.2 count ∙ more.2 (count + first.unsettled)
      ∙ ap (rest_at sheet asks lines second.to) (omega arith),
)

-- both together
pub reads_both : (sheet : Sheet) (asks : Asks) (lines : List NumberedLine) (from : Place)
    (first second both : RunRead)
    → both ≡ record { to = second.to; unsettled = first.unsettled + second.unsettled }
    → ReadsOn sheet asks lines from (Ok first) → ReadsOn sheet asks lines first.to (Ok second)
    → ReadsOn sheet asks lines from (Ok both)
reads_both sheet asks lines from first second both is before more =
    subst (λ (it : RunRead). ReadsOn sheet asks lines from (Ok it)) (sym is)
    (reads_then sheet asks lines from first second before more)

stops_by : (lines : ℕ) (stop : CheckStopAt) (here there : Ending) → here ≡ there
    → StopsSo lines there stop → StopsSo lines here stop
stops_by lines stop here there is stops =
    let P : Ending → Type 0 = λ it. StopsSo lines it stop in subst P (sym is) stops

-- the reading stops behind what was read
pub stops_then : (sheet : Sheet) (asks : Asks) (lines : List NumberedLine) (from : Place)
    (first : RunRead) (stop : CheckStopAt) → ReadsOn sheet asks lines from (Ok first)
    → ReadsOn sheet asks lines first.to (Err stop) → ReadsOn sheet asks lines from (Err stop)
stops_then sheet asks lines from first stop before more = λ count.
    stops_by (length lines) stop (rest_at sheet asks lines from count)
    (rest_at sheet asks lines first.to (count + first.unsettled)) (before.2 count)
    (more (count + first.unsettled))

-- ---- the whole

-- the begin of a report
abbrev pub begin_place : Place
begin_place = record { ask = 0; row = 0; next = 0 }

pub whole_begins : (sheet : Sheet) (asks : Asks) (lines : List NumberedLine)
    → ending_in sheet asks lines ≡ rest_at sheet asks lines begin_place 0
whole_begins sheet asks lines = sym (rest_begins (tokens_of lines) 0 0 (bases_in sheet asks))

bases_count : (sheet : Sheet) (asks : Asks)
    → length (bases_in sheet asks) ≡ length asks.epochs.items
bases_count sheet asks =
    let basis = λ (epoch : ℕ).
    basis_of asks.kind sheet (season_after sheet (take epoch asks.log.items)) epoch in
    length-map asks.epochs.items basis

-- behind the last ask nothing is left
pub whole_ends : (sheet : Sheet) (asks : Asks) (lines : List NumberedLine) (place : Place)
    (count : ℕ) → length asks.epochs.items ≤ place.ask
    → rest_at sheet asks lines place count ≡ whole_at place.next count
whole_ends sheet asks lines place count all =
    ap (rest_of (tokens_of lines) place.row place.next count)
    (drop_of_length-le (bases_in sheet asks) (omega (arith, all, bases_count sheet asks)))

pub comes_whole : (sheet : Sheet) (asks : Asks) (lines : List NumberedLine) (found : RunRead)
    → length asks.epochs.items ≤ found.to.ask
    → ReadsOn sheet asks lines begin_place (Ok found)
    → ReadsToEnd (length lines) (ending_in sheet asks lines)
    (Ok (record { next = found.to.next; unsettled = found.unsettled }))
comes_whole sheet asks lines found all reads = (
  reads.0.next,
  whole_begins sheet asks lines ∙ reads.2 0
      ∙ whole_ends sheet asks lines found.to (0 + found.unsettled) all
      ∙ ap (whole_at found.to.next) (omega arith),
)

pub comes_to_stop : (sheet : Sheet) (asks : Asks) (lines : List NumberedLine) (stop : CheckStopAt)
    → ReadsOn sheet asks lines begin_place (Err stop)
    → ReadsToEnd (length lines) (ending_in sheet asks lines) (Err stop)
comes_to_stop sheet asks lines stop reads =
    stops_by (length lines) stop (ending_in sheet asks lines)
    (rest_at sheet asks lines begin_place 0) (whole_begins sheet asks lines) (reads 0)

-- a stop names a line
pub stop_within : (lines : ℕ) (ending : Ending) (stop : CheckStopAt)
    → StopsSo lines ending stop → IsStopWithin lines stop
stop_within lines ending (halt.BadLine at) stops = stops.0
stop_within lines ending (halt.NoProof at) stops = stops.0
stop_within lines ending halt.Short stops = tt
stop_within lines ending halt.OutOfMemory stops = tt

-- what it comes to by the number of that line
pub stop_answers : (lines : List NumberedLine) (rows : ℕ) (ending : Ending) (stop : CheckStopAt)
    → StopsSo (length lines) ending stop
    → AnswersSo lines rows ending (Err (stop_by_number lines stop))
stop_answers lines rows ending (halt.BadLine at) stops = (at, stops.0, stops.1, refl)
stop_answers lines rows ending (halt.NoProof at) stops = (at, stops.0, stops.1, refl)
stop_answers lines rows ending halt.Short stops = stops
stop_answers lines rows ending halt.OutOfMemory stops = tt

-- what holds of each that came of an item holds of all that came
pub all_of_zip : {A B : Type 0} (P : B → Type 0) (items : List A) (made : List B)
    → AllZip (λ item it. P it) items made → All P made
all_of_zip P [] [] zip k d within = absurd (omega (arith, within))
all_of_zip P [] (it ∷ made) zip k d within = absurd zip
all_of_zip P (item ∷ items) [] zip k d within = absurd (omega (arith, within))
all_of_zip P (item ∷ items) (it ∷ made) zip zero d within = zip.0
all_of_zip P (item ∷ items) (it ∷ made) zip (suc k) d within =
    all_of_zip P items made zip.1 k d (omega (arith, within))

-- what was read from the same place, with the same result
pub reads_here : (whole : Whole) (from here : Place) (ending result : Result RunRead CheckStopAt)
    → from ≡ here → ending ≡ result → ReadsWhole whole from ending → ReadsWhole whole here result
reads_here whole from here ending result same is reads =
    subst (λ it. ReadsWhole whole here it) is (subst (λ it. ReadsWhole whole it ending) same reads)
