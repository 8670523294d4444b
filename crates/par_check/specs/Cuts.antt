-- The asks of a feed as a checker takes them, what a report is cut into, and what the calls that
-- cut it promise.
use Rattle.std.specs.Prelude.{◌≡◌, ◌<◌, ◌≤◌, ℕ, zero, suc, ◌+◌, ◌^◌, Bool, true, false, List, []}
use Rattle.std.specs.Prelude.{◌∷◌, ◌++◌, length, map, take}
use Rattle.std.specs.Prelude.{get_or, All, Option, None, Some, Result, Ok, Err}
use Rattle.league_core.specs.declared.sheet.Sheet.{Sheet}
use Rattle.league_core.specs.declared.season.Event.{Event}
use Rattle.league_core.specs.game.Sheets.{IsWithinLimits}
use Rattle.league_core.specs.game.Results.{Results}
use Rattle.league_core.specs.game.Seasons.{AreEventsOf, season_after}
use Rattle.line_tokens.specs.declared.token.Token.{Token}
use Rattle.cert_check.specs.declared.expected.ReportKind.{ReportKind}
use Rattle.cert_check.specs.declared.item.PartRead.{PartRead}
use Rattle.cert_check.specs.declared.stop.CheckStop.{CheckStop}
use Rattle.cert_check.specs.declared.stop.CheckStop.TheVariants as stop
use Rattle.cert_check.specs.declared.stop.CheckStopAt.{CheckStopAt}
use Rattle.cert_check.specs.declared.stop.CheckStopAt.TheVariants as halt
use Rattle.kept_lines.specs.LineLists.{NumberedLine, line_number_at}
use Rattle.line_tokens.specs.Tokens.{tokens_of}
use Rattle.cert_check.specs.ExpectedItems.{Basis, ask_row}
use Rattle.cert_check.specs.LineGrammars.{Ending, whole_at, bad_line, no_proof, short}
use Rattle.cert_check.specs.Machine.{basis_of, rows_of}
use Rattle.cert_check.specs.inside.Calls.{ending_from}
use Rattle.par_check.specs.declared.asks.Asks.{Asks}
use Rattle.par_check.specs.declared.asks.Item.{Item}
use Rattle.par_check.specs.declared.asks.Cut.{Cut}
use Rattle.cert_check.specs.inside.Pieces.{cut_of, cut_of_asks, items_among, judged_alone}
use Rattle.cert_check.specs.inside.Pieces.{unproved_in}
use Rattle.par_check.specs.FirstStops.{GrammarCut, ReportPiece, WantedPiece, reports}
use Rattle.par_check.specs.FirstStops.{judged_by}

-- ---- asks

-- what each ask is judged by in a report of this kind: its epoch, and the season of the events
-- before it
abbrev pub bases_of : ReportKind → Sheet → List Event → List ℕ → List Basis
bases_of kind sheet log epochs =
    map (λ epoch. basis_of kind sheet (season_after sheet (take epoch log)) epoch) epochs

-- the same of asks
abbrev pub bases_in : Sheet → Asks → List Basis
bases_in sheet asks = bases_of asks.kind sheet asks.log.items asks.epochs.items

-- asks that a checker takes: events of the sheet; epochs within them, none less than the one
-- before; numbers of 32 bits
pub record AreAsks (sheet : Sheet) (asks : Asks) : Type 0 where
  pub limits : IsWithinLimits sheet
  pub events : AreEventsOf sheet asks.log.items
  pub within : (at : ℕ) → at < length asks.epochs.items
      → get_or asks.epochs.items at 0 ≤ length asks.log.items
  pub in_order : (at : ℕ) → at + 1 < length asks.epochs.items
      → get_or asks.epochs.items at 0 ≤ get_or asks.epochs.items (at + 1) 0
  pub few : length asks.epochs.items < 2 ^ 32

-- the season of the ask at a position
abbrev pub season_at : Sheet → Asks → ℕ → Results
season_at sheet asks ask =
    season_after sheet (take (get_or asks.epochs.items ask 0) asks.log.items)

-- the epoch of the ask before it, or 0
abbrev pub epoch_before : Asks → ℕ → ℕ
epoch_before asks zero = 0
epoch_before asks (suc ask) = get_or asks.epochs.items ask 0

-- the season of that epoch
abbrev pub season_before : Sheet → Asks → ℕ → Results
season_before sheet asks ask =
    season_after sheet (take (epoch_before asks ask) asks.log.items)

-- ---- items

-- a piece of the grammar's as an item
abbrev pub item_of : ReportPiece → Item
item_of piece = record {
  ask = piece.wanted.ask;
  question_row = piece.wanted.row;
  from = piece.from;
  until = piece.until;
}

-- the items of pieces
abbrev pub items_of : List ReportPiece → List Item
items_of pieces = map item_of (items_among reports pieces)

-- the stop that an ending is, with the line's number
abbrev pub stop_of : List NumberedLine → Ending → Option CheckStop
stop_of lines (whole_at at unsettled) = None
stop_of lines (bad_line at) = Some (stop.BadLine (line_number_at lines at))
stop_of lines (no_proof at) = Some (stop.NoProof (line_number_at lines at))
stop_of lines short = Some stop.Short

-- what the grammar alone cuts a report into
abbrev pub grammar_cut : Sheet → Asks → List NumberedLine → GrammarCut
grammar_cut sheet asks lines = cut_of_asks reports (tokens_of lines) (bases_in sheet asks)

-- the items of a report by the grammar alone, and its first stop
pub record IsReportCut (sheet : Sheet) (asks : Asks) (lines : List NumberedLine)
    (cut : Cut) : Type 0
  where
    pub items : cut.items.items ≡ items_of (grammar_cut sheet asks lines).pieces
    pub stop : cut.stop ≡ stop_of lines (grammar_cut sheet asks lines).ending

-- an item within lines, of one of so many asks, about a row of the sheet's answers
pub record IsItemIn (sheet : Sheet) (asks lines : ℕ) (item : Item) : Type 0 where
  pub ask : item.ask < asks
  pub row : item.question_row < length (rows_of sheet)
  pub from : item.from ≤ lines

-- the line of an item that is no proof, by the item alone and what its ask is judged by
abbrev pub unproved_of : List Token → Basis → Item → Option ℕ
unproved_of tokens basis item =
    unproved_in (ending_from (judged_by tokens basis) item.from
    (get_or (rows_of basis.sheet) item.question_row ask_row ∷ []) 0)

-- ---- the calls that cut

-- items that were within lines still are, and so are those that were added to them
abbrev pub KeepsItems : Sheet → ℕ → ℕ → List Item → List Item → Type 0
KeepsItems sheet lines ask old new =
    (asks : ℕ) → ask < asks → All (IsItemIn sheet asks lines) old
    → All (IsItemIn sheet asks lines) new

-- the row at a position of an ask's answer, as it is wanted
abbrev pub row_wanted : Basis → ℕ → ℕ → WantedPiece
row_wanted basis ask row = record {
  basis = basis;
  due = get_or (rows_of basis.sheet) row ask_row;
  ask = ask;
  row = row;
}

-- the position after the last line of an item that was gone over so
abbrev pub end_outlined : ℕ → Result PartRead CheckStopAt → ℕ
end_outlined lines (Ok found) = found.next
end_outlined lines (Err (halt.BadLine at)) = at
end_outlined lines (Err (halt.NoProof at)) = at
end_outlined lines (Err halt.Short) = lines
end_outlined lines (Err halt.OutOfMemory) = lines

-- the items of an ask are judged so
abbrev pub JudgesAsk : List Token → Basis → ℕ → (Item → Option ℕ) → Type 0
JudgesAsk tokens basis ask judge =
    (item : Item) → item.ask ≡ ask → judge item ≡ unproved_of tokens basis item

-- a cut with these pieces before it
abbrev pub with_pieces : List ReportPiece → GrammarCut → GrammarCut
with_pieces pieces cut = record { pieces = pieces ++ cut.pieces; ending = cut.ending }

-- a whole cut of which these items are known, and this is wanted yet from a position on
pub record IsCutSoFar (tokens : List Token) (judge : Item → Option ℕ) (whole : GrammarCut)
    (items : List Item) (left : List WantedPiece) (at unsettled : ℕ) : Type 0 where
  pub pieces : List ReportPiece
  pub known : items ≡ items_of pieces
  pub judged : map judge items ≡ map (judged_alone reports tokens) (items_among reports pieces)
  pub rest : whole ≡ with_pieces pieces (cut_of reports tokens left at unsettled)

-- a whole cut of which all items are known, and what the grammar comes to
pub record IsCutAt (tokens : List Token) (judge : Item → Option ℕ) (whole : GrammarCut)
    (items : List Item) (ending : Ending) : Type 0 where
  pub known : items ≡ items_of whole.pieces
  pub judged : map judge items
      ≡ map (judged_alone reports tokens) (items_among reports whole.pieces)
  pub comes : whole.ending ≡ ending

-- a call that cuts so much of an ask's answer from a position on, and adds its items
abbrev pub CutsOver : List Token → Basis → ℕ → List WantedPiece → ℕ → List Item → List Item
    → Result PartRead CheckStopAt → Type 0
CutsOver tokens basis ask wanted from old new (Ok found) =
    (from + found.unsettled ≤ found.next) × (found.next ≤ length tokens)
    × ((judge : Item → Option ℕ) (whole : GrammarCut) (later : List WantedPiece) (before : ℕ)
    → JudgesAsk tokens basis ask judge
    → IsCutSoFar tokens judge whole old (wanted ++ later) from before
    → IsCutSoFar tokens judge whole new later found.next (before + found.unsettled))
CutsOver tokens basis ask wanted from old new (Err (halt.BadLine at)) =
    (at < length tokens)
    × ((judge : Item → Option ℕ) (whole : GrammarCut) (later : List WantedPiece) (before : ℕ)
    → JudgesAsk tokens basis ask judge
    → IsCutSoFar tokens judge whole old (wanted ++ later) from before
    → IsCutAt tokens judge whole new (bad_line at))
CutsOver tokens basis ask wanted from old new (Err (halt.NoProof at)) = ⊥
CutsOver tokens basis ask wanted from old new (Err halt.Short) =
    (judge : Item → Option ℕ) (whole : GrammarCut) (later : List WantedPiece) (before : ℕ)
    → JudgesAsk tokens basis ask judge
    → IsCutSoFar tokens judge whole old (wanted ++ later) from before
    → IsCutAt tokens judge whole new short
CutsOver tokens basis ask wanted from old new (Err halt.OutOfMemory) = Unit {0}

-- a stop that says something of the lines
abbrev pub is_of_lines : CheckStopAt → Bool
is_of_lines (halt.BadLine at) = true
is_of_lines (halt.NoProof at) = true
is_of_lines halt.Short = true
is_of_lines halt.OutOfMemory = false

-- the ending of a cut is told so
abbrev pub EndsSo : ℕ → Ending → Result PartRead CheckStopAt → Type 0
EndsSo lines ending (Ok found) =
    (found.unsettled ≤ found.next) × (found.next ≤ lines)
    × (ending ≡ whole_at found.next found.unsettled)
EndsSo lines ending (Err (halt.BadLine at)) = (at < lines) × (ending ≡ bad_line at)
EndsSo lines ending (Err (halt.NoProof at)) = ⊥
EndsSo lines ending (Err halt.Short) = ending ≡ short
EndsSo lines ending (Err halt.OutOfMemory) = ⊥

-- what the ask at a position is judged by
abbrev pub basis_at : Sheet → Asks → ℕ → Basis
basis_at sheet asks ask =
    basis_of asks.kind sheet (season_at sheet asks ask) (get_or asks.epochs.items ask 0)

-- the line of an item that is no proof, by the asks
abbrev pub unproved_by : Sheet → Asks → List Token → Item → Option ℕ
unproved_by sheet asks tokens item = unproved_of tokens (basis_at sheet asks item.ask) item

-- a call that cuts a whole report
pub record IsCutRead (sheet : Sheet) (asks : Asks) (lines : List NumberedLine) (items : List Item)
    (ending : Result PartRead CheckStopAt) : Type 0 where
  pub known : items ≡ items_of (grammar_cut sheet asks lines).pieces
  pub judged : map (unproved_by sheet asks (tokens_of lines)) items
      ≡ map (judged_alone reports (tokens_of lines))
      (items_among reports (grammar_cut sheet asks lines).pieces)
  pub comes : EndsSo (length lines) (grammar_cut sheet asks lines).ending ending
  pub within : All (IsItemIn sheet (length asks.epochs.items) (length lines)) items
