-- A cut grows piece by piece.
use Rattle.std.proofs.Common.{◌≡◌, ◌<◌, ◌≤◌, ℕ, ◌+◌, List, [], ◌∷◌, ◌++◌, map}
use Rattle.std.proofs.Common.{drop, length, get_or, Option, Result, Ok, Err, refl, sym}
use Rattle.std.proofs.Common.{ap}
use Rattle.std.proofs.Common.{subst, ◌∙◌, arith, append_assoc, append-nil}
use Rattle.std.proofs.Common.{if◌then◌else◌}
use Rattle.std.specs.Prelude.{is_some}
use Rattle.std.proofs.Math.ListN.{drop_of_length-le}
use Rattle.std.proofs.lemmas.Bool.{false≢true}
use Rattle.std.proofs.lemmas.List.{map-append, drop_more}
use Rattle.std.proofs.lemmas.List.Elements.{filter-append}
use Rattle.line_tokens.specs.declared.token.Token.{Token}
use Rattle.cert_check.specs.declared.item.PartRead.{PartRead}
use Rattle.cert_check.specs.declared.stop.CheckStopAt.{CheckStopAt}
use Rattle.cert_check.specs.declared.stop.CheckStopAt.TheVariants as halt
use Rattle.cert_check.specs.LineGrammars.{Ending, whole_at, bad_line}
use Rattle.cert_check.specs.LineGrammars.{short}
use Rattle.cert_check.specs.ExpectedItems.{Basis, Expected, ask_row, verdict_row}
use Rattle.cert_check.specs.Machine.{rows_of, report_grammar}
use Rattle.cert_check.specs.inside.Calls.{ReportView, ending_from, Goes}
use Rattle.cert_check.proofs.GoesLemmas.{ends_whole}
use Rattle.par_check.specs.declared.asks.Item.{Item}
use Rattle.par_check.specs.declared.item_due.ItemRow.{ItemRow}
use Rattle.cert_check.specs.inside.Pieces.{grammar_of_piece, unproved_in, end_by}
use Rattle.cert_check.specs.inside.Pieces.{last_piece, cut_behind, cut_of, judged_alone}
use Rattle.cert_check.specs.inside.Pieces.{rows_wanted, wanted_by_ask, items_among}
use Rattle.par_check.specs.FirstStops.{grammar_from, reports}
use Rattle.par_check.specs.FirstStops.{WantedPiece, ReportPiece, GrammarCut}
use Rattle.par_check.specs.FirstStops.{is_item_due}
use Rattle.par_check.specs.Outlines.{OutlinesItem}
use Rattle.par_check.specs.Cuts.{item_of, items_of, with_pieces, IsCutSoFar, IsCutAt, CutsOver}
use Rattle.par_check.specs.Cuts.{JudgesAsk, row_wanted, end_outlined}
use Rattle.cert_check.proofs.MachineLemmas.{grammar_where_proved}
use Rattle.cert_check.proofs.CountLemmas.{takes_lines}
use Rattle.par_check.proofs.StopLemmas.{ask_row_believed}

-- ---- pieces

-- items of pieces, one more
items_push : (pieces : List ReportPiece) (piece : ReportPiece)
    → items_among reports (pieces ++ piece ∷ [])
    ≡ items_among reports pieces ++ items_among reports (piece ∷ [])
items_push pieces piece =
    filter-append (λ (it : ReportPiece). is_item_due it.wanted.due) pieces (piece ∷ [])

-- a piece that was cut: what it adds to the items, each judged for itself
pub record Adds (tokens : List Token) (judge : Item → Option ℕ) (piece : ReportPiece)
    (old new : List Item) : Type 0 where
  pub known : new ≡ old ++ items_of (piece ∷ [])
  pub judged : map judge (items_of (piece ∷ []))
      ≡ map (judged_alone reports tokens) (items_among reports (piece ∷ []))

adds_known : (pieces : List ReportPiece) (piece : ReportPiece) (old new : List Item)
    → old ≡ items_of pieces → new ≡ old ++ items_of (piece ∷ [])
    → new ≡ items_of (pieces ++ piece ∷ [])
adds_known pieces piece old new before more =
    more ∙ ap (λ it. it ++ items_of (piece ∷ [])) before
    ∙ sym (map-append item_of (items_among reports pieces) (items_among reports (piece ∷ [])))
    ∙ ap (map item_of) (sym (items_push pieces piece))

adds_judged : (tokens : List Token) (judge : Item → Option ℕ) (pieces : List ReportPiece)
    (piece : ReportPiece) (old new : List Item) → Adds tokens judge piece old new
    → map judge old ≡ map (judged_alone reports tokens) (items_among reports pieces)
    → map judge new ≡ map (judged_alone reports tokens) (items_among reports (pieces ++ piece ∷ []))
adds_judged tokens judge pieces piece old new adds before =
    ap (map judge) adds.known ∙ map-append judge old (items_of (piece ∷ []))
    ∙ ap (λ it. it ++ map judge (items_of (piece ∷ []))) before
    ∙ ap (λ it. map (judged_alone reports tokens) (items_among reports pieces) ++ it) adds.judged
    ∙ sym (map-append (judged_alone reports tokens) (items_among reports pieces)
    (items_among reports (piece ∷ [])))
    ∙ ap (map (judged_alone reports tokens)) (sym (items_push pieces piece))

-- the piece that is cut where this is wanted, and the grammar comes to this
abbrev pub piece_by : List Token → WantedPiece → ℕ → Ending → ReportPiece
piece_by tokens wanted at ending =
    record { wanted = wanted; from = at; until = end_by tokens ending }

cut_by : (tokens : List Token) (wanted : WantedPiece) (later : List WantedPiece) (at before : ℕ)
    (ending : Ending) → grammar_of_piece reports tokens wanted at before ≡ ending
    → cut_of reports tokens (wanted ∷ later) at before
    ≡ cut_behind (piece_by tokens wanted at ending) ending (cut_of reports tokens later)
cut_by tokens wanted later at before ending is =
    ap (λ it. cut_behind (piece_by tokens wanted at it) it (cut_of reports tokens later)) is

-- the grammar is through with a piece
pub piece_through : (tokens : List Token) (judge : Item → Option ℕ) (whole : GrammarCut)
    (old new : List Item) (wanted : WantedPiece) (later : List WantedPiece)
    (at before next count : ℕ)
    → grammar_of_piece reports tokens wanted at before ≡ whole_at next count
    → Adds tokens judge (piece_by tokens wanted at (whole_at next count)) old new
    → IsCutSoFar tokens judge whole old (wanted ∷ later) at before
    → IsCutSoFar tokens judge whole new later next count
piece_through tokens judge whole old new wanted later at before next count is adds far =
    let piece = piece_by tokens wanted at (whole_at next count) in
    let rest = cut_of reports tokens later next count in
    record {
      pieces = far.pieces ++ piece ∷ [];
      known = adds_known far.pieces piece old new far.known adds.known;
      judged = adds_judged tokens judge far.pieces piece old new adds far.judged;
      rest = far.rest ∙ ap (with_pieces far.pieces)
          (cut_by tokens wanted later at before (whole_at next count) is)
          ∙ ap (λ it. record { pieces = it; ending = rest.ending })
          (sym (append_assoc far.pieces (piece ∷ []) rest.pieces));
    }

-- the grammar stops at a piece
pub piece_stops : (tokens : List Token) (judge : Item → Option ℕ) (whole : GrammarCut)
    (old new : List Item) (wanted : WantedPiece) (later : List WantedPiece) (at before : ℕ)
    (ending : Ending) → grammar_of_piece reports tokens wanted at before ≡ ending
    → cut_behind (piece_by tokens wanted at ending) ending (cut_of reports tokens later)
    ≡ last_piece (piece_by tokens wanted at ending) ending
    → Adds tokens judge (piece_by tokens wanted at ending) old new
    → IsCutSoFar tokens judge whole old (wanted ∷ later) at before
    → IsCutAt tokens judge whole new ending
piece_stops tokens judge whole old new wanted later at before ending is last adds far =
    let piece = piece_by tokens wanted at ending in
    let made : GrammarCut = record { pieces = far.pieces ++ piece ∷ []; ending = ending } in
    let same : whole ≡ made =
    far.rest ∙ ap (with_pieces far.pieces)
    (cut_by tokens wanted later at before ending is ∙ last) in
    record {
      known = adds_known far.pieces piece old new far.known adds.known
          ∙ ap (λ (it : GrammarCut). items_of it.pieces) (sym same);
      judged = adds_judged tokens judge far.pieces piece old new adds far.judged
          ∙ ap (λ (it : GrammarCut). map (judged_alone reports tokens)
          (items_among reports it.pieces)) (sym same);
      comes = ap (λ (it : GrammarCut). it.ending) same;
    }

-- ---- a row

-- a row adds its item
row_adds : (judged : ReportView) (ask row from until : ℕ) (about : ItemRow)
    (judge : Item → Option ℕ) (old new : List Item)
    → get_or (rows_of judged.basis.sheet) row ask_row ≡ verdict_row about.line about.club
    → new ≡ old ++ record { ask = ask; question_row = row; from = from; until = until } ∷ []
    → JudgesAsk judged.tokens judged.basis ask judge
    → Adds judged.tokens judge
    (record { wanted = row_wanted judged.basis ask row; from = from; until = until }) old new
row_adds judged ask row from until about judge old new due more agrees =
    let piece : ReportPiece =
    record { wanted = row_wanted judged.basis ask row; from = from; until = until } in
    let one : items_among reports (piece ∷ []) ≡ piece ∷ [] =
    ap (λ it. if is_item_due it then piece ∷ [] else []) due in
    record {
      known = more ∙ ap (λ it. old ++ map item_of it) (sym one);
      judged = ap (λ it. map judge (map item_of it)) one
          ∙ ap (λ it. it ∷ []) (agrees (item_of piece) refl)
          ∙ ap (map (judged_alone reports judged.tokens)) (sym one);
    }

-- a row that was gone over by the grammar is cut
pub row_cuts : (judged : ReportView) (ask row from : ℕ) (about : ItemRow)
    (result : Result PartRead CheckStopAt) (old new : List Item)
    → get_or (rows_of judged.basis.sheet) row ask_row ≡ verdict_row about.line about.club
    → OutlinesItem judged about from result
    → new ≡ old ++ record {
      ask = ask;
      question_row = row;
      from = from;
      until = end_outlined (length judged.tokens) result;
    } ∷ []
    → CutsOver judged.tokens judged.basis ask (row_wanted judged.basis ask row ∷ []) from old new
    result
row_cuts judged ask row from about (Ok found) old new due outlined more = (
  outlined.0,
  outlined.1,
  λ judge whole later before agrees far.
      piece_through judged.tokens judge whole old new (row_wanted judged.basis ask row) later from
      before found.next (before + found.unsettled)
      (ap (λ it. grammar_from judged from (it ∷ []) before) due ∙ outlined.2 before)
      (row_adds judged ask row from found.next about judge old new due more agrees) far,
)
row_cuts judged ask row from about (Err (halt.BadLine at)) old new due outlined more = (
  outlined.0,
  λ judge whole later before agrees far.
      piece_stops judged.tokens judge whole old new (row_wanted judged.basis ask row) later from
      before (bad_line at)
      (ap (λ it. grammar_from judged from (it ∷ []) before) due ∙ outlined.1 before) refl
      (row_adds judged ask row from at about judge old new due more agrees) far,
)
row_cuts judged ask row from about (Err (halt.NoProof at)) old new due outlined more = outlined
row_cuts judged ask row from about (Err halt.Short) old new due outlined more =
    λ judge whole later before agrees far.
    piece_stops judged.tokens judge whole old new (row_wanted judged.basis ask row) later from
    before short
    (ap (λ it. grammar_from judged from (it ∷ []) before) due ∙ outlined before) refl
    (row_adds judged ask row from (length judged.tokens) about judge old new due more agrees) far
row_cuts judged ask row from about (Err halt.OutOfMemory) old new due outlined more = tt

-- ---- the rows of an answer

-- the rows up to one are cut
abbrev pub RowsCut : ReportView → ℕ → ℕ → List Item → List Item → ℕ → ℕ → ℕ → Type 0
RowsCut judged ask from old new row at count =
    (judge : Item → Option ℕ) (whole : GrammarCut) (later : List WantedPiece) (before : ℕ)
    → JudgesAsk judged.tokens judged.basis ask judge
    → IsCutSoFar judged.tokens judge whole old
    (rows_wanted judged.basis ask 0 (rows_of judged.basis.sheet) ++ later) from before
    → IsCutSoFar judged.tokens judge whole new
    (rows_wanted judged.basis ask row (drop row (rows_of judged.basis.sheet)) ++ later) at
    (before + count)

pub rows_begin : (judged : ReportView) (ask from : ℕ) (old : List Item)
    → RowsCut judged ask from old old 0 from 0
rows_begin judged ask from old judge whole later before agrees far =
    let wanted = rows_wanted judged.basis ask 0 (rows_of judged.basis.sheet) ++ later in
    let P : ℕ → Type 0 = λ it. IsCutSoFar judged.tokens judge whole old wanted from it in
    subst P (omega arith) far

-- the next row is the first of those that are left
row_first : (basis : Basis) (ask row : ℕ) (later : List WantedPiece) → row < length (rows_of
    basis.sheet)
    → rows_wanted basis ask row (drop row (rows_of basis.sheet)) ++ later
    ≡ row_wanted basis ask row
    ∷ (rows_wanted basis ask (row + 1) (drop (row + 1) (rows_of basis.sheet)) ++ later)
row_first basis ask row later within =
    ap (λ it. rows_wanted basis ask row it ++ later)
    (drop_more (rows_of basis.sheet) row ask_row within)

pub rows_on : (judged : ReportView) (ask from row at count : ℕ) (old new newer : List Item)
    (found : PartRead) → row < length (rows_of judged.basis.sheet)
    → RowsCut judged ask from old new row at count
    → CutsOver judged.tokens judged.basis ask (row_wanted judged.basis ask row ∷ []) at new newer
    (Ok found)
    → RowsCut judged ask from old newer (row + 1) found.next (count + found.unsettled)
rows_on judged ask from row at count old new newer found within cut goes =
    λ judge whole later before agrees far.
    let basis = judged.basis in
    let left = rows_wanted basis ask (row + 1) (drop (row + 1) (rows_of basis.sheet)) ++ later in
    let P : List WantedPiece → Type 0 =
    λ it. IsCutSoFar judged.tokens judge whole new it at (before + count) in
    let Q : ℕ → Type 0 =
    λ it. IsCutSoFar judged.tokens judge whole newer left found.next it in
    subst Q (omega arith) (goes.2 judge whole left (before + count) agrees
    (subst P (row_first basis ask row later within) (cut judge whole later before agrees far)))

pub rows_stop : (judged : ReportView) (ask from row at count : ℕ) (old new newer : List Item)
    (stop : CheckStopAt) → row < length (rows_of judged.basis.sheet)
    → RowsCut judged ask from old new row at count
    → CutsOver judged.tokens judged.basis ask (row_wanted judged.basis ask row ∷ []) at new newer
    (Err stop)
    → CutsOver judged.tokens judged.basis ask
    (rows_wanted judged.basis ask 0 (rows_of judged.basis.sheet)) from old newer (Err stop)
rows_stop judged ask from row at count old new newer (halt.BadLine place) within cut goes = (
  goes.0,
  λ judge whole later before agrees far.
      let basis = judged.basis in
      let left = rows_wanted basis ask (row + 1) (drop (row + 1) (rows_of basis.sheet)) ++ later in
      let P : List WantedPiece → Type 0 =
      λ it. IsCutSoFar judged.tokens judge whole new it at (before + count) in
      goes.1 judge whole left (before + count) agrees
      (subst P (row_first basis ask row later within) (cut judge whole later before agrees far)),
)
rows_stop judged ask from row at count old new newer (halt.NoProof place) within cut goes = goes
rows_stop judged ask from row at count old new newer halt.Short within cut goes =
    λ judge whole later before agrees far.
    let basis = judged.basis in
    let left = rows_wanted basis ask (row + 1) (drop (row + 1) (rows_of basis.sheet)) ++ later in
    let P : List WantedPiece → Type 0 =
    λ it. IsCutSoFar judged.tokens judge whole new it at (before + count) in
    goes judge whole left (before + count) agrees
    (subst P (row_first basis ask row later within) (cut judge whole later before agrees far))
rows_stop judged ask from row at count old new newer halt.OutOfMemory within cut goes = tt

pub rows_end : (judged : ReportView) (ask from row : ℕ) (old new : List Item) (found : PartRead)
    → length (rows_of judged.basis.sheet) ≤ row → from + found.unsettled ≤ found.next
    → found.next ≤ length judged.tokens
    → RowsCut judged ask from old new row found.next found.unsettled
    → CutsOver judged.tokens judged.basis ask
    (rows_wanted judged.basis ask 0 (rows_of judged.basis.sheet)) from old new (Ok found)
rows_end judged ask from row old new found all far within cut = (
  far,
  within,
  λ judge whole later before agrees start.
      let P : List Expected → Type 0 = λ it. IsCutSoFar judged.tokens judge whole new
      (rows_wanted judged.basis ask row it ++ later) found.next (before + found.unsettled) in
      subst P (drop_of_length-le (rows_of judged.basis.sheet) all)
      (cut judge whole later before agrees start),
)

-- ---- an answer

-- the row of an ask as it is wanted
abbrev pub ask_wanted : Basis → ℕ → WantedPiece
ask_wanted basis ask = record { basis = basis; due = ask_row; ask = ask; row = 0 }

-- the row of an ask is what the reading says of it
ask_grammar : (judged : ReportView) (from before : ℕ) (ending : Ending)
    → ending_from judged from (ask_row ∷ []) before ≡ ending
    → grammar_from judged from (ask_row ∷ []) before ≡ ending
ask_grammar judged from before ending is =
    grammar_where_proved report_grammar judged.basis (drop from judged.tokens) (ask_row ∷ [])
    from before
    (ask_row_believed judged.basis (drop from judged.tokens) from before) ∙ is

ask_adds : (judged : ReportView) (ask from until : ℕ) (judge : Item → Option ℕ) (old : List Item)
    → Adds judged.tokens judge
    (record { wanted = ask_wanted judged.basis ask; from = from; until = until }) old old
ask_adds judged ask from until judge old =
    record { known = sym (append-nil old); judged = refl }

-- the row of an ask is there
pub ask_through : (judged : ReportView) (ask from behind : ℕ) (old new : List Item)
    (result : Result PartRead CheckStopAt) → from ≤ length judged.tokens
    → Goes judged from ask_row (Ok behind)
    → CutsOver judged.tokens judged.basis ask
    (rows_wanted judged.basis ask 0 (rows_of judged.basis.sheet)) behind old new result
    → CutsOver judged.tokens judged.basis ask (wanted_by_ask reports judged.basis ask) from old new
    result
ask_through judged ask from behind old new result room goes cut =
    by_result result cut
  where
    on : (judge : Item → Option ℕ) (whole : GrammarCut) (later : List WantedPiece) (before : ℕ)
        → IsCutSoFar judged.tokens judge whole old
        (wanted_by_ask reports judged.basis ask ++ later) from
        before
        → IsCutSoFar judged.tokens judge whole old
        (rows_wanted judged.basis ask 0 (rows_of judged.basis.sheet) ++ later) behind before
    on judge whole later before far =
        piece_through judged.tokens judge whole old old (ask_wanted judged.basis ask)
        (rows_wanted judged.basis ask 0 (rows_of judged.basis.sheet) ++ later) from before behind
        before
        (ask_grammar judged from before (whole_at behind before)
        (goes.1 [] before ∙ ends_whole report_grammar judged behind before))
        (ask_adds judged ask from behind judge old) far

    behind_row : from ≤ behind
    behind_row =
        let taken = takes_lines report_grammar judged.basis (drop from judged.tokens)
        (ask_row ∷ []) from 0 behind 0 (goes.1 [] 0 ∙ ends_whole report_grammar judged behind 0) in
        omega (arith, taken.0)

    by_result : (result : Result PartRead CheckStopAt)
        → CutsOver judged.tokens judged.basis ask
        (rows_wanted judged.basis ask 0 (rows_of judged.basis.sheet)) behind old new result
        → CutsOver judged.tokens judged.basis ask (wanted_by_ask reports judged.basis ask) from old
        new
        result
    by_result (Ok found) cut = (
      omega (arith, cut.0, behind_row),
      cut.1,
      λ judge whole later before agrees far.
          cut.2 judge whole later before agrees (on judge whole later before far),
    )
    by_result (Err (halt.BadLine at)) cut = (
      cut.0,
      λ judge whole later before agrees far.
          cut.1 judge whole later before agrees (on judge whole later before far),
    )
    by_result (Err (halt.NoProof at)) cut = cut
    by_result (Err halt.Short) cut = λ judge whole later before agrees far.
        cut judge whole later before agrees (on judge whole later before far)
    by_result (Err halt.OutOfMemory) cut = tt

-- the reading stops at the row of an ask
pub ask_stops : (judged : ReportView) (ask from : ℕ) (old : List Item) (stop : CheckStopAt)
    → Goes judged from ask_row (Err stop)
    → CutsOver judged.tokens judged.basis ask (wanted_by_ask reports judged.basis ask) from old old
    (Err stop)
ask_stops judged ask from old (halt.BadLine at) halts = (
  halts.0,
  λ judge whole later before agrees far.
      piece_stops judged.tokens judge whole old old (ask_wanted judged.basis ask)
      (rows_wanted judged.basis ask 0 (rows_of judged.basis.sheet) ++ later) from before
      (bad_line at) (ask_grammar judged from before (bad_line at) (halts.1 [] before)) refl
      (ask_adds judged ask from at judge old) far,
)
ask_stops judged ask from old (halt.NoProof at) halts =
    let proved = ask_row_believed judged.basis (drop from judged.tokens) from 0 in
    false≢true (sym (ap is_some (sym (ap unproved_in (halts.1 [] 0)) ∙ proved)))
ask_stops judged ask from old halt.Short halts = λ judge whole later before agrees far.
    piece_stops judged.tokens judge whole old old (ask_wanted judged.basis ask)
    (rows_wanted judged.basis ask 0 (rows_of judged.basis.sheet) ++ later) from before short
    (ask_grammar judged from before short (halts [] before)) refl
    (ask_adds judged ask from (length judged.tokens) judge old) far
ask_stops judged ask from old halt.OutOfMemory halts = tt
