-- A report is cut ask after ask.
use Rattle.std.proofs.Common.{◌≡◌, ◌<◌, ◌≤◌, ℕ, zero, suc, ◌+◌, List, [], ◌∷◌, ◌++◌, map, drop}
use Rattle.std.proofs.Common.{length, get_or}
use Rattle.std.proofs.Common.{Ok, Err, IsTrue, ap, sym, subst, refl, ◌∙◌, arith, append-nil, take}
use Rattle.std.specs.Prelude.{All, IfOk, Result}
use Rattle.std.proofs.Math.ListN.{drop_of_length-le}
use Rattle.std.proofs.lemmas.Bool.{false≢true}
use Rattle.std.proofs.lemmas.List.{drop_more, get_or-map, length-map}
use Rattle.league_core.specs.declared.sheet.Sheet.{Sheet}
use Rattle.league_core.specs.game.Results.{Results}
use Rattle.league_core.specs.game.Seasons.{season_after}
use Rattle.line_tokens.specs.declared.token.Token.{Token}
use Rattle.cert_check.specs.declared.item.PartRead.{PartRead}
use Rattle.cert_check.specs.declared.stop.CheckStopAt.{CheckStopAt}
use Rattle.cert_check.specs.declared.stop.CheckStopAt.TheVariants as halt
use Rattle.kept_lines.specs.LineLists.{NumberedLine}
use Rattle.line_tokens.specs.Tokens.{tokens_of}
use Rattle.line_tokens.specs.Tokens.{token_of}
use Rattle.cert_check.specs.ExpectedItems.{Basis}
use Rattle.cert_check.specs.LineGrammars.{whole_at}
use Rattle.cert_check.specs.Machine.{basis_of}
use Rattle.cert_check.specs.inside.Calls.{ReportView}
use Rattle.league_core.specs.declared.memory.OutOfMemory.{OutOfMemory}
use Rattle.par_check.specs.declared.cutting.CutRead.{CutRead}
use Rattle.par_check.specs.declared.asks.Asks.{Asks}
use Rattle.par_check.specs.declared.asks.Item.{Item}
use Rattle.cert_check.specs.inside.Pieces.{items_among, judged_alone, cut_of, wanted_by_ask}
use Rattle.cert_check.specs.inside.Pieces.{wanted_by_asks}
use Rattle.par_check.specs.FirstStops.{GrammarCut, reports}
use Rattle.par_check.specs.Cuts.{bases_in, basis_at, unproved_by, unproved_of, grammar_cut}
use Rattle.par_check.specs.Cuts.{items_of}
use Rattle.par_check.specs.Cuts.{IsItemIn, IsCutSoFar, IsCutRead, CutsOver, JudgesAsk}
use Rattle.par_check.specs.Cuts.{AreAsks, epoch_before, is_of_lines, season_at}
use Rattle.par_check.specs.Cuts.{season_before}
use Rattle.par_check.specs.Cuts.{with_pieces}

-- the asks before one are cut
abbrev pub AsksCut : Sheet → Asks → List NumberedLine → List Item → ℕ → ℕ → ℕ → Type 0
AsksCut sheet asks lines items ask at count =
    IsCutSoFar (tokens_of lines) (unproved_by sheet asks (tokens_of lines))
    (grammar_cut sheet asks lines) items
    (wanted_by_asks reports ask (drop ask (bases_in sheet asks))) at
    count

pub asks_begin : (sheet : Sheet) (asks : Asks) (lines : List NumberedLine) (items : List Item)
    → items ≡ [] → AsksCut sheet asks lines items 0 0 0
asks_begin sheet asks lines items none =
    record {
      pieces = [];
      known = none;
      judged = ap (map (unproved_by sheet asks (tokens_of lines))) none;
      rest = refl;
    }

-- the next ask is the first of those that are left
pub ask_first : (sheet : Sheet) (asks : Asks) (ask : ℕ) → ask < length asks.epochs.items
    → drop ask (bases_in sheet asks)
    ≡ basis_at sheet asks ask ∷ drop (ask + 1) (bases_in sheet asks)
ask_first sheet asks ask within =
    let basis = λ (epoch : ℕ).
    basis_of asks.kind sheet (season_after sheet (take epoch asks.log.items)) epoch in
    drop_more (bases_in sheet asks) ask (basis_at sheet asks ask)
    (omega (arith, within, length-map asks.epochs.items basis))
    ∙ ap (λ it. it ∷ drop (ask + 1) (bases_in sheet asks))
    (get_or-map basis asks.epochs.items ask 0 (basis_at sheet asks ask) within)

-- each item is judged by its own ask
agrees_at : (sheet : Sheet) (asks : Asks) (tokens : List Token) (ask : ℕ)
    → JudgesAsk tokens (basis_at sheet asks ask) ask (unproved_by sheet asks tokens)
agrees_at sheet asks tokens ask item same =
    ap (λ it. unproved_of tokens (basis_at sheet asks it) item) same

-- the report on the season of an ask
abbrev pub report_of_ask : Sheet → Asks → List NumberedLine → ℕ → ReportView
report_of_ask sheet asks lines ask =
    record { basis = basis_at sheet asks ask; tokens = tokens_of lines }

started : (sheet : Sheet) (asks : Asks) (lines : List NumberedLine) (ask at count : ℕ)
    (old : List Item) → ask < length asks.epochs.items
    → AsksCut sheet asks lines old ask at count
    → IsCutSoFar (tokens_of lines) (unproved_by sheet asks (tokens_of lines))
    (grammar_cut sheet asks lines) old
    (wanted_by_ask reports (basis_at sheet asks ask) ask
    ++ wanted_by_asks reports (ask + 1) (drop (ask + 1) (bases_in sheet asks))) at count
started sheet asks lines ask at count old within cut =
    let P : List Basis → Type 0 = λ it. IsCutSoFar (tokens_of lines)
    (unproved_by sheet asks (tokens_of lines)) (grammar_cut sheet asks lines) old
    (wanted_by_asks reports ask it) at count in
    subst P (ask_first sheet asks ask within) cut

-- a report on the season of an ask
pub report_is : (sheet : Sheet) (asks : Asks) (lines : List NumberedLine) (ask epoch : ℕ)
    (season : Results) (judged : ReportView)
    → judged ≡ record { basis = basis_of asks.kind sheet season epoch; tokens = tokens_of lines }
    → season ≡ season_at sheet asks ask → epoch ≡ get_or asks.epochs.items ask 0
    → judged ≡ report_of_ask sheet asks lines ask
report_is sheet asks lines ask epoch season judged is at number =
    is ∙ ap (λ it. record { basis = basis_of asks.kind sheet it epoch; tokens = tokens_of lines })
    at
    ∙ ap (λ it. record {
      basis = basis_of asks.kind sheet (season_at sheet asks ask) it;
      tokens = tokens_of lines;
    }) number

-- one ask more
pub asks_on : (sheet : Sheet) (asks : Asks) (lines : List NumberedLine) (judged : ReportView)
    (ask at count : ℕ) (old new : List Item) (found : PartRead)
    → ask < length asks.epochs.items → judged ≡ report_of_ask sheet asks lines ask
    → AsksCut sheet asks lines old ask at count
    → CutsOver judged.tokens judged.basis ask (wanted_by_ask reports judged.basis ask) at old new
    (Ok found)
    → AsksCut sheet asks lines new (ask + 1) found.next (count + found.unsettled)
asks_on sheet asks lines judged ask at count old new found within is cut goes =
    let P : ReportView → Type 0 = λ it.
    CutsOver it.tokens it.basis ask (wanted_by_ask reports it.basis ask) at old new (Ok found) in
    (subst P is goes).2 (unproved_by sheet asks (tokens_of lines)) (grammar_cut sheet asks lines)
    (wanted_by_asks reports (ask + 1) (drop (ask + 1) (bases_in sheet asks))) count
    (agrees_at sheet asks (tokens_of lines) ask)
    (started sheet asks lines ask at count old within cut)

-- the grammar stops in the answer to an ask
pub asks_stop : (sheet : Sheet) (asks : Asks) (lines : List NumberedLine) (judged : ReportView)
    (ask at count : ℕ) (old new : List Item) (stop : CheckStopAt)
    → IsTrue (is_of_lines stop)
    → ask < length asks.epochs.items → judged ≡ report_of_ask sheet asks lines ask
    → AsksCut sheet asks lines old ask at count
    → CutsOver judged.tokens judged.basis ask (wanted_by_ask reports judged.basis ask) at old new
    (Err stop)
    → All (IsItemIn sheet (length asks.epochs.items) (length lines)) new
    → IsCutRead sheet asks lines new (Err stop)
asks_stop sheet asks lines judged ask at count old new (halt.BadLine place) other within is cut goes
    items =
    let P : ReportView → Type 0 = λ it. CutsOver it.tokens it.basis ask
    (wanted_by_ask reports it.basis ask) at old new (Err (halt.BadLine place)) in
    let halts = subst P is goes in
    let ends = halts.1 (unproved_by sheet asks (tokens_of lines)) (grammar_cut sheet asks lines)
    (wanted_by_asks reports (ask + 1) (drop (ask + 1) (bases_in sheet asks))) count
    (agrees_at sheet asks (tokens_of lines) ask)
    (started sheet asks lines ask at count old within cut) in
    let shown = λ (it : NumberedLine). token_of it.text in
    record {
      known = ends.known;
      judged = ends.judged;
      comes = (omega (arith, halts.0, length-map lines shown), ends.comes);
      within = items;
    }
asks_stop sheet asks lines judged ask at count old new (halt.NoProof place) other within is cut goes
    items = absurd goes
asks_stop sheet asks lines judged ask at count old new halt.Short other within is cut goes items =
    let P : ReportView → Type 0 = λ it. CutsOver it.tokens it.basis ask
    (wanted_by_ask reports it.basis ask) at old new (Err halt.Short) in
    let ends = subst P is goes (unproved_by sheet asks (tokens_of lines))
    (grammar_cut sheet asks lines)
    (wanted_by_asks reports (ask + 1) (drop (ask + 1) (bases_in sheet asks))) count
    (agrees_at sheet asks (tokens_of lines) ask)
    (started sheet asks lines ask at count old within cut) in
    record { known = ends.known; judged = ends.judged; comes = ends.comes; within = items }
asks_stop sheet asks lines judged ask at count old new halt.OutOfMemory other within is cut goes
    items = absurd (false≢true other)

-- all asks are cut
pub asks_end : (sheet : Sheet) (asks : Asks) (lines : List NumberedLine) (ask : ℕ)
    (items : List Item) (found : PartRead) → length asks.epochs.items ≤ ask
    → found.unsettled ≤ found.next → found.next ≤ length lines
    → AsksCut sheet asks lines items ask found.next found.unsettled
    → All (IsItemIn sheet (length asks.epochs.items) (length lines)) items
    → IsCutRead sheet asks lines items (Ok found)
asks_end sheet asks lines ask items found all few room cut within =
    let basis = λ (epoch : ℕ).
    basis_of asks.kind sheet (season_after sheet (take epoch asks.log.items)) epoch in
    let none : drop ask (bases_in sheet asks) ≡ [] = drop_of_length-le (bases_in sheet asks)
    (omega (arith, all, length-map asks.epochs.items basis)) in
    let whole = grammar_cut sheet asks lines in
    let is : whole ≡ record { pieces = cut.pieces; ending = whole_at found.next found.unsettled } =
    cut.rest
    ∙ ap (λ it. with_pieces cut.pieces (cut_of reports (tokens_of lines)
    (wanted_by_asks reports ask it)
    found.next found.unsettled)) none
    ∙ ap (λ it. record { pieces = it; ending = whole_at found.next found.unsettled })
    (append-nil cut.pieces) in
    record {
      known = cut.known ∙ ap (λ (it : GrammarCut). items_of it.pieces) (sym is);
      judged = cut.judged ∙ ap (λ (it : GrammarCut). map (judged_alone reports (tokens_of lines))
          (items_among reports it.pieces)) (sym is);
      comes = (few, room, ap (λ (it : GrammarCut). it.ending) is);
      within = within;
    }

-- what a cut that is told of comes to, where it is told
pub stopped_is : (sheet : Sheet) (asks : Asks) (lines : List NumberedLine) (items : List Item)
    (stop : CheckStopAt) (result : Result CutRead OutOfMemory)
    → IfOk result (λ read. read.items.items ≡ items) → IfOk result (λ read. read.ending ≡ Err stop)
    → IfOk result (λ read. IsTrue (is_of_lines stop))
    → (IsTrue (is_of_lines stop) → IsCutRead sheet asks lines items (Err stop))
    → IfOk result (λ read. IsCutRead sheet asks lines read.items.items read.ending)
stopped_is sheet asks lines items stop (Ok read) known ending told is =
    let P : List Item → Type 0 = λ it. IsCutRead sheet asks lines it (Err stop) in
    let Q : Result PartRead CheckStopAt → Type 0 =
    λ it. IsCutRead sheet asks lines read.items.items it in
    subst Q (sym ending) (subst P (sym known) (is told))
stopped_is sheet asks lines items stop (Err memory) known ending told is = tt

-- no ask is before the one before it
pub epochs_in_order : (sheet : Sheet) (asks : Asks) (ask : ℕ) → AreAsks sheet asks
    → ask < length asks.epochs.items → epoch_before asks ask ≤ get_or asks.epochs.items ask 0
epochs_in_order sheet asks zero are within = omega arith
epochs_in_order sheet asks (suc ask) are within =
    let P : ℕ → Type 0 =
    λ it. get_or asks.epochs.items ask 0 ≤ get_or asks.epochs.items it 0 in
    subst P (omega arith) (are.in_order ask (omega (arith, within)))

-- the season of an ask is the one before the next
pub season_next : (sheet : Sheet) (asks : Asks) (ask : ℕ) (season : Results)
    → season ≡ season_at sheet asks ask → season ≡ season_before sheet asks (ask + 1)
season_next sheet asks ask season at =
    let next : suc ask ≡ ask + 1 = omega arith in
    at ∙ ap (season_before sheet asks) next
