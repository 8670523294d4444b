-- The items of a cut tell the first stop of a report.
use Rattle.std.proofs.Common.{◌≡◌, ◌<◌, ℕ, zero, suc, List, [], ◌∷◌, map, drop, length, get_or}
use Rattle.std.proofs.Common.{true, refl, sym, ap, ◌∙◌, arith}
use Rattle.std.specs.Prelude.{All}
use Rattle.league_core.specs.declared.sheet.Sheet.{Sheet}
use Rattle.league_core.specs.game.Sheets.{IsWithinLimits}
use Rattle.kept_lines.specs.LineLists.{NumberedLine}
use Rattle.line_tokens.specs.Tokens.{tokens_of}
use Rattle.cert_check.specs.ExpectedItems.{ask_row, Expected}
use Rattle.cert_check.specs.Machine.{rows_of}
use Rattle.par_check.specs.declared.asks.Asks.{Asks}
use Rattle.par_check.specs.declared.asks.Item.{Item}
use Rattle.cert_check.specs.inside.Pieces.{first_among, first_stop, items_among, judged_alone}
use Rattle.cert_check.specs.inside.Pieces.{unproved_in}
use Rattle.par_check.specs.FirstStops.{reports}
use Rattle.par_check.specs.Cuts.{season_at, unproved_by, grammar_cut, IsItemIn}
use Rattle.par_check.specs.Checked.{judged_of, IsToldByItems}
use Rattle.par_check.proofs.EpochLemmas.{are_items, alike_lines}
use Rattle.par_check.proofs.RowAtLemmas.{row_by_place}

-- a row of an answer is an item's
row_is_item : (sheet : Sheet) (row : ℕ) → IsWithinLimits sheet → row < length (rows_of sheet)
    → are_items (get_or (rows_of sheet) row ask_row ∷ []) ≡ true
row_is_item sheet row limits within =
    let some : zero < length sheet.clubs = omega (arith, limits.two_clubs) in
    let is = (row_by_place sheet row (length sheet.clubs) refl some within).1 in
    ap (λ (it : Expected). are_items (it ∷ [])) is

-- an item says the same by each epoch
said_by_any : (sheet : Sheet) (asks : Asks) (lines : List NumberedLine) (item : Item)
    → IsWithinLimits sheet → item.question_row < length (rows_of sheet)
    → unproved_by sheet asks (tokens_of lines) item ≡ judged_of sheet asks lines item
said_by_any sheet asks lines item limits within =
    ap unproved_in (alike_lines asks.kind sheet (season_at sheet asks item.ask)
    (get_or asks.epochs.items item.ask 0) 0 (drop item.from (tokens_of lines))
    (get_or (rows_of sheet) item.question_row ask_row ∷ []) item.from 0
    (row_is_item sheet item.question_row limits within))

-- so do all of them
all_say : (sheet : Sheet) (asks : Asks) (lines : List NumberedLine) (items : List Item)
    → IsWithinLimits sheet
    → ((k : ℕ) (d : Item) → k < length items
    → (get_or items k d).question_row < length (rows_of sheet))
    → map (unproved_by sheet asks (tokens_of lines)) items
    ≡ map (judged_of sheet asks lines) items
all_say sheet asks lines [] limits rows = refl
all_say sheet asks lines (item ∷ items) limits rows = λ i.
    said_by_any sheet asks lines item limits (rows 0 item (omega arith)) i
    ∷ all_say sheet asks lines items limits
    (λ k d within. rows (suc k) d (omega (arith, within))) i

-- the first stop of a report by its items, each judged for itself
pub told_by_items : (sheet : Sheet) (asks : Asks) (lines : List NumberedLine) (items : List Item)
    (count : ℕ) → IsWithinLimits sheet → All (IsItemIn sheet count (length lines)) items
    → map (unproved_by sheet asks (tokens_of lines)) items
    ≡ map (judged_alone reports (tokens_of lines))
    (items_among reports (grammar_cut sheet asks lines).pieces)
    → IsToldByItems sheet asks lines items
told_by_items sheet asks lines items count limits are judged =
    ap (λ it. first_stop (first_among it) (grammar_cut sheet asks lines).ending)
    (sym judged ∙ all_say sheet asks lines items limits
    (λ k d within. (are k d within).row))
