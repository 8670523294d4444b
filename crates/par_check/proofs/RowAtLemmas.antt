-- The rows of an answer by their positions.
use Rattle.std.proofs.Common.{◌≡◌, ◌<◌, ℕ, zero, suc, ◌+◌, ◌*◌, ◌/◌, ◌%◌, List, [], ◌∷◌, ◌++◌}
use Rattle.std.proofs.Common.{get_or}
use Rattle.std.proofs.Common.{length, arith, ap, sym, refl, ◌∙◌, zero-add, length-append}
use Rattle.std.specs.List.{flat_map}
use Rattle.std.proofs.Math.Nat.{div-add-mod, div-lt_iff_lt-mul, mod-lt, mul_comm}
use Rattle.std.proofs.lemmas.List.{get_or_append_left, get_or-append-add, length-map}
use Rattle.std.proofs.lemmas.List.FromFn.{length-range_with_len, get_or-map-range_with_len}
use Rattle.league_core.specs.declared.sheet.Sheet.{Sheet}
use Rattle.league_core.specs.game.Sheets.{clubs_of}
use Rattle.cert_check.specs.ExpectedItems.{ask_row, verdict_row}
use Rattle.cert_check.specs.Machine.{rows_of, rows_on_line}

-- lists of one length, one after another
long : {A B : Type 0} (f : A → List B) (n : ℕ) → ((it : A) → length (f it) ≡ n) → (list : List A)
    → length (flat_map f list) ≡ length list * n
long f n each [] = omega arith
long f n each (it ∷ list) =
    length-append (f it) (flat_map f list)
    ∙ ap (λ x. x + length (flat_map f list)) (each it)
    ∙ ap (λ x. n + x) (long f n each list) ∙ omega arith

-- what stands in one of them
there : {A B : Type 0} (f : A → List B) (n : ℕ) → ((it : A) → length (f it) ≡ n) → (list : List A)
    (i j : ℕ) (e : A) (d : B) → i < length list → j < n
    → get_or (flat_map f list) (i * n + j) d ≡ get_or (f (get_or list i e)) j d
there f n each [] i j e d within below = absurd (omega (arith, within))
there f n each (it ∷ list) zero j e d within below =
    ap (λ x. get_or (f it ++ flat_map f list) x d) (omega arith)
    ∙ get_or_append_left (f it) (flat_map f list) d j (omega (arith, below, each it))
there f n each (it ∷ list) (suc i) j e d within below =
    ap (λ x. get_or (f it ++ flat_map f list) x d)
    (omega arith ∙ ap (λ x. x + (i * n + j)) (sym (each it)))
    ∙ get_or-append-add (f it) (flat_map f list) (i * n + j) d
    ∙ there f n each list i j e d (omega (arith, within)) below

-- the rows on one line
on_line : (sheet : Sheet) (line : ℕ)
    → length (rows_on_line (clubs_of sheet) line) ≡ length sheet.clubs
on_line sheet line =
    length-map (clubs_of sheet) (verdict_row line) ∙ length-range_with_len 0 (length sheet.clubs)

-- how many rows there are
pub rows_count : (sheet : Sheet) (count : ℕ) → count ≡ length sheet.lines * length sheet.clubs
    → count ≡ length (rows_of sheet)
rows_count sheet count is =
    is ∙ sym (long (rows_on_line (clubs_of sheet)) (length sheet.clubs) (on_line sheet) sheet.lines)

-- the row at a position, by its line and its club
pub row_there : (sheet : Sheet) (line club : ℕ) → line < length sheet.lines
    → club < length sheet.clubs
    → get_or (rows_of sheet) (line * length sheet.clubs + club) ask_row
    ≡ verdict_row (get_or sheet.lines line 0) club
row_there sheet line club within below =
    there (rows_on_line (clubs_of sheet)) (length sheet.clubs) (on_line sheet) sheet.lines line club
    0 ask_row within below
    ∙ get_or-map-range_with_len (verdict_row (get_or sheet.lines line 0)) 0 (length sheet.clubs)
    club club ask_row below (zero-add club)

-- the same by the position alone
pub row_by_place : (sheet : Sheet) (row clubs : ℕ) → clubs ≡ length sheet.clubs → zero < clubs
    → row < length (rows_of sheet)
    → (row / clubs < length sheet.lines)
    × (get_or (rows_of sheet) row ask_row
    ≡ verdict_row (get_or sheet.lines (row / clubs) 0) (row % clubs))
row_by_place sheet row clubs is some below =
    let whole : row / clubs * length sheet.clubs + row % clubs ≡ row =
    ap (λ n. row / clubs * n + row % clubs) (sym is)
    ∙ ap (λ n. n + row % clubs) (mul_comm (row / clubs) clubs) ∙ div-add-mod row clubs in
    let rows : length sheet.lines * length sheet.clubs ≡ length (rows_of sheet) =
    rows_count sheet (length sheet.lines * length sheet.clubs) refl in
    let within : row / clubs < length sheet.lines = (div-lt_iff_lt-mul some).1 (omega (
      arith,
      below,
      rows,
      ap (λ n. length sheet.lines * n) is,
    )) in
    let short : row % clubs < length sheet.clubs = omega (arith, is, mod-lt row some) in (
      within,
      ap (λ it. get_or (rows_of sheet) it ask_row) (sym whole)
          ∙ row_there sheet (row / clubs) (row % clubs) within short,
    )
