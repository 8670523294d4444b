-- The rows of a table, club by club, and their text.
use Rattle.std.proofs.Common.{◌≡◌, ℕ, ◌+◌, ◌<◌, List, [], ◌∷◌, ◌++◌, length, take, map, get_or}
use Rattle.std.proofs.Common.{refl, ap, sym, ◌∙◌, subst}
use Rattle.std.specs.Prelude.{All}
use Rattle.std.proofs.lemmas.List.{map-append, take_more}
use Rattle.std.proofs.lemmas.List.Elements.{All-push, All-head, All-tail}
use Rattle.league_core.specs.declared.sheet.Sheet.{Sheet}
use Rattle.league_core.specs.game.Results.{Results}
use Rattle.answer_rows.specs.declared.table.ClubRow.{ClubRow}
use Rattle.answer_rows.specs.Parts.{IsMadeOf, club_name}
use Rattle.answer_rows.specs.Rows.{place_row}
use Rattle.answer_rows.specs.Tables.{IsTableRow, IsPlaceRow, IsTableText}
use Rattle.answer_rows.specs.inside.Places.{AreInSheet, AreTableRows, text_of_places}
use Rattle.answer_rows.specs.inside.Places.{text_of_table}

-- ---- making them

-- one row for each of these clubs, in their order, each its own
pub record AreRowsOf (sheet : Sheet) (season : Results) (clubs : List ℕ) (rows : List ClubRow)
    : Type 0 where
  pub clubs_of_rows : map (λ (found : ClubRow). found.club) rows ≡ clubs
  pub in_sheet : AreInSheet sheet rows
  pub each : All (λ (found : ClubRow). IsTableRow sheet season found.club found.row) rows

-- a row for the next club of an order
pub rows-take : (sheet : Sheet) (season : Results) (order : List ℕ) (i : ℕ)
    (rows more : List ClubRow) (found : ClubRow) → i < length order
    → AreRowsOf sheet season (take i order) rows → more ≡ rows ++ found ∷ []
    → found.club ≡ get_or order i 0 → found.club < length sheet.clubs
    → IsTableRow sheet season found.club found.row
    → AreRowsOf sheet season (take (i + 1) order) more
rows-take sheet season order i rows more found inside are is named in_sheet row =
    subst (AreRowsOf sheet season (take (i + 1) order)) (sym is) (record {
      clubs_of_rows =
          map-append (λ (f : ClubRow). f.club) rows (found ∷ [])
          ∙ ap (λ clubs. clubs ++ found.club ∷ []) are.clubs_of_rows
          ∙ ap (λ club. take i order ++ club ∷ []) named
          ∙ sym (take_more order i 0 inside);
      in_sheet =
          All-push (λ (f : ClubRow). f.club < length sheet.clubs) rows found are.in_sheet in_sheet;
      each =
          All-push (λ (f : ClubRow). IsTableRow sheet season f.club f.row) rows found are.each row;
    })

-- ---- their text

places-made : (sheet : Sheet) (season : Results) (rows : List ClubRow)
    → All (λ (found : ClubRow). IsTableRow sheet season found.club found.row) rows
    → IsMadeOf (IsPlaceRow sheet season) (map (λ (found : ClubRow). found.club) rows)
    (text_of_places sheet rows)
places-made sheet season [] each = refl
places-made sheet season (found ∷ rows) each =
    let P : ClubRow → Type 0 = λ f. IsTableRow sheet season f.club f.row in (
      place_row (club_name sheet found.club) found.row,
      text_of_places sheet rows,
      refl,
      (found.row, All-head P found rows each, refl),
      places-made sheet season rows (All-tail P found rows each),
    )

-- the text of the rows of a table is that of the mode `table`
pub table_text-is : (sheet : Sheet) (season : Results) (epoch : ℕ) (rows : List ClubRow)
    → AreTableRows sheet season rows
    → IsTableText sheet season epoch (text_of_table sheet epoch rows)
table_text-is sheet season epoch rows are = (
  map (λ (found : ClubRow). found.club) rows,
  text_of_places sheet rows,
  are.order,
  refl,
  places-made sheet season rows are.each,
)
