-- A row with nothing to quote is its fields with commas between them.
use Rattle.std.proofs.Common.{◌≡◌, ◌<◌, ◌+◌, ◌++◌, ◌∷◌, [], ℕ, List, true, false, get_or, length}
use Rattle.std.proofs.Common.{map, take, not, refl, sym, ap, ◌∙◌, arith}
use Rattle.std.specs.List.{list_all}
use Rattle.std.proofs.lemmas.List.{get_or-map, length-map, take-map}
use Rattle.csv.specs.Writing.{default_writer, field_text, is_blank, needs_quotes, next_sep}
use Rattle.csv.specs.Writing.{row_body}
use Rattle.csv.proofs.WriteFacts.{row-step}
use Rattle.cert_text.specs.Rows.{text_of_row}
use Rattle.league_core.proofs.plain.Lists.{list_all-at}
use Rattle.league_core.proofs.plain.TruthValues.{not_true}

-- a field with nothing to quote is written as it stands
field_stands : (field : List ℕ) → not (needs_quotes default_writer field) ≡ true
    → field_text default_writer field ≡ field
field_stands field plain =
    let none : needs_quotes default_writer field ≡ false = not_true _ plain in rw none refl

-- one field more
pub plain-step : {A : Type 0} (text : A → List ℕ) (fields : List A) (place : ℕ) (d : A)
    → place < length fields
    → list_all (λ field. not (needs_quotes default_writer (text field))) fields ≡ true
    → row_body default_writer (map text (take (place + 1) fields))
    ≡ row_body default_writer (map text (take place fields))
    ++ (next_sep default_writer place ++ text (get_or fields place d))
plain-step text fields place d inside plain =
    let within : place < length (map text fields) = omega (arith, length-map fields text) in
    ap (row_body default_writer) (sym (take-map text (place + 1) fields))
    ∙ row-step default_writer (map text fields) place within
    ∙ ap (λ front. row_body default_writer front ++ (next_sep default_writer place
    ++ field_text default_writer (get_or (map text fields) place []))) (take-map text place fields)
    ∙ ap (λ last. row_body default_writer (map text (take place fields))
    ++ (next_sep default_writer place ++ last))
    (ap (field_text default_writer) (get_or-map text fields place d [] inside)
    ∙ field_stands (text (get_or fields place d))
    (list_all-at (λ field. not (needs_quotes default_writer (text field))) fields place d
    inside plain))

-- a row of two fields or more shows something, and ends with a line feed
pub plain-whole : {A : Type 0} (text : A → List ℕ) (fields : List A) → 1 < length fields
    → row_body default_writer (map text fields) ++ 10 ∷ [] ≡ text_of_row (map text fields)
unfolding is_blank
plain-whole text [] some = absurd (omega arith)
plain-whole text (x ∷ []) some = absurd (omega arith)
plain-whole text (x ∷ y ∷ rest) some = refl
