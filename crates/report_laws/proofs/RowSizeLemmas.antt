-- The rows of an answer are no longer than a line may be, since names are short.
use Rattle.std.proofs.Common.{ℕ, ◌+◌, ◌*◌, ◌<◌, ◌≤◌, ◌^◌, Bool, true, false, ◌==◌, cond, List}
use Rattle.std.proofs.Common.{[], ◌∷◌, length, arith}
use Rattle.std.specs.Prelude.{codes, decimal}
use Rattle.std.specs.List.{list_any}
use Rattle.std.proofs.lemmas.Fmt.{length-decimal-le}
use Rattle.std.proofs.lemmas.List.{length-append}
use Rattle.csv.specs.Writing.{default_writer, escaped, field_text, fields_text, needs_byte}
use Rattle.csv.specs.Writing.{quoted, row_body}
use Rattle.csv.specs.Writing.{is_blank as csv_blank}
use Rattle.cert_text.specs.Rows.{text_of_row}
use Rattle.line_tokens.specs.declared.row_word.RowWord.{RowWord}
use Rattle.line_tokens.specs.declared.row_word.RowWord.TheVariants.{Clinched, Lost, Possible}
use Rattle.line_tokens.specs.declared.row_word.RowWord.TheVariants.{Unsettled}
use Rattle.line_tokens.specs.RowFields.{ask_fields, text_of_word, verdict_fields}

escaped-size : (field : List ℕ) → length (escaped default_writer field) ≤ 2 * length field
unfolding escaped
escaped-size [] = omega arith
escaped-size (byte ∷ field) =
    by_byte (byte == 34) (escaped default_writer field) (escaped-size field)
  where
    by_byte : (is_quote : Bool) (rest : List ℕ) → length rest ≤ 2 * length field
        → length (cond is_quote (34 ∷ byte ∷ rest) (byte ∷ rest)) ≤ 2 * length (byte ∷ field)
    by_byte true rest most = omega (arith, most)
    by_byte false rest most = omega (arith, most)

field-size : (field : List ℕ) → length (field_text default_writer field) ≤ 2 * length field + 2
field-size field = by_need (list_any (needs_byte default_writer) field)
  where
    by_need : (needs : Bool)
        → length (cond needs (quoted default_writer field) field) ≤ 2 * length field + 2
    by_need true =
        omega (
          arith,
          escaped-size field,
          length-append (escaped default_writer field) (34 ∷ []),
        )
    by_need false = omega arith

-- the bytes of these fields, with quotes and commas
abbrev row_sizes : List (List ℕ) → ℕ
row_sizes [] = 0
row_sizes (field ∷ fields) = 2 * length field + 3 + row_sizes fields

fields-size : (fields : List (List ℕ))
    → length (fields_text default_writer fields) ≤ row_sizes fields
unfolding fields_text
fields-size [] = omega arith
fields-size (field ∷ fields) =
    omega (
      arith,
      field-size field,
      fields-size fields,
      length-append (field_text default_writer field) (fields_text default_writer fields),
    )

-- a row of two fields or more is as long as its fields allow
row-size : (first second : List ℕ) (fields : List (List ℕ))
    → length (text_of_row (first ∷ second ∷ fields)) ≤ row_sizes (first ∷ second ∷ fields)
unfolding csv_blank
row-size first second fields =
    omega (
      arith,
      field-size first,
      fields-size (second ∷ fields),
      length-append (field_text default_writer first)
          (fields_text default_writer (second ∷ fields)),
      length-append (row_body default_writer (first ∷ second ∷ fields)) (10 ∷ []),
    )

-- the row of an ask
pub ask_row-size : (epoch : ℕ) → epoch < 2 ^ 64 → length (text_of_row (ask_fields epoch)) ≤ 1000
ask_row-size epoch small =
    omega (
      arith,
      row-size (codes "ask") (decimal epoch) [],
      length-decimal-le 20 epoch (omega arith) (omega (arith, small)) small,
    )

-- the row of a verdict about a club with a short name
pub verdict_row-size : (number : ℕ) (name : List ℕ) (said : RowWord) → number < 2 ^ 64
    → length name ≤ 40 → length (text_of_row (verdict_fields number name said)) ≤ 1000
verdict_row-size number name said small short =
    omega (
      arith,
      short,
      row-size (codes "verdict") (decimal number) (name ∷ text_of_word said ∷ []),
      length-decimal-le 20 number (omega arith) (omega (arith, small)) small,
      word_size said,
    )
  where
    word_size : (said : RowWord) → length (text_of_word said) ≤ 9
    word_size Clinched = omega arith
    word_size Lost = omega arith
    word_size Possible = omega arith
    word_size Unsettled = omega arith
