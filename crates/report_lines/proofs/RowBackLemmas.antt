-- A row that csv writes is read back as its fields, also without the line feed that ends it.
use Rattle.std.proofs.Common.{◌≡◌, ℕ, Bool, true, false, not, ◌&&◌, ◌||◌, ◌==◌, cond, List, [], ◌∷◌}
use Rattle.std.proofs.Common.{◌++◌, Option, Some, None, refl, sym, ap, ◌∙◌, append-nil}
use Rattle.std.specs.Prelude.{option_map, option_and_then, is_some}
use Rattle.std.specs.List.{list_all, list_any}
use Rattle.std.proofs.lemmas.Bool.{and_parts, and_from, false≢true}
use Rattle.std.proofs.lemmas.List.Folds.{list_all-append}
use Rattle.csv.specs.Machine.{Read, next_record, step, is_end, fields_after, field_after}
use Rattle.csv.specs.Reading.{default_config, strip_bom}
use Rattle.csv.specs.Writing.{default_writer, escaped, quoted, field_text, fields_text, row_body}
use Rattle.csv.specs.declared.parser.State.{State}
use Rattle.csv.specs.declared.parser.State.TheVariants as st
use Rattle.csv.proofs.RoundTrip.{read-write}
use Rattle.fixture_sheet.specs.Fields.{csv_record, record_of, without_padding, unless_empty}
use Rattle.fixture_sheet.specs.Fields.{has_return}
use Rattle.line_tokens.specs.declared.token.Token.TheVariants.{Row}
use Rattle.line_tokens.specs.Tokens.{token_of, token_of_row, token_of_record, begins_proof}
use Rattle.report_lines.specs.inside.WrittenReports.{is_within_line, are_within_line}
use Rattle.league_core.proofs.plain.Lists.{list_all-last}

-- ---- a text without the line feed at its end

-- the fields of what was read, and what is left of the text
abbrev fields_of_read : Option Read → List (List ℕ)
fields_of_read None = []
fields_of_read (Some read) = read.0

abbrev rest_of_read : Option Read → List ℕ
rest_of_read None = []
rest_of_read (Some read) = read.2

abbrev is_empty : List ℕ → Bool
is_empty [] = true
is_empty (byte ∷ bytes) = false

not_empty : (rest : List ℕ) → rest ++ 10 ∷ [] ≡ [] → ⊥
not_empty [] is = false≢true (ap is_empty is)
not_empty (byte ∷ rest) is = false≢true (ap is_empty is)

-- no field of a row within a line ends with a line feed
no_feed_last : (fields : List (List ℕ)) (field : List ℕ) (found : List (List ℕ))
    → fields ++ (field ++ 10 ∷ []) ∷ [] ≡ found → list_all are_within_line found ≡ true → ⊥
no_feed_last fields field found is within =
    false≢true (list_all-last is_within_line field 10
    (list_all-last are_within_line fields (field ++ 10 ∷ [])
    (ap (list_all are_within_line) is ∙ within)))

-- the end of the text does what the line feed did
at_end : (state : State) (fields : List (List ℕ)) (field : List ℕ) (found : List (List ℕ))
    → next_record default_config state fields field (10 ∷ []) ≡ Some (found, st.StartRecord, [])
    → list_all are_within_line found ≡ true
    → next_record default_config state fields field [] ≡ Some (found, st.StartRecord, [])
unfolding next_record
at_end st.StartRecord fields field found is within = absurd (false≢true (ap is_some is))
at_end st.StartField fields field found is within = is
at_end st.InField fields field found is within = is
at_end st.InQuoted fields field found is within =
    absurd (no_feed_last fields field found (ap fields_of_read is) within)
at_end st.AfterQuote fields field found is within = is
at_end st.InEscape fields field found is within =
    absurd (no_feed_last fields field found (ap fields_of_read is) within)
at_end st.InComment fields field found is within = absurd (false≢true (ap is_some is))
at_end st.AfterCr fields field found is within = absurd (false≢true (ap is_some is))

-- a byte does the same before the line feed and without it
over : (ends : Bool) (said : List (List ℕ)) (state : State) (rest : List ℕ)
    (more without : Option Read) (found : List (List ℕ))
    → cond ends (Some (said, state, rest ++ 10 ∷ [])) more ≡ Some (found, st.StartRecord, [])
    → (more ≡ Some (found, st.StartRecord, []) → without ≡ Some (found, st.StartRecord, []))
    → cond ends (Some (said, state, rest)) without ≡ Some (found, st.StartRecord, [])
over true said state rest more without found is on = absurd (not_empty rest (ap rest_of_read is))
over false said state rest more without found is on = on is

cut_read : (state : State) (fields : List (List ℕ)) (field text : List ℕ)
    (found : List (List ℕ))
    → next_record default_config state fields field (text ++ 10 ∷ [])
    ≡ Some (found, st.StartRecord, [])
    → list_all are_within_line found ≡ true
    → next_record default_config state fields field text ≡ Some (found, st.StartRecord, [])
unfolding next_record
cut_read state fields field [] found is within = at_end state fields field found is within
cut_read state fields field (byte ∷ rest) found is within =
    let next = step default_config state byte in
    over (is_end next.1) (fields_after next.1 fields field) next.0 rest
    (next_record default_config next.0 (fields_after next.1 fields field)
    (field_after next.1 byte field) (rest ++ 10 ∷ []))
    (next_record default_config next.0 (fields_after next.1 fields field)
    (field_after next.1 byte field) rest) found is
    (λ later. cut_read next.0 (fields_after next.1 fields field) (field_after next.1 byte field)
    rest found later within)

-- ---- the bytes of a row

pub append_within : (xs ys : List ℕ) → are_within_line xs ≡ true → are_within_line ys ≡ true
    → are_within_line (xs ++ ys) ≡ true
append_within xs ys all others =
    list_all-append is_within_line xs ys
    ∙ and_from (are_within_line xs) (are_within_line ys) all others

escaped_within : (field : List ℕ) → are_within_line field ≡ true
    → are_within_line (escaped default_writer field) ≡ true
unfolding escaped
escaped_within [] all = refl
escaped_within (byte ∷ field) all =
    let parts = and_parts (is_within_line byte) (are_within_line field) all in
    let rest = and_from (is_within_line byte) (are_within_line (escaped default_writer field))
    parts.0 (escaped_within field parts.1) in
    by_byte (byte == 34) byte (escaped default_writer field) rest
  where
    by_byte : (is_quote : Bool) (byte : ℕ) (rest : List ℕ) → are_within_line (byte ∷ rest) ≡ true
        → are_within_line (cond is_quote (34 ∷ byte ∷ rest) (byte ∷ rest)) ≡ true
    by_byte true byte rest all = all
    by_byte false byte rest all = all

field_within : (field : List ℕ) → are_within_line field ≡ true
    → are_within_line (field_text default_writer field) ≡ true
field_within field all =
    by_need (list_any (Rattle.csv.specs.Writing.needs_byte default_writer) field)
  where
    by_need : (needs : Bool)
        → are_within_line (cond needs (quoted default_writer field) field) ≡ true
    by_need true =
        append_within (escaped default_writer field) (34 ∷ []) (escaped_within field all) refl
    by_need false = all

fields_within : (fields : List (List ℕ)) → list_all are_within_line fields ≡ true
    → are_within_line (fields_text default_writer fields) ≡ true
unfolding fields_text
fields_within [] all = refl
fields_within (field ∷ fields) all =
    let parts = and_parts (are_within_line field) (list_all are_within_line fields) all in
    append_within (field_text default_writer field) (fields_text default_writer fields)
    (field_within field parts.0) (fields_within fields parts.1)

pub body_within : (fields : List (List ℕ)) → list_all are_within_line fields ≡ true
    → are_within_line (row_body default_writer fields) ≡ true
body_within [] all = refl
body_within (field ∷ fields) all =
    let parts = and_parts (are_within_line field) (list_all are_within_line fields) all in
    append_within (field_text default_writer field) (fields_text default_writer fields)
    (field_within field parts.0) (fields_within fields parts.1)

no_return : (text : List ℕ) → are_within_line text ≡ true → has_return text ≡ false
no_return [] all = refl
no_return (byte ∷ text) all =
    let parts = and_parts (is_within_line byte) (are_within_line text) all in
    by_byte (byte == 10) (byte == 13) parts.0 (no_return text parts.1)
  where
    by_byte : (feed return : Bool) → (not feed && not return) ≡ true → has_return text ≡ false
        → (return || has_return text) ≡ false
    by_byte true return within rest = absurd (false≢true within)
    by_byte false true within rest = absurd (false≢true within)
    by_byte false false within rest = rest

-- ---- a row as a line of a report

-- a row of two fields or more, without its line feed, is the row
pub row_back : (first second : List ℕ) (fields : List (List ℕ))
    → strip_bom (row_body default_writer (first ∷ second ∷ fields))
    ≡ row_body default_writer (first ∷ second ∷ fields)
    → begins_proof (row_body default_writer (first ∷ second ∷ fields)) ≡ false
    → list_all are_within_line (first ∷ second ∷ fields) ≡ true
    → without_padding (first ∷ second ∷ fields) ≡ first ∷ second ∷ fields
    → token_of (row_body default_writer (first ∷ second ∷ fields))
    ≡ Row (first ∷ second ∷ fields)
unfolding Rattle.csv.specs.Writing.is_blank
row_back first second fields plain opens within whole =
    let row = first ∷ second ∷ fields in
    let body = row_body default_writer row in
    let written : next_record default_config st.StartRecord [] [] (body ++ 10 ∷ [])
    ≡ Some (row, st.StartRecord, []) =
    ap (next_record default_config st.StartRecord [] []) (sym (append-nil (body ++ 10 ∷ [])))
    ∙ read-write row [] in
    let read : csv_record body ≡ Some row =
    ap (λ text. option_map (λ (r : Read). r.0)
    (next_record default_config st.StartRecord [] [] text)) plain
    ∙ ap (option_map (λ (r : Read). r.0))
    (cut_read st.StartRecord [] [] body row written within) in
    ap (λ b. cond b (Rattle.line_tokens.specs.Tokens.token_of_line
    (Rattle.wide_lines.specs.WideTexts.wide_line_in body)) (token_of_row body)) opens
    ∙ ap (λ b. cond b Rattle.line_tokens.specs.declared.token.Token.TheVariants.Unknown
    (token_of_record (record_of body))) (no_return body (body_within row within))
    ∙ ap (λ found. token_of_record
    (option_and_then (λ fields. unless_empty (without_padding fields)) found)) read
    ∙ ap (λ fields. token_of_record (unless_empty fields)) whole
