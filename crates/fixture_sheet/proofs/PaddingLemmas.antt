-- The empty fields at the end of a text without signs are the commas at its end.
use Rattle.std.proofs.Common.{◌≡◌, ◌==◌, ℕ, ◌+◌, ◌<◌, true, false, List, [], ◌∷◌, ◌++◌, length}
use Rattle.std.proofs.Common.{take, get_or, Some, None, refl, sym, ap, ◌∙◌, inl, inr, eq-eqb}
use Rattle.std.specs.Prelude.{option_and_then}
use Rattle.std.proofs.lemmas.Bool.{cases_Bool, ne_eqb}
use Rattle.std.proofs.lemmas.List.{take_more}
use Rattle.fixture_sheet.specs.Fields.{is_blank, record_of, unless_empty, with_field}
use Rattle.fixture_sheet.specs.Fields.{without_padding}
use Rattle.fixture_sheet.specs.inside.PlainLines.{between_commas, has_sign, with_byte, with_prefix}
use Rattle.fixture_sheet.specs.inside.PlainLines.{without_commas}
use Rattle.fixture_sheet.proofs.CommaLemmas.{at-byte, at-comma, between_commas-some}
use Rattle.fixture_sheet.proofs.CommaLemmas.{csv_record-empty, csv_record-plain}

-- the fields of a text; none of the empty one
abbrev fields_left : List ℕ → List (List ℕ)
fields_left [] = []
fields_left (byte ∷ bytes) = between_commas (byte ∷ bytes)

-- before a field any field counts
with_field-more : (field : List ℕ) (fields : List (List ℕ)) → with_prefix [] fields ≡ fields
    → with_field field fields ≡ field ∷ fields
with_field-more field [] some = absurd (cc)
with_field-more field (next ∷ fields) some = refl

-- a byte more in the first field, before or after the empty ones at the end go
with_prefix-field : (byte : ℕ) (field : List ℕ) (fields : List (List ℕ))
    → with_field (byte ∷ field) fields ≡ with_prefix (byte ∷ []) (with_field field fields)
with_prefix-field byte [] [] = refl
with_prefix-field byte (first ∷ field) [] = refl
with_prefix-field byte field (next ∷ fields) = refl

without_padding-front : (byte : ℕ) (fields : List (List ℕ)) → with_prefix [] fields ≡ fields
    → without_padding (with_prefix (byte ∷ []) fields)
    ≡ with_prefix (byte ∷ []) (without_padding fields)
without_padding-front byte [] some = absurd (cc)
without_padding-front byte (field ∷ fields) some =
    with_prefix-field byte field (without_padding fields)

left-comma : (byte : ℕ) (left : List ℕ) → (byte == 44) ≡ true
    → with_field [] (fields_left left) ≡ fields_left (with_byte byte left)
left-comma byte [] comma = rw comma refl
left-comma byte (next ∷ left) comma =
    with_field-more [] (between_commas (next ∷ left)) (between_commas-some (next ∷ left))
    ∙ sym (at-comma byte (next ∷ left) comma)

left-byte : (byte : ℕ) (left : List ℕ) → (byte == 44) ≡ false
    → with_prefix (byte ∷ []) (fields_left left) ≡ fields_left (with_byte byte left)
left-byte byte [] other =
    let alone : with_byte byte [] ≡ byte ∷ [] = rw other refl in
    sym (at-byte byte [] other) ∙ sym (ap fields_left alone)
left-byte byte (next ∷ left) other = sym (at-byte byte (next ∷ left) other)

-- without the empty fields at its end a text has the fields that it has without its last commas
without_padding-commas : (text : List ℕ)
    → without_padding (between_commas text) ≡ fields_left (without_commas text)
without_padding-commas [] = refl
without_padding-commas (byte ∷ bytes) = elim (cases_Bool (byte == 44)) [
  | inl comma ↦
      ap without_padding (at-comma byte bytes comma)
      ∙ ap (with_field []) (without_padding-commas bytes)
      ∙ left-comma byte (without_commas bytes) comma
  | inr other ↦
      ap without_padding (at-byte byte bytes other)
      ∙ without_padding-front byte (between_commas bytes) (between_commas-some bytes)
      ∙ ap (with_prefix (byte ∷ [])) (without_padding-commas bytes)
      ∙ left-byte byte (without_commas bytes) other
]

-- the record of a text without signs
record_of-plain : (text : List ℕ) → has_sign text ≡ false
    → record_of text ≡ unless_empty (fields_left (without_commas text))
record_of-plain [] plain =
    ap (option_and_then (λ fields. unless_empty (without_padding fields))) csv_record-empty
record_of-plain (byte ∷ bytes) plain =
    ap (option_and_then (λ fields. unless_empty (without_padding fields)))
    (csv_record-plain byte bytes plain)
    ∙ ap unless_empty (without_padding-commas (byte ∷ bytes))

unless_empty-some : (fields : List (List ℕ)) → with_prefix [] fields ≡ fields
    → unless_empty fields ≡ Some fields
unless_empty-some [] some = absurd (cc)
unless_empty-some (field ∷ fields) some = refl

-- the fields of what is left, if something is
some-left : (left : List ℕ) → is_blank left ≡ false
    → unless_empty (fields_left left) ≡ Some (between_commas left)
some-left [] some = absurd (cc)
some-left (byte ∷ bytes) some =
    unless_empty-some (between_commas (byte ∷ bytes)) (between_commas-some (byte ∷ bytes))

none-left : (left : List ℕ) → is_blank left ≡ true → unless_empty (fields_left left) ≡ None
none-left [] blank = refl
none-left (byte ∷ bytes) blank = absurd (cc)

-- nothing but commas is no record
pub plain-none : (text left : List ℕ) → has_sign text ≡ false → left ≡ without_commas text
    → is_blank left ≡ true → record_of text ≡ None
plain-none text left plain same blank =
    record_of-plain text plain
    ∙ ap (λ rest. unless_empty (fields_left rest)) (sym same)
    ∙ none-left left blank

-- anything else is what stands between the commas, but for those at the end
pub plain-some : (text left : List ℕ) → has_sign text ≡ false → left ≡ without_commas text
    → is_blank left ≡ false → record_of text ≡ Some (between_commas left)
plain-some text left plain same some =
    record_of-plain text plain
    ∙ ap (λ rest. unless_empty (fields_left rest)) (sym same)
    ∙ some-left left some

-- a comma at the end does not stay
without_commas-comma : (text : List ℕ) (byte : ℕ) → (byte == 44) ≡ true
    → without_commas (text ++ byte ∷ []) ≡ without_commas text
without_commas-comma [] byte comma = rw comma refl
without_commas-comma (first ∷ text) byte comma =
    ap (with_byte first) (without_commas-comma text byte comma)

with_byte-more : (byte : ℕ) (left : List ℕ) (last : ℕ)
    → with_byte byte (left ++ last ∷ []) ≡ byte ∷ (left ++ last ∷ [])
with_byte-more byte [] last = refl
with_byte-more byte (next ∷ left) last = refl

-- any other byte stays, and so do all before it
without_commas-byte : (text : List ℕ) (byte : ℕ) → (byte == 44) ≡ false
    → without_commas (text ++ byte ∷ []) ≡ text ++ byte ∷ []
without_commas-byte [] byte other = rw other refl
without_commas-byte (first ∷ text) byte other =
    ap (with_byte first) (without_commas-byte text byte other) ∙ with_byte-more first text byte

-- what stays of the prefix of a text, with one comma more
pub kept-comma : (text : List ℕ) (place kept before : ℕ) → place < length text
    → get_or text place 0 ≡ 44 → kept ≡ before
    → take before text ≡ without_commas (take place text)
    → take kept text ≡ without_commas (take (place + 1) text)
kept-comma text place kept before inside comma same so_far =
    ap (λ n. take n text) same
    ∙ so_far
    ∙ sym (without_commas-comma (take place text) (get_or text place 0)
    (eq-eqb (get_or text place 0) 44 comma))
    ∙ sym (ap without_commas (take_more text place 0 inside))

-- the same with one byte more that is no comma
pub kept-byte : (text : List ℕ) (place kept : ℕ) → place < length text
    → (get_or text place 0 ≡ 44 → ⊥) → kept ≡ place + 1
    → take kept text ≡ without_commas (take (place + 1) text)
kept-byte text place kept inside other more =
    ap (λ n. take n text) more
    ∙ take_more text place 0 inside
    ∙ sym (without_commas-byte (take place text) (get_or text place 0)
    (ne_eqb (get_or text place 0) 44 other))
    ∙ sym (ap without_commas (take_more text place 0 inside))
