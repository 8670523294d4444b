-- What stands between the commas of a text, and how csv reads a text without signs.
use Rattle.std.proofs.Common.{◌≡◌, ◌==◌, ◌||◌, ℕ, Bool, true, false, cond, List, [], ◌∷◌, ◌++◌}
use Rattle.std.proofs.Common.{Some, None, refl, sym, ap, ◌∙◌, append_assoc, inl, inr}
use Rattle.std.specs.Prelude.{option_map}
use Rattle.std.specs.List.{list_any}
use Rattle.std.proofs.lemmas.List.{append-nil}
use Rattle.std.proofs.lemmas.Bool.{cases_Bool, or_parts}
use Rattle.csv.specs.Machine.{next_record}
use Rattle.csv.specs.Reading.{default_config, strip_bom}
use Rattle.csv.specs.declared.parser.State.TheVariants as state
use Rattle.csv.proofs.RoundTrip.{record-same, start-same}
use Rattle.fixture_sheet.specs.Fields.{csv_record}
use Rattle.fixture_sheet.specs.inside.PlainLines.{between_commas, has_sign, is_sign, with_prefix}

-- nothing before a first field changes nothing
with_prefix-none : (front : List ℕ) (fields : List (List ℕ))
    → with_prefix [] (with_prefix front fields) ≡ with_prefix front fields
with_prefix-none front [] = refl
with_prefix-none front (field ∷ fields) = refl

with_prefix-cond : (test : Bool) (first second : List (List ℕ)) → with_prefix [] first ≡ first
    → with_prefix [] second ≡ second
    → with_prefix [] (cond test first second) ≡ cond test first second
with_prefix-cond true first second one other = one
with_prefix-cond false first second one other = other

-- there is a first field
pub between_commas-some : (text : List ℕ)
    → with_prefix [] (between_commas text) ≡ between_commas text
between_commas-some [] = refl
between_commas-some (byte ∷ bytes) =
    with_prefix-cond (byte == 44) ([] ∷ between_commas bytes)
    (with_prefix (byte ∷ []) (between_commas bytes)) refl
    (with_prefix-none (byte ∷ []) (between_commas bytes))

-- two pieces before a first field, one by one
with_prefix-more : (front : List ℕ) (byte : ℕ) (fields : List (List ℕ))
    → with_prefix (front ++ byte ∷ []) fields ≡ with_prefix front (with_prefix (byte ∷ []) fields)
with_prefix-more front byte [] = refl
with_prefix-more front byte (field ∷ fields) =
    ap (λ first. first ∷ fields) (append_assoc front (byte ∷ []) field)

pub at-comma : (byte : ℕ) (bytes : List ℕ) → (byte == 44) ≡ true
    → between_commas (byte ∷ bytes) ≡ [] ∷ between_commas bytes
at-comma byte bytes comma = rw comma refl

pub at-byte : (byte : ℕ) (bytes : List ℕ) → (byte == 44) ≡ false
    → between_commas (byte ∷ bytes) ≡ with_prefix (byte ∷ []) (between_commas bytes)
at-byte byte bytes other = rw other refl

-- a comma ends the field before it
pub front-comma : (front : List ℕ) (byte : ℕ) (bytes : List ℕ) → (byte == 44) ≡ true
    → with_prefix front (between_commas (byte ∷ bytes)) ≡ front ∷ between_commas bytes
front-comma front byte bytes comma =
    ap (with_prefix front) (at-comma byte bytes comma)
    ∙ ap (λ field. field ∷ between_commas bytes) (append-nil front)

-- any other byte joins it
pub front-byte : (front : List ℕ) (byte : ℕ) (bytes : List ℕ) → (byte == 44) ≡ false
    → with_prefix front (between_commas (byte ∷ bytes))
    ≡ with_prefix (front ++ byte ∷ []) (between_commas bytes)
front-byte front byte bytes other =
    ap (with_prefix front) (at-byte byte bytes other)
    ∙ sym (with_prefix-more front byte (between_commas bytes))

-- a byte that is no sign is no quote, no CR, no LF, and does not begin a byte order mark
no_sign : (byte : ℕ) → is_sign byte ≡ false
    → ((byte == 34) ≡ false) × (((byte == 13) ≡ false)
    × (((byte == 10) ≡ false) × ((byte == 0xEF) ≡ false)))
no_sign byte none =
    let quote = or_parts (byte == 34) ((byte == 13) || ((byte == 10) || (byte == 0xEF))) none in
    let return = or_parts (byte == 13) ((byte == 10) || (byte == 0xEF)) quote.1 in
    let feed = or_parts (byte == 10) (byte == 0xEF) return.1 in
    (quote.0, (return.0, (feed.0, feed.1)))

-- in a field a comma ends it
machine-comma : (fields : List (List ℕ)) (field : List ℕ) (byte : ℕ) (bytes : List ℕ)
    → (byte == 44) ≡ true
    → next_record default_config state.InField fields field (byte ∷ bytes)
    ≡ next_record default_config state.StartField (fields ++ field ∷ []) [] bytes
unfolding next_record
machine-comma fields field byte bytes comma = rw comma refl

-- any other byte that is no sign joins it
machine-byte : (fields : List (List ℕ)) (field : List ℕ) (byte : ℕ) (bytes : List ℕ)
    → (byte == 44) ≡ false → (byte == 13) ≡ false → (byte == 10) ≡ false
    → next_record default_config state.InField fields field (byte ∷ bytes)
    ≡ next_record default_config state.InField fields (field ++ byte ∷ []) bytes
unfolding next_record
machine-byte fields field byte bytes other return feed = rw (other, return, feed) refl

-- without a quote a field goes on as it starts
machine-start : (fields : List (List ℕ)) (field text : List ℕ) → has_sign text ≡ false
    → next_record default_config state.StartField fields field text
    ≡ next_record default_config state.InField fields field text
unfolding next_record
machine-start fields field [] plain = refl
machine-start fields field (byte ∷ bytes) plain =
    let signs = or_parts (is_sign byte) (list_any is_sign bytes) plain in
    start-same fields field byte bytes (no_sign byte signs.0).0

-- csv cuts the rest of a text without signs at its commas
machine-cuts : (text : List ℕ) → has_sign text ≡ false → (fields : List (List ℕ)) (field : List ℕ)
    → next_record default_config state.InField fields field text
    ≡ Some (fields ++ with_prefix field (between_commas text), state.StartRecord, [])
unfolding next_record
machine-cuts [] plain fields field = rw (append-nil field) refl
machine-cuts (byte ∷ bytes) plain fields field =
    let signs = or_parts (is_sign byte) (list_any is_sign bytes) plain in
    let none = no_sign byte signs.0 in
    elim (cases_Bool (byte == 44)) [
      | inl comma ↦
          machine-comma fields field byte bytes comma
          ∙ machine-start (fields ++ field ∷ []) [] bytes signs.1
          ∙ machine-cuts bytes signs.1 (fields ++ field ∷ []) []
          ∙ ap (λ all. Some (all, state.StartRecord, []))
          (append_assoc fields (field ∷ []) (with_prefix [] (between_commas bytes))
          ∙ ap (λ rest. fields ++ field ∷ rest) (between_commas-some bytes)
          ∙ sym (ap (λ rest. fields ++ rest) (front-comma field byte bytes comma)))
      | inr other ↦
          machine-byte fields field byte bytes other none.1.0 none.1.1.0
          ∙ machine-cuts bytes signs.1 fields (field ++ byte ∷ [])
          ∙ sym (ap (λ rest. Some (fields ++ rest, state.StartRecord, []))
          (front-byte field byte bytes other))
    ]

-- a text without signs has no byte order mark
strip_bom-plain : (text : List ℕ) → has_sign text ≡ false → strip_bom text ≡ text
unfolding strip_bom
strip_bom-plain [] plain = refl
strip_bom-plain (a ∷ []) plain = refl
strip_bom-plain (a ∷ b ∷ []) plain = refl
strip_bom-plain (a ∷ b ∷ c ∷ rest) plain =
    let signs = or_parts (is_sign a) (list_any is_sign (b ∷ c ∷ rest)) plain in
    let none = (no_sign a signs.0).1.1.1 in
    rw none refl

-- csv reads no record in the empty text
pub csv_record-empty : csv_record [] ≡ None
unfolding next_record strip_bom
csv_record-empty = refl

-- in any other text without signs it reads what stands between the commas
pub csv_record-plain : (byte : ℕ) (bytes : List ℕ) → has_sign (byte ∷ bytes) ≡ false
    → csv_record (byte ∷ bytes) ≡ Some (between_commas (byte ∷ bytes))
csv_record-plain byte bytes plain =
    let signs = or_parts (is_sign byte) (list_any is_sign bytes) plain in
    let none = no_sign byte signs.0 in
    ap (λ text. option_map (λ read. read.0)
    (next_record default_config state.StartRecord [] [] text))
    (strip_bom-plain (byte ∷ bytes) plain)
    ∙ ap (option_map (λ read. read.0))
    (record-same [] [] byte bytes none.1.0 none.1.1.0
    ∙ start-same [] [] byte bytes none.0
    ∙ machine-cuts (byte ∷ bytes) plain [] [])
    ∙ ap Some (between_commas-some (byte ∷ bytes))
