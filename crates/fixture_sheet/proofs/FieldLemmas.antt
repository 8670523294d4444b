-- Lemmas on the fields that count of a record.
use Rattle.std.proofs.Common.{◌≡◌, ◌==◌, ℕ, zero, suc, ◌+◌, ◌<◌, true, false, List, [], ◌∷◌, ◌++◌}
use Rattle.std.proofs.Common.{length, map, take, get_or, None, refl, sym, ap, ◌∙◌, arith}
use Rattle.std.proofs.lemmas.List.{map-append, take_more}
use Rattle.std.proofs.lemmas.Bool.Decides.{nat_tests}
use Rattle.csv.specs.Records.{field_at}
use Rattle.fixture_sheet.specs.Fields.{is_blank, with_field, without_padding}

-- a field that stands before a field that counts counts
with_field-some : (field next : List ℕ) (fields : List (List ℕ))
    → with_field field (fields ++ next ∷ []) ≡ field ∷ (fields ++ next ∷ [])
with_field-some field next [] = refl
with_field-some field next (first ∷ fields) = refl

-- a blank field at the end does not count
pub without_padding-blank : (fields : List (List ℕ)) (field : List ℕ) → is_blank field ≡ true
    → without_padding (fields ++ field ∷ []) ≡ without_padding fields
without_padding-blank [] field blank = rw blank refl
without_padding-blank (first ∷ fields) field blank =
    ap (with_field first) (without_padding-blank fields field blank)

-- one that is not blank does, and so do all before it
pub without_padding-field : (fields : List (List ℕ)) (field : List ℕ) → is_blank field ≡ false
    → without_padding (fields ++ field ∷ []) ≡ fields ++ field ∷ []
without_padding-field [] field some = rw some refl
without_padding-field (first ∷ fields) field some =
    ap (with_field first) (without_padding-field fields field some)
    ∙ with_field-some first field fields

-- a field is blank if it has no bytes
pub is_blank-length : (field : List ℕ) → (length field == 0) ≡ is_blank field
is_blank-length [] = refl
is_blank-length (byte ∷ bytes) = grind (arith, nat_tests)

-- no field is left beyond the last
pub get_or-beyond : (fields : List (List ℕ)) (place : ℕ) → field_at fields place ≡ None
    → get_or fields place [] ≡ []
unfolding field_at
get_or-beyond [] place none = refl
get_or-beyond (first ∷ fields) zero none = cc
get_or-beyond (first ∷ fields) (suc place) none = get_or-beyond fields place none

-- the fields that count, with a blank one more
pub kept-blank : (fields : List (List ℕ)) (place kept before : ℕ) → place < length fields
    → is_blank (get_or fields place []) ≡ true → kept ≡ before
    → take before fields ≡ without_padding (take place fields)
    → take kept fields ≡ without_padding (take (place + 1) fields)
kept-blank fields place kept before inside blank same so_far =
    ap (λ n. take n fields) same
    ∙ so_far
    ∙ sym (without_padding-blank (take place fields) (get_or fields place []) blank)
    ∙ sym (ap without_padding (take_more fields place [] inside))

-- the same with one more that is not blank
pub kept-field : (fields : List (List ℕ)) (place kept : ℕ) → place < length fields
    → is_blank (get_or fields place []) ≡ false → kept ≡ place + 1
    → take kept fields ≡ without_padding (take (place + 1) fields)
kept-field fields place kept inside some more =
    ap (λ n. take n fields) more
    ∙ take_more fields place [] inside
    ∙ sym (without_padding-field (take place fields) (get_or fields place []) some)
    ∙ sym (ap without_padding (take_more fields place [] inside))

-- the bytes of copies, with those of one more
pub copied-more : {A : Type 0} (bytes_of : A → List ℕ) (copies : List A) (copy : A)
    (fields : List (List ℕ)) (place : ℕ) → place < length fields
    → map bytes_of copies ≡ take place fields → bytes_of copy ≡ get_or fields place []
    → map bytes_of (copies ++ copy ∷ []) ≡ take (place + 1) fields
copied-more bytes_of copies copy fields place inside so_far same =
    map-append bytes_of copies (copy ∷ [])
    ∙ ap (λ front. front ++ bytes_of copy ∷ []) so_far
    ∙ ap (λ field. take place fields ++ field ∷ []) same
    ∙ sym (take_more fields place [] inside)
