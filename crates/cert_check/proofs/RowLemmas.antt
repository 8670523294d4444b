-- Rows: the fields of a row, and the word that it says.
use Rattle.std.proofs.Common.{◌≡◌, ℕ, Bool, true, false, ◌&&◌, ◌==◌, List, [], ◌∷◌, Some, None}
use Rattle.std.proofs.Common.{refl, ap, ◌∙◌, length, codes, decimal, arith}
use Rattle.std.specs.Prelude.{bytes_eq, if◌then◌else◌}
use Rattle.std.proofs.lemmas.Bool.{and_parts, and_from, eqb-true}
use Rattle.fixture_sheet.specs.Fields.{field}
use Rattle.line_tokens.specs.declared.row_word.RowWord.{RowWord}
use Rattle.line_tokens.specs.declared.row_word.RowWord.TheVariants.{Clinched, Lost, Possible}
use Rattle.line_tokens.specs.declared.row_word.RowWord.TheVariants.{Unsettled}
use Rattle.line_tokens.specs.RowFields.{ask_fields, verdict_fields}
use Rattle.cert_check.specs.ExpectedItems.{is_ask_row, is_row_about}
use Rattle.cert_check.specs.ExpectedItems.{word_named, word_in_row}
use Rattle.line_tokens.specs.RowFields.{text_of_word}
use Rattle.league_core.proofs.plain.Texts.{bytes_eq-itself, bytes_eq-true}

-- two fields
two_fields : (fields : List (List ℕ)) → length fields ≡ 2
    → fields ≡ field 0 fields ∷ field 1 fields ∷ []
two_fields [] two = absurd (omega arith)
two_fields (first ∷ []) two = absurd (omega arith)
two_fields (first ∷ second ∷ []) two = refl
two_fields (first ∷ second ∷ third ∷ fields) two = absurd (omega arith)

-- four fields
pub four_fields : (fields : List (List ℕ)) → length fields ≡ 4
    → fields ≡ field 0 fields ∷ field 1 fields ∷ field 2 fields ∷ field 3 fields ∷ []
four_fields [] four = absurd (omega arith)
four_fields (first ∷ []) four = absurd (omega arith)
four_fields (first ∷ second ∷ []) four = absurd (omega arith)
four_fields (first ∷ second ∷ third ∷ []) four = absurd (omega arith)
four_fields (first ∷ second ∷ third ∷ fourth ∷ []) four = refl
four_fields (first ∷ second ∷ third ∷ fourth ∷ fifth ∷ fields) four = absurd (omega arith)

-- the row of the ask has its fields
pub ask_row-says : (epoch : ℕ) (fields : List (List ℕ)) → is_ask_row epoch fields ≡ true
    → fields ≡ ask_fields epoch
ask_row-says epoch fields is =
    let all = and_parts ((length fields == 2) && bytes_eq (field 0 fields) (codes "ask"))
    (bytes_eq (field 1 fields) (decimal epoch)) is in
    let front = and_parts (length fields == 2) (bytes_eq (field 0 fields) (codes "ask")) all.0 in
    two_fields fields (eqb-true (length fields) 2 front.0)
    ∙ ap (λ it. it ∷ field 1 fields ∷ []) (bytes_eq-true (field 0 fields) (codes "ask") front.1)
    ∙ ap (λ it. codes "ask" ∷ it ∷ []) (bytes_eq-true (field 1 fields) (decimal epoch) all.1)

-- these fields are the row of the ask
pub ask_row-of : (epoch : ℕ) → is_ask_row epoch (ask_fields epoch) ≡ true
ask_row-of epoch = bytes_eq-itself (decimal epoch)

-- the word that a text is has this text
word_named-says : (text : List ℕ) (word : RowWord) → word_named text ≡ Some word
    → text ≡ text_of_word word
word_named-says text word is =
    chosen (bytes_eq text (codes "clinched")) (bytes_eq text (codes "lost"))
    (bytes_eq text (codes "possible")) (bytes_eq text (codes "unsettled")) refl refl refl refl is
  where
    same_word : (tested : RowWord) → Some tested ≡ Some word → tested ≡ word
    same_word tested same = cc

    told : (tested : RowWord) → bytes_eq text (text_of_word tested) ≡ true
        → Some tested ≡ Some word → text ≡ text_of_word word
    told tested same is_word =
        bytes_eq-true text (text_of_word tested) same ∙ ap text_of_word (same_word tested is_word)

    chosen : (first second third fourth : Bool) → bytes_eq text (codes "clinched") ≡ first
        → bytes_eq text (codes "lost") ≡ second → bytes_eq text (codes "possible") ≡ third
        → bytes_eq text (codes "unsettled") ≡ fourth
        → (if first then Some Clinched
        else if second then Some Lost
        else if third then Some Possible
        else if fourth then Some Unsettled else None) ≡ Some word
        → text ≡ text_of_word word
    chosen true second third fourth p q r s is = told Clinched p is
    chosen false true third fourth p q r s is = told Lost q is
    chosen false false true fourth p q r s is = told Possible r is
    chosen false false false true p q r s is = told Unsettled s is
    chosen false false false false p q r s is = absurd cc

-- the row of which the word is read has the fields of a row with this word
pub word_in_row-says : (line : ℕ) (name : List ℕ) (fields : List (List ℕ)) (word : RowWord)
    → word_in_row line name fields ≡ Some word → fields ≡ verdict_fields line name word
word_in_row-says line name fields word is =
    about (is_row_about line name fields) refl is
  where
    of_parts : is_row_about line name fields ≡ true → word_named (field 3 fields) ≡ Some word
        → fields ≡ verdict_fields line name word
    of_parts about is_word =
        let all = and_parts ((length fields == 4) && bytes_eq (field 0 fields) (codes "verdict")
        && bytes_eq (field 1 fields) (decimal line)) (bytes_eq (field 2 fields) name) about in
        let front = and_parts ((length fields == 4) && bytes_eq (field 0 fields) (codes "verdict"))
        (bytes_eq (field 1 fields) (decimal line)) all.0 in
        let kind = and_parts (length fields == 4) (bytes_eq (field 0 fields) (codes "verdict"))
        front.0 in
        four_fields fields (eqb-true (length fields) 4 kind.0)
        ∙ ap (λ it. it ∷ field 1 fields ∷ field 2 fields ∷ field 3 fields ∷ [])
        (bytes_eq-true (field 0 fields) (codes "verdict") kind.1)
        ∙ ap (λ it. codes "verdict" ∷ it ∷ field 2 fields ∷ field 3 fields ∷ [])
        (bytes_eq-true (field 1 fields) (decimal line) front.1)
        ∙ ap (λ it. codes "verdict" ∷ decimal line ∷ it ∷ field 3 fields ∷ [])
        (bytes_eq-true (field 2 fields) name all.1)
        ∙ ap (λ it. codes "verdict" ∷ decimal line ∷ name ∷ it ∷ [])
        (word_named-says (field 3 fields) word is_word)

    about : (test : Bool) → is_row_about line name fields ≡ test
        → (if test then word_named (field 3 fields) else None) ≡ Some word
        → fields ≡ verdict_fields line name word
    about true same is = of_parts same is
    about false same is = absurd cc

-- these fields are a row about the line and the club
row_about-of : (line : ℕ) (name : List ℕ) (word : RowWord)
    → is_row_about line name (verdict_fields line name word) ≡ true
row_about-of line name word =
    and_from (bytes_eq (decimal line) (decimal line)) (bytes_eq name name)
    (bytes_eq-itself (decimal line)) (bytes_eq-itself name)

-- the text of a word names it
word_named-of : (word : RowWord) → word_named (text_of_word word) ≡ Some word
word_named-of Clinched = refl
word_named-of Lost = refl
word_named-of Possible = refl
word_named-of Unsettled = refl

-- the word of a row with a word is this word
pub word_in_row-of : (line : ℕ) (name : List ℕ) (word : RowWord)
    → word_in_row line name (verdict_fields line name word) ≡ Some word
word_in_row-of line name word =
    ap (λ it. if it then word_named (text_of_word word) else None) (row_about-of line name word)
    ∙ word_named-of word
