-- The JSON text of a line's value is the line's text.
use Rattle.std.proofs.Common.{◌≡◌, sym, append_assoc, ℕ, ℤ, pos, negsuc, ◌≤◌, Bool, true, false}
use Rattle.std.proofs.Common.{not, ◌&&◌, ◌||◌, nat_lt, List, [], ◌∷◌, ◌++◌, map, decimal, refl, ap}
use Rattle.std.proofs.Common.{◌∙◌, arith}
use Rattle.std.specs.List.{list_all, join_with_byte}
use Rattle.std.proofs.lemmas.Bool.{and_parts, not-true}
use Rattle.json.specs.Print.{escape_letter, escape_byte, escape}
use Rattle.serde_json.specs.Data.{Data, number, array, unsigned, depth, items_depth}
use Rattle.serde_json.specs.Read.{max_depth}
use Rattle.serde_json.specs.View.{items_of}
use Rattle.serde_json.specs.Written.{compact_text, items_text, has_float, items_have_float}
use Rattle.league_core.specs.declared.question.Claim.{Claim}
use Rattle.league_core.specs.declared.question.Claim.TheVariants.{Inside, Outside}
use Rattle.league_core.specs.declared.zone.Test.{Test}
use Rattle.league_core.specs.declared.zone.Test.TheVariants.{Home, Draw, HomeMost, AwayMost, Rival}
use Rattle.league_core.specs.declared.zone.Reason.{Reason}
use Rattle.league_core.specs.declared.zone.Reason.TheVariants.{Count, Window, Low, High, Tie}
use Rattle.cert_text.specs.declared.proof_line.ProofLine.{ProofLine}
use Rattle.cert_text.specs.declared.proof_line.ProofLine.TheVariants as line
use Rattle.cert_text.specs.Lines.{Part, word, whole, points, clubs, number_in_text, claim_word}
use Rattle.cert_text.specs.Lines.{test_parts, reason_parts, parts_of, array_text, part_text}
use Rattle.cert_text.specs.Lines.{text_of_proof_line}
use Rattle.cert_text.specs.inside.Values.{part_value, parts_value}
use Rattle.league_core.proofs.plain.Lists.{list_all-true}

-- a byte that stands for itself in a JSON string
abbrev pub is_plain : ℕ → Bool
is_plain byte = not (nat_lt 0 (escape_letter byte)) && not (nat_lt byte 32)

-- so a string of such bytes has no escape
escape-plain : (name : List ℕ) → list_all is_plain name ≡ true → escape name ≡ name
unfolding escape_byte
escape-plain [] plain = refl
escape-plain (byte ∷ name) plain =
    let parts = and_parts (is_plain byte) (list_all is_plain name) plain in
    let tests = and_parts (not (nat_lt 0 (escape_letter byte))) (not (nat_lt byte 32)) parts.0 in
    rw (not-true (nat_lt 0 (escape_letter byte)) tests.0, not-true (nat_lt byte 32) tests.1)
    (ap (λ rest. byte ∷ rest) (escape-plain name parts.1))

-- the items that follow the first, each after a comma, and the bracket that closes the array
abbrev pub more_items : List (List ℕ) → List ℕ
more_items [] = 93 ∷ []
more_items (item ∷ items) = 44 ∷ (item ++ more_items items)

-- an array with an item is that item and those that follow
pub join-more : (item : List ℕ) (items : List (List ℕ))
    → join_with_byte 44 (item ∷ items) ++ 93 ∷ [] ≡ item ++ more_items items
join-more item [] = refl
join-more item (next ∷ items) =
    append_assoc item (44 ∷ join_with_byte 44 (next ∷ items)) (93 ∷ [])
    ∙ ap (λ t. item ++ 44 ∷ t) (join-more next items)

-- items whose values have known texts are those, each after a comma
items_text-known : {X : Type 0} (value : X → Data) (text : X → List ℕ) (known : X → Bool)
    → ((x : X) → known x ≡ true → compact_text (value x) ≡ text x) → (xs : List X)
    → list_all known xs ≡ true
    → items_text true (items_of (map value xs)) ≡ more_items (map text xs)
items_text-known value text known each [] all = refl
items_text-known value text known each (x ∷ xs) all =
    let parts = and_parts (known x) (list_all known xs) all in
    ap (λ t. 44 ∷ (t ++ items_text true (items_of (map value xs)))) (each x parts.0)
    ∙ ap (λ t. 44 ∷ (text x ++ t)) (items_text-known value text known each xs parts.1)

-- and an array of them is the text of those
array_text-known : {X : Type 0} (value : X → Data) (text : X → List ℕ) (known : X → Bool)
    → ((x : X) → known x ≡ true → compact_text (value x) ≡ text x) → (xs : List X)
    → list_all known xs ≡ true
    → compact_text (array (items_of (map value xs))) ≡ array_text (map text xs)
array_text-known value text known each [] all = refl
array_text-known value text known each (x ∷ xs) all =
    let parts = and_parts (known x) (list_all known xs) all in
    ap (λ t. 91 ∷ (t ++ items_text true (items_of (map value xs)))) (each x parts.0)
    ∙ ap (λ t. 91 ∷ (text x ++ t)) (items_text-known value text known each xs parts.1)
    ∙ ap (λ t. 91 ∷ t) (sym (join-more (text x) (map text xs)))

-- a part whose word needs no escape
abbrev pub is_plain_part : Part → Bool
is_plain_part (word name) = list_all is_plain name
is_plain_part (whole n) = true
is_plain_part (points n) = true
is_plain_part (clubs list) = true

points_text : (n : ℤ) → compact_text (part_value (points n)) ≡ part_text (points n)
points_text (pos n) = refl
points_text (negsuc n) = refl

-- the text of a part's value is the part's
part_text-plain : (part : Part) → is_plain_part part ≡ true
    → compact_text (part_value part) ≡ part_text part
part_text-plain (word name) plain = ap (λ t. 34 ∷ (t ++ 34 ∷ [])) (escape-plain name plain)
part_text-plain (whole n) plain = refl
part_text-plain (points n) plain = points_text n
part_text-plain (clubs list) plain =
    array_text-known (λ club. number (unsigned (number_in_text club)))
    (λ club. decimal (number_in_text club)) (λ club. true) (λ club known. refl) list
    (list_all-true list)

plain_claim : (claim : Claim) → list_all is_plain (claim_word claim) ≡ true
plain_claim Inside = refl
plain_claim Outside = refl

plain_test : (test : Test) → list_all is_plain_part (test_parts test) ≡ true
plain_test (Home fixture) = refl
plain_test (Draw fixture) = refl
plain_test (HomeMost fixture most) = refl
plain_test (AwayMost fixture most) = refl
plain_test (Rival club) = refl

plain_reason : (reason : Reason) → list_all is_plain_part (reason_parts reason) ≡ true
plain_reason Count = refl
plain_reason Window = refl
plain_reason (Low set) = refl
plain_reason (High set) = refl
plain_reason Tie = refl

pub plain_line : (x : ProofLine) → list_all is_plain_part (parts_of x) ≡ true
plain_line (line.Tree claim) = ap (λ b. b && true) (plain_claim claim)
plain_line (line.Spent claim) = ap (λ b. b && true) (plain_claim claim)
plain_line (line.SpentWindow claim low high) = ap (λ b. b && true) (plain_claim claim)
plain_line (line.Split test) = plain_test test
plain_line (line.NewSplit test) = plain_test test
plain_line (line.Leaf reason) = plain_reason reason
plain_line (line.NewLeaf reason) = plain_reason reason
plain_line line.OpenLeaf = refl
plain_line (line.Finish claim) = ap (λ b. b && true) (plain_claim claim)
plain_line (line.Score fixture score) = refl
plain_line (line.Lots lots) = refl

-- the text of the array of parts is theirs
pub text_of_parts : (parts : List Part) → list_all is_plain_part parts ≡ true
    → compact_text (parts_value parts) ≡ array_text (map part_text parts)
text_of_parts parts plain =
    array_text-known part_value part_text is_plain_part part_text-plain parts plain

-- the text of a line's value is the line's
pub line_text : (x : ProofLine) → compact_text (parts_value (parts_of x)) ≡ text_of_proof_line x
line_text x = text_of_parts (parts_of x) (plain_line x)

-- no part has a float, and none nests deeper than a list
items_no_float : {X : Type 0} (value : X → Data) → ((x : X) → has_float (value x) ≡ false)
    → (xs : List X) → items_have_float (items_of (map value xs)) ≡ false
items_no_float value each [] = refl
items_no_float value each (x ∷ xs) =
    ap (λ b. b || items_have_float (items_of (map value xs))) (each x)
    ∙ items_no_float value each xs

part_no_float : (part : Part) → has_float (part_value part) ≡ false
part_no_float (word name) = refl
part_no_float (whole n) = refl
part_no_float (points (pos n)) = refl
part_no_float (points (negsuc n)) = refl
part_no_float (clubs list) = items_no_float (λ club. number (unsigned (number_in_text club)))
    (λ club. refl) list

pub no_float : (parts : List Part) → has_float (parts_value parts) ≡ false
no_float parts = items_no_float part_value part_no_float parts

items_shallow : {X : Type 0} (value : X → Data) (most : ℕ) → ((x : X) → depth (value x) ≤ most)
    → (xs : List X) → items_depth (items_of (map value xs)) ≤ most
items_shallow value most each [] = omega arith
items_shallow value most each (x ∷ xs) =
    let here = each x in
    let rest = items_shallow value most each xs in
    omega arith

part_shallow : (part : Part) → depth (part_value part) ≤ 1
part_shallow (word name) = omega arith
part_shallow (whole n) = omega arith
part_shallow (points n) = omega arith
part_shallow (clubs list) =
    let inner = items_shallow (λ club. number (unsigned (number_in_text club))) 0
    (λ club. omega arith) list in
    omega arith

pub shallow : (parts : List Part) → depth (parts_value parts) ≤ max_depth
shallow parts =
    let inner = items_shallow part_value 1 part_shallow parts in
    omega arith
