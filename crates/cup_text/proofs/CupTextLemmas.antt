-- The JSON text of a line's value is the line's text.
use Rattle.std.proofs.Common.{◌≡◌, sym, ℕ, ℤ, pos, negsuc, ◌≤◌, Bool, true, false, ◌&&◌, ◌||◌}
use Rattle.std.proofs.Common.{List, [], ◌∷◌, ◌++◌, map, Option, None, Some, refl, ap, ◌∙◌, arith}
use Rattle.std.proofs.Common.{drop}
use Rattle.std.specs.List.{list_all}
use Rattle.std.specs.Fmt.{signed_decimal}
use Rattle.std.proofs.lemmas.Bool.{and_parts}
use Rattle.std.proofs.lemmas.List.{append_cancel_right}
use Rattle.serde_json.specs.Data.{Data, number, array, depth, items_depth}
use Rattle.serde_json.specs.Read.{max_depth}
use Rattle.serde_json.specs.Find.{of_integer}
use Rattle.serde_json.specs.View.{items_of}
use Rattle.serde_json.specs.Written.{compact_text, items_text, has_float, items_have_float}
use Rattle.league_core.specs.declared.question.Claim.{Claim}
use Rattle.league_core.specs.declared.question.Claim.TheVariants.{Inside, Outside}
use Rattle.league_core.specs.declared.zone.Test.{Test}
use Rattle.league_core.specs.declared.zone.Test.TheVariants.{Home, Draw, HomeMost, AwayMost, Rival}
use Rattle.cup_sheet.specs.declared.question.GroupKind.{GroupKind}
use Rattle.cup_sheet.specs.declared.question.GroupKind.TheVariants.{Top, Below, SecondLess}
use Rattle.cup_sheet.specs.declared.question.GroupKind.TheVariants.{SecondAtLeast, SecondMore}
use Rattle.cup_sheet.specs.declared.question.GroupKind.TheVariants.{SecondAtMost}
use Rattle.cert_text.specs.Lines.{Part, array_text, part_text, claim_word, test_parts}
use Rattle.cert_text.specs.inside.Values.{part_value}
use Rattle.cert_text.proofs.LineLemmas.{is_plain, is_plain_part, more_items, join-more}
use Rattle.cert_text.proofs.LineLemmas.{text_of_parts, no_float, shallow}
use Rattle.cup_text.specs.declared.cup_line.CupKey.{CupKey}
use Rattle.cup_text.specs.declared.cup_line.CupReason.{CupReason}
use Rattle.cup_text.specs.declared.cup_line.CupReason.TheVariants.{Count, Window, Low, High, Tie}
use Rattle.cup_text.specs.declared.cup_line.CupLeaf.{CupLeaf}
use Rattle.cup_text.specs.declared.cup_line.CupLeaf.TheVariants.{Plain, In, Out, ByKey}
use Rattle.cup_text.specs.declared.cup_line.CupLine.{CupLine}
use Rattle.cup_text.specs.declared.cup_line.CupLine.TheVariants as line
use Rattle.cup_text.specs.CupLines.{cup_reason_parts, cup_leaf_parts, kind_word, cup_parts_of}
use Rattle.cup_text.specs.CupLines.{cup_key_of, key_text, text_with_key, text_of_cup_line}
use Rattle.cup_text.specs.CupValues.{key_value, value_with_key}
use Rattle.cup_text.specs.CupValues.{cup_line_value}

-- the items after the first are their texts, each after a comma
items_text-compact : (values : List Data)
    → items_text true (items_of values) ≡ more_items (map compact_text values)
items_text-compact [] = refl
items_text-compact (value ∷ values) =
    ap (λ rest. 44 ∷ (compact_text value ++ rest)) (items_text-compact values)

-- an array is that of the texts of its items
array_text-compact : (values : List Data)
    → compact_text (array (items_of values)) ≡ array_text (map compact_text values)
array_text-compact [] = refl
array_text-compact (value ∷ values) =
    ap (λ rest. 91 ∷ (compact_text value ++ rest)) (items_text-compact values)
    ∙ ap (λ text. 91 ∷ text) (sym (join-more (compact_text value) (map compact_text values)))

-- a part by itself
text_of_part : (part : Part) → is_plain_part part ≡ true
    → compact_text (part_value part) ≡ part_text part
text_of_part part plain =
    append_cancel_right (compact_text (part_value part)) (part_text part) (93 ∷ [])
    (ap (drop 1) (text_of_parts (part ∷ []) (ap (λ b. b && true) plain)))

-- parts with a value behind them
texts_with_last : (parts : List Part) (last : Data) → list_all is_plain_part parts ≡ true
    → map compact_text (map part_value parts ++ last ∷ [])
    ≡ map part_text parts ++ compact_text last ∷ []
texts_with_last [] last plain = refl
texts_with_last (part ∷ parts) last plain =
    let each = and_parts (is_plain_part part) (list_all is_plain_part parts) plain in
    ap (λ text. text ∷ map compact_text (map part_value parts ++ last ∷ []))
    (text_of_part part each.0)
    ∙ ap (λ texts. part_text part ∷ texts) (texts_with_last parts last each.1)

integer_text : (n : ℤ) → compact_text (number (of_integer n)) ≡ signed_decimal n
integer_text (pos n) = refl
integer_text (negsuc n) = refl

integer_texts : (list : List ℤ)
    → map compact_text (map (λ part. number (of_integer part)) list) ≡ map signed_decimal list
integer_texts [] = refl
integer_texts (part ∷ list) =
    ap (λ text. text ∷ map compact_text (map (λ part. number (of_integer part)) list))
    (integer_text part)
    ∙ ap (λ texts. signed_decimal part ∷ texts) (integer_texts list)

text_of_key : (key : CupKey) → compact_text (key_value key) ≡ key_text key
text_of_key key =
    array_text-compact (map (λ part. number (of_integer part)) key.parts)
    ∙ ap array_text (integer_texts key.parts)

-- the text of parts and a key is theirs
compact_text-with_key : (parts : List Part) (key : Option CupKey)
    → list_all is_plain_part parts ≡ true
    → compact_text (value_with_key parts key) ≡ text_with_key parts key
compact_text-with_key parts None plain = text_of_parts parts plain
compact_text-with_key parts (Some key) plain =
    array_text-compact (map part_value parts ++ key_value key ∷ [])
    ∙ ap array_text (texts_with_last parts (key_value key) plain)
    ∙ ap (λ text. array_text (map part_text parts ++ text ∷ [])) (text_of_key key)

-- ---- no word of a line needs an escape

plain_claim : (claim : Claim) → list_all is_plain (claim_word claim) ≡ true
plain_claim Inside = refl
plain_claim Outside = refl

plain_kind : (kind : GroupKind) → list_all is_plain (kind_word kind) ≡ true
plain_kind Top = refl
plain_kind Below = refl
plain_kind SecondLess = refl
plain_kind SecondAtLeast = refl
plain_kind SecondMore = refl
plain_kind SecondAtMost = refl

plain_test : (test : Test) → list_all is_plain_part (test_parts test) ≡ true
plain_test (Home fixture) = refl
plain_test (Draw fixture) = refl
plain_test (HomeMost fixture most) = refl
plain_test (AwayMost fixture most) = refl
plain_test (Rival club) = refl

plain_reason : (reason : CupReason) → list_all is_plain_part (cup_reason_parts reason) ≡ true
plain_reason Count = refl
plain_reason Window = refl
plain_reason (Low cut) = refl
plain_reason (High cut) = refl
plain_reason Tie = refl

plain_leaf : (leaf : CupLeaf) → list_all is_plain_part (cup_leaf_parts leaf) ≡ true
plain_leaf (Plain reason) = plain_reason reason
plain_leaf (In reason) = plain_reason reason
plain_leaf (Out reason) = plain_reason reason
plain_leaf ByKey = refl

pub plain_cup_line : (x : CupLine) → list_all is_plain_part (cup_parts_of x) ≡ true
plain_cup_line (line.Finish claim) = ap (λ b. b && true) (plain_claim claim)
plain_cup_line (line.Score fixture score) = refl
plain_cup_line (line.Lots lots) = refl
plain_cup_line (line.Spent kind club key) = ap (λ b. b && true) (plain_kind kind)
plain_cup_line (line.Split test) = plain_test test
plain_cup_line (line.NewSplit test) = plain_test test
plain_cup_line (line.Leaf leaf) = plain_leaf leaf
plain_cup_line (line.NewLeaf leaf) = plain_leaf leaf
plain_cup_line line.OpenLeaf = refl
plain_cup_line (line.KeyLine key) = refl
plain_cup_line (line.Groups groups) = refl
plain_cup_line (line.Tree kind club) = ap (λ b. b && true) (plain_kind kind)

-- the text of a line's value is the line's
pub cup_text : (x : CupLine) → compact_text (cup_line_value x) ≡ text_of_cup_line x
cup_text x = compact_text-with_key (cup_parts_of x) (cup_key_of x) (plain_cup_line x)

-- ---- no value has a float, and none nests deep

no_float_integers : (list : List ℤ)
    → items_have_float (items_of (map (λ part. number (of_integer part)) list)) ≡ false
no_float_integers [] = refl
no_float_integers (pos n ∷ list) = no_float_integers list
no_float_integers (negsuc n ∷ list) = no_float_integers list

no_float_with : (values : List Data) (last : Data) → items_have_float (items_of values) ≡ false
    → has_float last ≡ false → items_have_float (items_of (values ++ last ∷ [])) ≡ false
no_float_with [] last none here = ap (λ b. b || false) here
no_float_with (value ∷ values) last none here =
    by_first (has_float value) none (λ rest. no_float_with values last rest here)
  where
    by_first : (b : Bool) → (b || items_have_float (items_of values)) ≡ false
        → (items_have_float (items_of values) ≡ false
        → items_have_float (items_of (values ++ last ∷ [])) ≡ false)
        → (b || items_have_float (items_of (values ++ last ∷ []))) ≡ false
    by_first false rest goes_on = goes_on rest
    by_first true rest goes_on = rest

-- no part of a line is a float
pub cup_no_float : (parts : List Part) (key : Option CupKey)
    → has_float (value_with_key parts key) ≡ false
cup_no_float parts None = no_float parts
cup_no_float parts (Some key) =
    no_float_with (map part_value parts) (key_value key) (no_float parts)
    (no_float_integers key.parts)

flat_integers : (list : List ℤ)
    → items_depth (items_of (map (λ part. number (of_integer part)) list)) ≤ 0
flat_integers [] = omega arith
flat_integers (part ∷ list) =
    let rest = flat_integers list in
    omega arith

depth_with : (values : List Data) (last : Data) (most : ℕ) → items_depth (items_of values) ≤ most
    → depth last ≤ most → items_depth (items_of (values ++ last ∷ [])) ≤ most
depth_with [] last most all here = omega arith
depth_with (value ∷ values) last most all here =
    let rest = depth_with values last most (omega arith) here in
    omega arith

-- a line nests no deeper than JSON is read
pub cup_shallow : (parts : List Part) (key : Option CupKey)
    → depth (value_with_key parts key) ≤ max_depth
cup_shallow parts None = shallow parts
cup_shallow parts (Some key) =
    let front = shallow parts in
    let flat = flat_integers key.parts in
    let inner = depth_with (map part_value parts) (key_value key) 126 (omega arith)
    (omega arith) in
    omega arith
