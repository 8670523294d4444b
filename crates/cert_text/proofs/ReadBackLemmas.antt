-- The compact JSON of a line's parts is read as what it was made of, so the text of a line is read
-- as the line.
use Rattle.std.proofs.Common.{◌≡◌, ◌<◌, ◌≤◌, ◌^◌, ℕ, suc, ℤ, pos, negsuc, true, List, [], ◌∷◌}
use Rattle.std.proofs.Common.{◌++◌, map, Some, option_map, refl, sym, ap, ◌∙◌, arith, append-nil}
use Rattle.std.proofs.Common.{nat_lt, nat_le}
use Rattle.std.specs.Prelude.{option_and_then, int_le}
use Rattle.std.specs.List.{list_all}
use Rattle.std.proofs.lemmas.Bool.{and_parts, and_from, ltb-true, lt-ltb}
use Rattle.std.proofs.lemmas.Int.{ints}
use Rattle.json.specs.Json as json
use Rattle.json.specs.Lex.{tokens}
use Rattle.json.specs.Tree as tree
use Rattle.json.proofs.Printed.Tokens.{tokens-print}
use Rattle.json.proofs.Printed.Trees.{value-json_tokens, ArePrintable-json_tokens}
use Rattle.json.proofs.Printed.Decimals.{IsNumber-decimal, IsNumber-signed_decimal}
use Rattle.json.proofs.Printed.Utf8.{are_ascii, IsUtf8-are_ascii}
use Rattle.serde_json.specs.Data.{Data, Items, number, array, unsigned, no_items, item}
use Rattle.serde_json.specs.Read.{read, of_json, of_items, max_depth}
use Rattle.serde_json.specs.Written.{outline, items_outline, compact_text}
use Rattle.serde_json.specs.View.{items_of}
use Rattle.serde_json.specs.Find.{of_integer}
use Rattle.serde_json.proofs.Texts.{print-outline}
use Rattle.serde_json.proofs.Numbers.{number_of-decimal, number_of-negative}
use Rattle.league_core.specs.game.Limits.{most_clubs}
use Rattle.cert_text.specs.declared.proof_line.ProofLine.{ProofLine}
use Rattle.cert_text.specs.Lines.{Part, word, whole, points, clubs, number_in_text, parts_of}
use Rattle.cert_text.specs.Lines.{array_text, part_text}
use Rattle.cert_text.specs.Lines.{text_of_proof_line, is_printed}
use Rattle.cert_text.specs.inside.Values.{part_value, parts_value}
use Rattle.cert_text.specs.Ranges.{is_one_of, is_in_range, are_points}
use Rattle.cert_text.specs.inside.Widths.{is_line_kept}
use Rattle.cert_text.specs.Forms.{json_of, line_in, line_of_value}
use Rattle.cert_text.proofs.LineLemmas.{is_plain_part, text_of_parts, plain_line}
use Rattle.cert_text.proofs.PrintedLemmas.{is_small_below, is_small_part, small_line}
use Rattle.cert_text.proofs.PrintedLemmas.{parts_printed}
use Rattle.cert_text.proofs.ReadLemmas.{json_of-utf8}
use Rattle.cert_text.proofs.FormLemmas.{line_back}

-- ---- any value

-- the outline of a value has numbers alone, stands for the value, and nests so deep at most
pub record Stands (shown : Data) (most : ℕ) : Type 0 where
  pub numbers : tree.HasNumbers (outline shown)
  pub same : of_json (outline shown) ≡ Some shown
  pub shallow : tree.depth (outline shown) ≤ most

-- so do those of a list's items
pub record AllStand (shown : Items) (most : ℕ) : Type 0 where
  pub numbers : tree.ItemsHaveNumbers (items_outline shown)
  pub same : of_items (items_outline shown) ≡ Some shown
  pub shallow : tree.items_depth (items_outline shown) ≤ most

-- none
none_stand : (most : ℕ) → AllStand no_items most
none_stand most = record { numbers = tt; same = refl; shallow = omega arith }

-- one more at the front
more_stand : (first : Data) (rest : Items) (most : ℕ) → Stands first most → AllStand rest most
    → AllStand (item first rest) most
more_stand first rest most here behind =
    let deep = here.shallow in
    let others = behind.shallow in
    record {
      numbers = (here.numbers, behind.numbers);
      same = ap (option_and_then (λ d. option_map (item d) (of_items (items_outline rest))))
          here.same
          ∙ ap (option_map (item first)) behind.same;
      shallow = omega arith;
    }

-- the list
list_stands : (shown : Items) (most : ℕ) → AllStand shown most → Stands (array shown) (suc most)
list_stands shown most all =
    let deep = all.shallow in
    record { numbers = all.numbers; same = ap (option_map array) all.same; shallow = omega arith }

-- what stands for a value is read back
read-compact : (d : Data) → Stands d max_depth → read (compact_text d) ≡ Some d
read-compact d stands =
    let ts = tree.json_tokens (outline d) in
    let text : tokens (compact_text d) ≡ ts ++ [] =
    ap tokens (sym (print-outline d))
    ∙ tokens-print ts (ArePrintable-json_tokens (outline d) stands.numbers)
    ∙ sym (append-nil ts) in
    ap (λ all. option_and_then of_json (option_and_then (λ p. json.if_last p.0 p.1)
    (json.value max_depth all))) text
    ∙ ap (λ found. option_and_then of_json (option_and_then (λ p. json.if_last p.0 p.1) found))
    (value-json_tokens (outline d) max_depth [] stands.shallow)
    ∙ stands.same

-- ---- the parts of a line

-- a number in decimal
number_stands : (n : ℕ) → n < 2 ^ 64 → Stands (number (unsigned n)) 0
number_stands n small = record {
  numbers = IsNumber-decimal n small;
  same = ap (option_map number) (number_of-decimal n small);
  shallow = omega arith;
}

-- deeper than it has to be
deeper : (d : Data) (least most : ℕ) → least ≤ most → Stands d least → Stands d most
deeper d least most less stands =
    let deep = stands.shallow in
    record { numbers = stands.numbers; same = stands.same; shallow = omega arith }

points_stand : (n : ℤ) → are_points n ≡ true → Stands (number (of_integer n)) 0
points_stand (pos n) within =
    let ends = and_parts (int_le (negsuc 98) (pos n)) (int_le (pos n) (pos 1800)) within in
    let below = small n ends.1 in
    number_stands n (omega arith)
  where
    small : (k : ℕ) → int_le (pos k) (pos 1800) ≡ true → k < 10000
    small k h = grind (arith, ints)
points_stand (negsuc n) within =
    let ends = and_parts (int_le (negsuc 98) (negsuc n)) (int_le (negsuc n) (pos 1800)) within in
    let below = small n ends.0 in
    record {
      numbers = IsNumber-signed_decimal (negsuc n) (omega arith);
      same = ap (option_map number) (number_of-negative n (omega arith));
      shallow = omega arith;
    }
  where
    small : (k : ℕ) → int_le (negsuc 98) (negsuc k) ≡ true → suc k < 10000
    small k h = grind (arith, ints)

clubs_stand : (most : ℕ) → most < 10000 → (list : List ℕ) → list_all (is_one_of most) list ≡ true
    → AllStand (items_of (map (λ club. number (unsigned (number_in_text club))) list)) 0
clubs_stand most few [] known = none_stand 0
clubs_stand most few (club ∷ list) known =
    let parts = and_parts (is_one_of most club) (list_all (is_one_of most) list) known in
    let below = ltb-true club most parts.0 in
    more_stand _ _ 0 (number_stands (number_in_text club) (omega (arith, below, few)))
    (clubs_stand most few list parts.1)

part_stands : (most : ℕ) → most < 10000 → (part : Part) → is_small_below most part ≡ true
    → Stands (part_value part) 1
part_stands most few (word name) known =
    record { numbers = tt; same = refl; shallow = omega arith }
part_stands most few (whole n) known =
    let below = ltb-true n 10000 known in
    deeper _ 0 1 (omega arith) (number_stands n (omega arith))
part_stands most few (points n) known = deeper _ 0 1 (omega arith) (points_stand n known)
part_stands most few (clubs list) known = list_stands _ 0 (clubs_stand most few list known)

parts_stand : (most : ℕ) → most < 10000 → (parts : List Part)
    → list_all (is_small_below most) parts ≡ true → AllStand (items_of (map part_value parts)) 1
parts_stand most few [] known = none_stand 1
parts_stand most few (part ∷ parts) known =
    let both = and_parts (is_small_below most part) (list_all (is_small_below most) parts) known in
    more_stand _ _ 1 (part_stands most few part both.0) (parts_stand most few parts both.1)

-- ---- the text of a line

-- printed characters are ASCII
ascii_printed : (bytes : List ℕ) → list_all is_printed bytes ≡ true → are_ascii bytes ≡ true
ascii_printed [] known = refl
ascii_printed (byte ∷ bytes) known =
    let parts = and_parts (is_printed byte) (list_all is_printed bytes) known in
    let ends = and_parts (nat_le 32 byte) (nat_lt byte 127) parts.0 in
    let below = ltb-true byte 127 ends.1 in
    and_from (nat_lt byte 128) (are_ascii bytes) (lt-ltb byte 128 (omega arith))
    (ascii_printed bytes parts.1)

-- the text of parts as JSON is the array of their values
read-parts : (most : ℕ) → most < 10000 → (parts : List Part) → list_all is_plain_part parts ≡ true
    → list_all (is_small_below most) parts ≡ true
    → read (array_text (map part_text parts)) ≡ Some (parts_value parts)
read-parts most few parts plain small =
    let stands = list_stands (items_of (map part_value parts)) 1 (parts_stand most few parts
    small) in
    ap read (sym (text_of_parts parts plain))
    ∙ read-compact (parts_value parts) (deeper _ 2 max_depth (omega arith) stands)

-- which is UTF-8
pub json_of-parts : (most : ℕ) → most < 10000 → (parts : List Part)
    → list_all is_plain_part parts ≡ true → list_all (is_small_below most) parts ≡ true
    → json_of (array_text (map part_text parts)) ≡ Some (parts_value parts)
json_of-parts most few parts plain small =
    let text = array_text (map part_text parts) in
    json_of-utf8 text
    (IsUtf8-are_ascii text (ascii_printed text (parts_printed most few parts small)))
    ∙ read-parts most few parts plain small

-- and has the form that the array has
pub line_in-parts : (parts : List Part) → list_all is_plain_part parts ≡ true
    → list_all is_small_part parts ≡ true
    → line_in (array_text (map part_text parts)) ≡ line_of_value (parts_value parts)
line_in-parts parts plain small =
    ap (option_and_then line_of_value) (json_of-parts most_clubs (omega arith) parts plain small)

-- the text of a line as JSON is the array of its parts
pub read-written : (x : ProofLine) → is_in_range x ≡ true
    → read (text_of_proof_line x) ≡ Some (parts_value (parts_of x))
read-written x within =
    read-parts most_clubs (omega arith) (parts_of x) (plain_line x) (small_line x within)

-- the text of a line is read as the line
pub line_in-written : (x : ProofLine) → is_in_range x ≡ true → is_line_kept x ≡ true
    → line_in (text_of_proof_line x) ≡ Some x
line_in-written x within kept =
    line_in-parts (parts_of x) (plain_line x) (small_line x within)
    ∙ line_back x within kept
