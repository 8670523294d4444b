-- The text of a line of a cup's proof is read as the line.
use Rattle.std.proofs.Common.{◌≡◌, ◌<◌, ◌≤◌, ◌^◌, ℕ, suc, ℤ, pos, negsuc, true, ◌&&◌, nat_le}
use Rattle.std.proofs.Common.{nat_lt, List, [], ◌∷◌, ◌++◌, map, codes, None, Some, option_map, refl}
use Rattle.std.proofs.Common.{sym, ap, ◌∙◌, arith, append-nil}
use Rattle.std.specs.Prelude.{option_and_then, int_le}
use Rattle.std.specs.List.{list_all}
use Rattle.std.proofs.lemmas.Bool.{and_parts, and_from, ltb-true, leb-true, lt-ltb}
use Rattle.std.proofs.lemmas.Int.{ints}
use Rattle.json.specs.Json as json
use Rattle.json.specs.Lex.{tokens}
use Rattle.json.specs.Tree as tree
use Rattle.json.proofs.Printed.Tokens.{tokens-print}
use Rattle.json.proofs.Printed.Trees.{value-json_tokens, ArePrintable-json_tokens}
use Rattle.json.proofs.Printed.Decimals.{IsNumber-decimal, IsNumber-signed_decimal}
use Rattle.json.proofs.Printed.Utf8.{are_ascii, IsUtf8-are_ascii}
use Rattle.serde_json.specs.Data.{Data, Items, number, string, array, unsigned, no_items, item}
use Rattle.serde_json.specs.Read.{read, of_json, of_items, max_depth}
use Rattle.serde_json.specs.Written.{outline, items_outline, compact_text}
use Rattle.serde_json.specs.View.{items_of}
use Rattle.serde_json.specs.Find.{of_integer}
use Rattle.serde_json.proofs.Texts.{print-outline}
use Rattle.serde_json.proofs.Numbers.{number_of-decimal, number_of-negative}
use Rattle.league_core.specs.declared.season.Score.{Score}
use Rattle.league_core.specs.declared.question.Claim.TheVariants.{Inside, Outside}
use Rattle.league_core.specs.game.Results.{is_score}
use Rattle.league_core.proofs.plain.TruthValues.{true_and_true, two_and_true}
use Rattle.cert_text.specs.Lines.{number_in_text, is_printed}
use Rattle.cert_text.specs.inside.Values.{part_value}
use Rattle.cert_text.specs.Ranges.{is_one_of}
use Rattle.cert_text.specs.Forms.{json_of}
use Rattle.cert_text.proofs.ReadLemmas.{json_of-utf8}
use Rattle.cert_text.proofs.PrintedLemmas.{is_small_below, small_number, small_test}
use Rattle.cert_text.proofs.ReadBackLemmas.{json_of-parts}
use Rattle.cup_sheet.specs.CupLimits.{most_cup_clubs, most_cup_fixtures, most_groups}
use Rattle.cup_sheet.specs.declared.question.GroupKind.{GroupKind}
use Rattle.cup_text.specs.declared.cup_line.CupKey.{CupKey}
use Rattle.cup_text.specs.declared.cup_line.CupReason.{CupReason}
use Rattle.cup_text.specs.declared.cup_line.CupReason.TheVariants.{Count, Window, Low, High, Tie}
use Rattle.cup_text.specs.declared.cup_line.CupLeaf.{CupLeaf}
use Rattle.cup_text.specs.declared.cup_line.CupLeaf.TheVariants.{Plain, In, Out, ByKey}
use Rattle.cup_text.specs.declared.cup_line.CupLine.{CupLine}
use Rattle.cup_text.specs.declared.cup_line.CupLine.TheVariants as line
use Rattle.cup_text.specs.CupForms.{is_rising, cup_line_in, cup_line_of_value}
use Rattle.cup_text.specs.CupLines.{cup_reason_parts, cup_leaf_parts, kind_word, head_parts}
use Rattle.cup_text.specs.CupLines.{cup_parts_of, cup_key_of, text_with_key, text_of_cup_line}
use Rattle.cup_text.specs.CupRanges.{is_cup_club, is_rising_below, is_key_part, is_cup_key}
use Rattle.cup_text.specs.CupRanges.{is_key_of_kind, is_cup_reason, is_cup_leaf, is_cup_line}
use Rattle.cup_text.specs.CupValues.{key_value, value_with_key, cup_line_value}
use Rattle.cup_text.proofs.CupTextLemmas.{plain_cup_line, cup_text}
use Rattle.cup_text.proofs.CupPrintedLemmas.{cup_printed}
use Rattle.cup_text.proofs.CupBackLemmas.{cup_line_back}

-- ---- any value

-- the outline of a value has numbers alone, stands for the value, and nests so deep at most
record Stands (shown : Data) (most : ℕ) : Type 0 where
  numbers : tree.HasNumbers (outline shown)
  same : of_json (outline shown) ≡ Some shown
  shallow : tree.depth (outline shown) ≤ most

-- so do those of a list's items
record AllStand (shown : Items) (most : ℕ) : Type 0 where
  numbers : tree.ItemsHaveNumbers (items_outline shown)
  same : of_items (items_outline shown) ≡ Some shown
  shallow : tree.items_depth (items_outline shown) ≤ most

-- none
none_stand : (most : ℕ) → AllStand no_items most
none_stand most = record { numbers = tt; same = refl; shallow = omega arith }

-- one more at the front
more_stand : (first : Data) (rest : Items) (most : ℕ) → Stands first most → AllStand rest most
    → AllStand (item first rest) most
more_stand first rest most here behind =
    let deep = here.shallow in
    let others = behind.shallow in
    record {
      numbers = (here.numbers, behind.numbers);
      same = ap (option_and_then (λ d. option_map (item d) (of_items (items_outline rest))))
          here.same
          ∙ ap (option_map (item first)) behind.same;
      shallow = omega arith;
    }

-- the list
list_stands : (shown : Items) (most : ℕ) → AllStand shown most → Stands (array shown) (suc most)
list_stands shown most all =
    let deep = all.shallow in
    record { numbers = all.numbers; same = ap (option_map array) all.same; shallow = omega arith }

-- deeper than it has to be
deeper : (shown : Data) (least most : ℕ) → least ≤ most → Stands shown least → Stands shown most
deeper shown least most less stands =
    let deep = stands.shallow in
    record { numbers = stands.numbers; same = stands.same; shallow = omega arith }

-- what stands for a value is read back
read-compact : (shown : Data) → Stands shown max_depth → read (compact_text shown) ≡ Some shown
read-compact shown stands =
    let ts = tree.json_tokens (outline shown) in
    let text : tokens (compact_text shown) ≡ ts ++ [] =
    ap tokens (sym (print-outline shown))
    ∙ tokens-print ts (ArePrintable-json_tokens (outline shown) stands.numbers)
    ∙ sym (append-nil ts) in
    ap (λ all. option_and_then of_json (option_and_then (λ p. json.if_last p.0 p.1)
    (json.value max_depth all))) text
    ∙ ap (λ found. option_and_then of_json (option_and_then (λ p. json.if_last p.0 p.1) found))
    (value-json_tokens (outline shown) max_depth [] stands.shallow)
    ∙ stands.same

-- ---- what stands in a line

word_stands : (name : List ℕ) → Stands (string name) 1
word_stands name = record { numbers = tt; same = refl; shallow = omega arith }

-- a number in decimal
number_stands : (n : ℕ) → n < 2 ^ 64 → Stands (number (unsigned n)) 0
number_stands n small = record {
  numbers = IsNumber-decimal n small;
  same = ap (option_map number) (number_of-decimal n small);
  shallow = omega arith;
}

-- a part of a key
key_part_stands : (part : ℤ) → is_key_part part ≡ true → Stands (number (of_integer part)) 0
key_part_stands (pos n) within =
    let ends = and_parts (int_le (negsuc 99999) (pos n)) (int_le (pos n) (pos 100000)) within in
    let below = small n ends.1 in
    number_stands n (omega arith)
  where
    small : (k : ℕ) → int_le (pos k) (pos 100000) ≡ true → k < 1000000
    small k h = grind (arith, ints)
key_part_stands (negsuc n) within =
    let ends = and_parts (int_le (negsuc 99999) (negsuc n)) (int_le (negsuc n) (pos 100000))
    within in
    let below = small n ends.0 in
    record {
      numbers = IsNumber-signed_decimal (negsuc n) (omega arith);
      same = ap (option_map number) (number_of-negative n (omega arith));
      shallow = omega arith;
    }
  where
    small : (k : ℕ) → int_le (negsuc 99999) (negsuc k) ≡ true → suc k < 1000000
    small k h = grind (arith, ints)

key_parts_stand : (parts : List ℤ) → list_all is_key_part parts ≡ true
    → AllStand (items_of (map (λ part. number (of_integer part)) parts)) 0
key_parts_stand [] known = none_stand 0
key_parts_stand (part ∷ parts) known =
    let both = and_parts (is_key_part part) (list_all is_key_part parts) known in
    more_stand _ _ 0 (key_part_stands part both.0) (key_parts_stand parts both.1)

-- the key that ends a line
key_stands : (key : CupKey) → is_cup_key key ≡ true → AllStand (item (key_value key) no_items) 1
key_stands key known =
    more_stand _ _ 1
    (list_stands _ 0
    (key_parts_stand key.parts (and_parts _ (list_all is_key_part key.parts) known).1))
    (none_stand 1)

-- the head of a tree, with what stands behind it
head_stands : (name : List ℕ) (kind : GroupKind) (club : ℕ) (rest : List Data)
    → is_cup_club club ≡ true → AllStand (items_of rest) 1
    → Stands (array (items_of (map part_value (head_parts name kind club) ++ rest))) 2
head_stands name kind club rest known behind =
    let below = ltb-true club most_cup_clubs known in
    list_stands _ 1
    (more_stand _ _ 1 (word_stands name)
    (more_stand _ _ 1 (word_stands (kind_word kind))
    (more_stand _ _ 1
    (deeper _ 0 1 (omega arith) (number_stands (number_in_text club) (omega (arith, below))))
    behind)))

-- ---- the text of a line as JSON

-- printed characters are ASCII
ascii_printed : (bytes : List ℕ) → list_all is_printed bytes ≡ true → are_ascii bytes ≡ true
ascii_printed [] known = refl
ascii_printed (byte ∷ bytes) known =
    let parts = and_parts (is_printed byte) (list_all is_printed bytes) known in
    let ends = and_parts (nat_le 32 byte) (nat_lt byte 127) parts.0 in
    let below = ltb-true byte 127 ends.1 in
    and_from (nat_lt byte 128) (are_ascii bytes) (lt-ltb byte 128 (omega arith))
    (ascii_printed bytes parts.1)

-- a line whose value stands
json_of-standing : (x : CupLine) → is_cup_line x ≡ true → Stands (cup_line_value x) 2
    → json_of (text_of_cup_line x) ≡ Some (cup_line_value x)
json_of-standing x known stands =
    json_of-utf8 (text_of_cup_line x)
    (IsUtf8-are_ascii (text_of_cup_line x)
    (ascii_printed (text_of_cup_line x) (cup_printed x known)))
    ∙ ap read (sym (cup_text x))
    ∙ read-compact (cup_line_value x) (deeper _ 2 max_depth (omega arith) stands)

-- a line without a key whose numbers are small
json_of-small : (x : CupLine) (most : ℕ) → most < 10000 → cup_key_of x ≡ None
    → list_all (is_small_below most) (cup_parts_of x) ≡ true
    → json_of (text_of_cup_line x) ≡ Some (cup_line_value x)
json_of-small x most few none small =
    ap (λ key. json_of (text_with_key (cup_parts_of x) key)) none
    ∙ json_of-parts most few (cup_parts_of x) (plain_cup_line x) small
    ∙ ap (λ key. Some (value_with_key (cup_parts_of x) key)) (sym none)

small_goals : (goals : ℕ) → nat_le goals 99 ≡ true → nat_lt goals 10000 ≡ true
small_goals goals known =
    let within = leb-true goals 99 known in
    lt-ltb goals 10000 (omega arith)

small_score : (fixture : ℕ) (score : Score)
    → (is_one_of most_cup_fixtures fixture && is_score score) ≡ true
    → (nat_lt (number_in_text fixture) 10000
    && (nat_lt score.home 10000 && (nat_lt score.away 10000 && true))) ≡ true
small_score fixture score known =
    let parts = and_parts (is_one_of most_cup_fixtures fixture) (is_score score) known in
    let sides = and_parts (nat_le score.home 99) (nat_le score.away 99) parts.1 in
    and_from (nat_lt (number_in_text fixture) 10000)
    (nat_lt score.home 10000 && (nat_lt score.away 10000 && true))
    (small_number most_cup_fixtures fixture (omega arith) parts.0)
    (two_and_true (nat_lt score.home 10000) (nat_lt score.away 10000)
    (small_goals score.home sides.0) (small_goals score.away sides.1))

small_rising : (most : ℕ) (list : List ℕ) → is_rising_below most list ≡ true
    → (list_all (is_one_of most) list && true) ≡ true
small_rising most list known =
    true_and_true (list_all (is_one_of most) list)
    (and_parts (is_rising list) (list_all (is_one_of most) list) known).1

small_reason : (reason : CupReason) → is_cup_reason reason ≡ true
    → list_all (is_small_below most_cup_clubs) (cup_reason_parts reason) ≡ true
small_reason Count known = refl
small_reason Window known = refl
small_reason (Low cut) known = small_rising most_cup_clubs cut.list known
small_reason (High cut) known = small_rising most_cup_clubs cut.list known
small_reason Tie known = refl

small_leaf : (leaf : CupLeaf) → is_cup_leaf leaf ≡ true
    → list_all (is_small_below most_cup_clubs) (cup_leaf_parts leaf) ≡ true
small_leaf (Plain reason) known = small_reason reason known
small_leaf (In reason) known = small_reason reason known
small_leaf (Out reason) known = small_reason reason known
small_leaf ByKey known = refl

-- the text of a line as JSON is the array of what stands in it
json_of-written : (x : CupLine) → is_cup_line x ≡ true
    → json_of (text_of_cup_line x) ≡ Some (cup_line_value x)
json_of-written (line.Finish Inside) known =
    json_of-small (line.Finish Inside) most_cup_clubs (omega arith) refl refl
json_of-written (line.Finish Outside) known =
    json_of-small (line.Finish Outside) most_cup_clubs (omega arith) refl refl
json_of-written (line.Score fixture score) known =
    json_of-small (line.Score fixture score) most_cup_clubs (omega arith) refl
    (small_score fixture score known)
json_of-written (line.Lots lots) known =
    json_of-small (line.Lots lots) most_cup_clubs (omega arith) refl
    (true_and_true (list_all (is_one_of most_cup_clubs) lots.list) known)
json_of-written (line.Spent kind club None) known =
    json_of-standing (line.Spent kind club None) known
    (head_stands (codes "group_spent") kind club []
    (and_parts (is_cup_club club) (is_key_of_kind kind None) known).0 (none_stand 1))
json_of-written (line.Spent kind club (Some key)) known =
    let both = and_parts (is_cup_club club) (is_key_of_kind kind (Some key)) known in
    json_of-standing (line.Spent kind club (Some key)) known
    (head_stands (codes "group_spent") kind club (key_value key ∷ []) both.0
    (key_stands key (and_parts _ (is_cup_key key) both.1).1))
json_of-written (line.Split test) known =
    json_of-small (line.Split test) most_cup_clubs (omega arith) refl
    (small_test most_cup_fixtures most_cup_clubs (omega arith) (omega arith) test known)
json_of-written (line.NewSplit test) known =
    json_of-small (line.NewSplit test) most_cup_clubs (omega arith) refl
    (small_test most_cup_fixtures most_cup_clubs (omega arith) (omega arith) test known)
json_of-written (line.Leaf leaf) known =
    json_of-small (line.Leaf leaf) most_cup_clubs (omega arith) refl (small_leaf leaf known)
json_of-written (line.NewLeaf leaf) known =
    json_of-small (line.NewLeaf leaf) most_cup_clubs (omega arith) refl (small_leaf leaf known)
json_of-written line.OpenLeaf known =
    json_of-small line.OpenLeaf most_cup_clubs (omega arith) refl refl
json_of-written (line.KeyLine key) known =
    json_of-standing (line.KeyLine key) known
    (list_stands _ 1 (more_stand _ _ 1 (word_stands (codes "key")) (key_stands key known)))
json_of-written (line.Groups groups) known =
    json_of-small (line.Groups groups) most_groups (omega arith) refl
    (small_rising most_groups groups.list known)
json_of-written (line.Tree kind club) known =
    json_of-standing (line.Tree kind club) known
    (head_stands (codes "group_tree") kind club [] known (none_stand 1))

-- the text of a line is read as the line
pub cup_line_in-written : (x : CupLine) → is_cup_line x ≡ true
    → cup_line_in (text_of_cup_line x) ≡ Some x
cup_line_in-written x known =
    ap (option_and_then cup_line_of_value) (json_of-written x known)
    ∙ cup_line_back x known
