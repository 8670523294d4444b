-- The text of a line in range has printed characters alone.
use Rattle.std.proofs.Common.{◌≡◌, ℕ, suc, ◌+◌, ◌<◌, ◌≤◌, ◌%◌, ◌^◌, ℤ, pos, negsuc, true}
use Rattle.std.proofs.Common.{◌&&◌, nat_lt, nat_le, List, [], ◌∷◌, ◌++◌, map, decimal, refl, ◌∙◌}
use Rattle.std.proofs.Common.{sym, ap, None, Some, arith}
use Rattle.std.specs.Prelude.{int_le}
use Rattle.std.specs.List.{list_all, join_with_byte}
use Rattle.std.specs.Fmt.{signed_decimal}
use Rattle.std.proofs.lemmas.Bool.{and_parts, and_from, ltb-true, leb-true, lt-ltb, le-leb}
use Rattle.std.proofs.lemmas.Int.{ints}
use Rattle.std.proofs.lemmas.Fmt.{decimal_by_steps}
use Rattle.std.proofs.lemmas.List.Folds.{list_all-append}
use Rattle.league_core.proofs.plain.TruthValues.{true_and_true, two_and_true}
use Rattle.league_core.specs.declared.season.Score.{Score}
use Rattle.league_core.specs.game.Results.{is_score}
use Rattle.league_core.specs.declared.question.Claim.{Claim}
use Rattle.league_core.specs.declared.question.Claim.TheVariants.{Inside, Outside}
use Rattle.cup_sheet.specs.CupLimits.{most_groups}
use Rattle.cup_sheet.specs.declared.question.GroupKind.{GroupKind}
use Rattle.cup_sheet.specs.declared.question.GroupKind.TheVariants.{Top, Below, SecondLess}
use Rattle.cup_sheet.specs.declared.question.GroupKind.TheVariants.{SecondAtLeast, SecondMore}
use Rattle.cup_sheet.specs.declared.question.GroupKind.TheVariants.{SecondAtMost}
use Rattle.cert_text.specs.Lines.{Part, array_text, part_text, claim_word, number_in_text}
use Rattle.cert_text.specs.Lines.{is_printed}
use Rattle.cert_text.specs.Ranges.{is_one_of}
use Rattle.cert_text.proofs.PrintedLemmas.{is_small_below, small_number, small_test, parts_printed}
use Rattle.cup_text.specs.declared.cup_line.CupKey.{CupKey}
use Rattle.cup_text.specs.declared.cup_line.CupReason.{CupReason}
use Rattle.cup_text.specs.declared.cup_line.CupReason.TheVariants.{Count, Window, Low, High, Tie}
use Rattle.cup_text.specs.declared.cup_line.CupLeaf.{CupLeaf}
use Rattle.cup_text.specs.declared.cup_line.CupLeaf.TheVariants.{Plain, In, Out, ByKey}
use Rattle.cup_text.specs.declared.cup_line.CupLine.{CupLine}
use Rattle.cup_text.specs.declared.cup_line.CupLine.TheVariants as line
use Rattle.cup_text.specs.CupForms.{is_rising}
use Rattle.cup_sheet.specs.CupLimits.{most_cup_clubs, most_cup_fixtures}
use Rattle.cup_text.specs.CupLines.{cup_reason_parts, cup_leaf_parts, kind_word, cup_parts_of}
use Rattle.cup_text.specs.CupLines.{cup_key_of, key_text, text_with_key, text_of_cup_line}
use Rattle.cup_text.specs.CupRanges.{is_cup_club, is_rising_below, is_key_part, is_cup_key}
use Rattle.cup_text.specs.CupRanges.{is_key_of_kind, is_cup_reason, is_cup_leaf, is_cup_line}

-- ---- texts

one_printed : (byte : ℕ) → 32 ≤ byte → byte < 127 → list_all is_printed (byte ∷ []) ≡ true
one_printed byte low high =
    and_from (is_printed byte) true
    (and_from (nat_le 32 byte) (nat_lt byte 127) (le-leb 32 byte low) (lt-ltb byte 127 high)) refl

both_printed : (xs ys : List ℕ) → list_all is_printed xs ≡ true → list_all is_printed ys ≡ true
    → list_all is_printed (xs ++ ys) ≡ true
both_printed xs ys first second =
    list_all-append is_printed xs ys
    ∙ and_from (list_all is_printed xs) (list_all is_printed ys) first second

-- digits are printed
digits_printed : (n : ℕ) → n < 2 ^ 64 → list_all is_printed (decimal n) ≡ true
digits_printed = decimal_by_steps (λ n ds. list_all is_printed ds ≡ true)
    (λ n small. one_printed (48 + n) (omega arith) (omega arith))
    (λ n ds large printed. both_printed ds ((48 + n % 10) ∷ []) printed
    (one_printed (48 + n % 10) (omega arith) (omega arith)))

-- printed items with commas between them are printed
items_printed : (items : List (List ℕ)) → list_all (list_all is_printed) items ≡ true
    → list_all is_printed (join_with_byte 44 items) ≡ true
items_printed [] all = refl
items_printed (item ∷ []) all = (and_parts (list_all is_printed item) true all).0
items_printed (item ∷ next ∷ items) all =
    let parts = and_parts (list_all is_printed item)
    (list_all (list_all is_printed) (next ∷ items)) all in
    both_printed item (44 ∷ join_with_byte 44 (next ∷ items)) parts.0
    (items_printed (next ∷ items) parts.1)

-- and so is their array
array_printed : (items : List (List ℕ)) → list_all (list_all is_printed) items ≡ true
    → list_all is_printed (array_text items) ≡ true
array_printed items all =
    both_printed (91 ∷ join_with_byte 44 items) (93 ∷ []) (items_printed items all) refl

part_of_key_printed : (n : ℤ) → is_key_part n ≡ true → list_all is_printed (signed_decimal n) ≡ true
part_of_key_printed (pos n) within =
    let ends = and_parts (int_le (negsuc 99999) (pos n)) (int_le (pos n) (pos 100000)) within in
    digits_printed n (omega (arith, small n ends.1))
  where
    small : (k : ℕ) → int_le (pos k) (pos 100000) ≡ true → k < 1000000
    small k h = grind (arith, ints)
part_of_key_printed (negsuc n) within =
    let ends = and_parts (int_le (negsuc 99999) (negsuc n)) (int_le (negsuc n) (pos 100000))
    within in
    digits_printed (suc n) (omega (arith, small n ends.0))
  where
    small : (k : ℕ) → int_le (negsuc 99999) (negsuc k) ≡ true → suc k < 1000000
    small k h = grind (arith, ints)

parts_of_key_printed : (list : List ℤ) → list_all is_key_part list ≡ true
    → list_all (list_all is_printed) (map signed_decimal list) ≡ true
parts_of_key_printed [] all = refl
parts_of_key_printed (part ∷ list) all =
    let each = and_parts (is_key_part part) (list_all is_key_part list) all in
    and_from (list_all is_printed (signed_decimal part))
    (list_all (list_all is_printed) (map signed_decimal list))
    (part_of_key_printed part each.0) (parts_of_key_printed list each.1)

-- a part by itself
part_alone : (part : Part) → is_small_below most_cup_clubs part ≡ true
    → list_all is_printed (part_text part) ≡ true
part_alone part small =
    let whole = parts_printed most_cup_clubs (omega arith) (part ∷ [])
    (true_and_true (is_small_below most_cup_clubs part) small) in
    (and_parts (list_all is_printed (part_text part)) (list_all is_printed (93 ∷ []))
    (sym (list_all-append is_printed (part_text part) (93 ∷ [])) ∙ whole)).0

-- parts with a text behind them
with_last_printed : (parts : List Part) (last : List ℕ)
    → list_all (is_small_below most_cup_clubs) parts ≡ true → list_all is_printed last ≡ true
    → list_all (list_all is_printed) (map part_text parts ++ last ∷ []) ≡ true
with_last_printed [] last small printed = true_and_true (list_all is_printed last) printed
with_last_printed (part ∷ parts) last small printed =
    let each = and_parts (is_small_below most_cup_clubs part)
    (list_all (is_small_below most_cup_clubs) parts) small in
    and_from (list_all is_printed (part_text part))
    (list_all (list_all is_printed) (map part_text parts ++ last ∷ []))
    (part_alone part each.0) (with_last_printed parts last each.1 printed)

key_printed : (key : CupKey) → is_cup_key key ≡ true → list_all is_printed (key_text key) ≡ true
key_printed key known =
    array_printed (map signed_decimal key.parts)
    (parts_of_key_printed key.parts (and_parts _ (list_all is_key_part key.parts) known).1)

-- ---- small numbers

small_claim : (claim : Claim) → list_all is_printed (claim_word claim) ≡ true
small_claim Inside = refl
small_claim Outside = refl

small_kind : (kind : GroupKind) → list_all is_printed (kind_word kind) ≡ true
small_kind Top = refl
small_kind Below = refl
small_kind SecondLess = refl
small_kind SecondAtLeast = refl
small_kind SecondMore = refl
small_kind SecondAtMost = refl

small_head : (kind : GroupKind) (club : ℕ) → is_cup_club club ≡ true
    → (list_all is_printed (kind_word kind) && (nat_lt (number_in_text club) 10000 && true)) ≡ true
small_head kind club known =
    two_and_true (list_all is_printed (kind_word kind)) (nat_lt (number_in_text club) 10000)
    (small_kind kind) (small_number most_cup_clubs club (omega arith) known)

-- numbers below a bound are below a greater one
small_list : (few most : ℕ) → few ≤ most → (list : List ℕ) → list_all (is_one_of few) list ≡ true
    → list_all (is_one_of most) list ≡ true
small_list few most less [] all = refl
small_list few most less (one ∷ list) all =
    let each = and_parts (is_one_of few one) (list_all (is_one_of few) list) all in
    let below = ltb-true one few each.0 in
    and_from (is_one_of most one) (list_all (is_one_of most) list)
    (lt-ltb one most (omega (arith, below, less))) (small_list few most less list each.1)

small_rising : (most : ℕ) → most ≤ most_cup_clubs → (list : List ℕ)
    → is_rising_below most list ≡ true
    → (list_all (is_one_of most_cup_clubs) list && true) ≡ true
small_rising most few list known =
    true_and_true (list_all (is_one_of most_cup_clubs) list)
    (small_list most most_cup_clubs few list
    (and_parts (is_rising list) (list_all (is_one_of most) list) known).1)

small_reason : (reason : CupReason) → is_cup_reason reason ≡ true
    → list_all (is_small_below most_cup_clubs) (cup_reason_parts reason) ≡ true
small_reason Count known = refl
small_reason Window known = refl
small_reason (Low cut) known = small_rising most_cup_clubs (omega arith) cut.list known
small_reason (High cut) known = small_rising most_cup_clubs (omega arith) cut.list known
small_reason Tie known = refl

small_leaf : (leaf : CupLeaf) → is_cup_leaf leaf ≡ true
    → list_all (is_small_below most_cup_clubs) (cup_leaf_parts leaf) ≡ true
small_leaf (Plain reason) known = small_reason reason known
small_leaf (In reason) known = small_reason reason known
small_leaf (Out reason) known = small_reason reason known
small_leaf ByKey known = refl

small_goals : (goals : ℕ) → nat_le goals 99 ≡ true → nat_lt goals 10000 ≡ true
small_goals goals known =
    let within = leb-true goals 99 known in
    lt-ltb goals 10000 (omega arith)

small_score : (fixture : ℕ) (score : Score)
    → (is_one_of most_cup_fixtures fixture && is_score score) ≡ true
    → (nat_lt (number_in_text fixture) 10000
    && (nat_lt score.home 10000 && (nat_lt score.away 10000 && true))) ≡ true
small_score fixture score known =
    let parts = and_parts (is_one_of most_cup_fixtures fixture) (is_score score) known in
    let sides = and_parts (nat_le score.home 99) (nat_le score.away 99) parts.1 in
    and_from (nat_lt (number_in_text fixture) 10000)
    (nat_lt score.home 10000 && (nat_lt score.away 10000 && true))
    (small_number most_cup_fixtures fixture (omega arith) parts.0)
    (two_and_true (nat_lt score.home 10000) (nat_lt score.away 10000)
    (small_goals score.home sides.0) (small_goals score.away sides.1))

small_parts : (x : CupLine) → is_cup_line x ≡ true
    → list_all (is_small_below most_cup_clubs) (cup_parts_of x) ≡ true
small_parts (line.Finish claim) known =
    true_and_true (list_all is_printed (claim_word claim)) (small_claim claim)
small_parts (line.Score fixture score) known = small_score fixture score known
small_parts (line.Lots lots) known =
    true_and_true (list_all (is_one_of most_cup_clubs) lots.list) known
small_parts (line.Spent kind club key) known =
    small_head kind club (and_parts (is_cup_club club) (is_key_of_kind kind key) known).0
small_parts (line.Split test) known =
    small_test most_cup_fixtures most_cup_clubs (omega arith) (omega arith) test known
small_parts (line.NewSplit test) known =
    small_test most_cup_fixtures most_cup_clubs (omega arith) (omega arith) test known
small_parts (line.Leaf leaf) known = small_leaf leaf known
small_parts (line.NewLeaf leaf) known = small_leaf leaf known
small_parts line.OpenLeaf known = refl
small_parts (line.KeyLine key) known = refl
small_parts (line.Groups groups) known =
    small_rising most_groups (omega arith) groups.list known
small_parts (line.Tree kind club) known = small_head kind club known

-- the key of a line is printed
with_key_printed : (parts : List Part) (key : CupKey)
    → list_all (is_small_below most_cup_clubs) parts ≡ true → is_cup_key key ≡ true
    → list_all is_printed (text_with_key parts (Some key)) ≡ true
with_key_printed parts key small known =
    array_printed (map part_text parts ++ key_text key ∷ [])
    (with_last_printed parts (key_text key) small (key_printed key known))

without_key : (x : CupLine) → cup_key_of x ≡ None → is_cup_line x ≡ true
    → list_all is_printed (text_of_cup_line x) ≡ true
without_key x none known =
    ap (λ key. list_all is_printed (text_with_key (cup_parts_of x) key)) none
    ∙ parts_printed most_cup_clubs (omega arith) (cup_parts_of x) (small_parts x known)

-- the text of a line in range is printed
pub cup_printed : (x : CupLine) → is_cup_line x ≡ true
    → list_all is_printed (text_of_cup_line x) ≡ true
cup_printed (line.Finish claim) known = without_key (line.Finish claim) refl known
cup_printed (line.Score fixture score) known = without_key (line.Score fixture score) refl known
cup_printed (line.Lots lots) known = without_key (line.Lots lots) refl known
cup_printed (line.Spent kind club None) known = without_key (line.Spent kind club None) refl known
cup_printed (line.Spent kind club (Some key)) known =
    let both = and_parts (is_cup_club club) (is_key_of_kind kind (Some key)) known in
    with_key_printed (cup_parts_of (line.Spent kind club (Some key))) key
    (small_head kind club both.0) (and_parts _ (is_cup_key key) both.1).1
cup_printed (line.Split test) known = without_key (line.Split test) refl known
cup_printed (line.NewSplit test) known = without_key (line.NewSplit test) refl known
cup_printed (line.Leaf leaf) known = without_key (line.Leaf leaf) refl known
cup_printed (line.NewLeaf leaf) known = without_key (line.NewLeaf leaf) refl known
cup_printed line.OpenLeaf known = without_key line.OpenLeaf refl known
cup_printed (line.KeyLine key) known =
    with_key_printed (cup_parts_of (line.KeyLine key)) key refl known
cup_printed (line.Groups groups) known = without_key (line.Groups groups) refl known
cup_printed (line.Tree kind club) known = without_key (line.Tree kind club) refl known
