-- The value of a line in range has the line's form.
use Rattle.std.proofs.Common.{◌≡◌, ℕ, ◌+◌, ◌-◌, ◌<◌, ◌≤◌, ◌^◌, ℤ, pos, negsuc, true}
use Rattle.std.proofs.Common.{◌&&◌, ◌==◌, nat_le, List, [], ◌∷◌, map, codes, length, Some, None}
use Rattle.std.proofs.Common.{Option, refl, ap, ◌∙◌, cond, arith}
use Rattle.std.specs.Prelude.{int_le, option_map, option_and_then}
use Rattle.std.specs.List.{list_all}
use Rattle.std.proofs.lemmas.Bool.{and_parts, and_from, ltb-true, leb-true, lt-ltb, le-leb}
use Rattle.std.proofs.lemmas.Bool.{false≢true}
use Rattle.std.proofs.lemmas.Int.{ints}
use Rattle.serde_json.specs.Data.{Data, number, unsigned}
use Rattle.serde_json.specs.Find.{of_integer, as_i64}
use Rattle.serde_json.specs.View.{items_of}
use Rattle.league_core.specs.declared.question.Claim.TheVariants.{Inside, Outside}
use Rattle.cup_sheet.specs.CupLimits.{most_groups}
use Rattle.cup_sheet.specs.declared.question.GroupKind.{GroupKind}
use Rattle.cup_sheet.specs.declared.question.GroupKind.TheVariants.{Top, Below, SecondLess}
use Rattle.cup_sheet.specs.declared.question.GroupKind.TheVariants.{SecondAtLeast, SecondMore}
use Rattle.cup_sheet.specs.declared.question.GroupKind.TheVariants.{SecondAtMost}
use Rattle.cert_text.specs.declared.proof_line.ClubList.{ClubList}
use Rattle.cert_text.specs.Lines.{word, number_in_text}
use Rattle.cert_text.specs.Ranges.{is_one_of}
use Rattle.cert_text.specs.inside.Values.{parts_value}
use Rattle.cert_text.specs.Places.{if_between, number_here, listed_clubs}
use Rattle.cert_text.proofs.FormLemmas.{clubs_back, test_below_back}
use Rattle.cup_text.specs.declared.cup_line.CupKey.{CupKey}
use Rattle.cup_text.specs.declared.cup_line.CupReason.{CupReason}
use Rattle.cup_text.specs.declared.cup_line.CupReason.TheVariants.{Count, Window, Low, High, Tie}
use Rattle.cup_text.specs.declared.cup_line.CupLeaf.{CupLeaf}
use Rattle.cup_text.specs.declared.cup_line.CupLeaf.TheVariants.{Plain, In, Out, ByKey}
use Rattle.cup_text.specs.declared.cup_line.CupLine.{CupLine}
use Rattle.cup_text.specs.declared.cup_line.CupLine.TheVariants as line
use Rattle.cup_text.specs.CupForms.{is_rising, rising_list}
use Rattle.cup_sheet.specs.CupLimits.{most_cup_clubs, most_cup_fixtures}
use Rattle.cup_text.specs.CupForms.{if_part, listed_parts, key_list, cup_leaf_in}
use Rattle.cup_text.specs.CupForms.{kind_named, group_spent_of}
use Rattle.cup_text.specs.CupForms.{cup_line_of_value}
use Rattle.cup_text.specs.CupLines.{cup_leaf_parts, kind_word, head_parts}
use Rattle.cup_text.specs.CupRanges.{is_cup_club, is_rising_below, is_key_part, is_cup_key}
use Rattle.cup_text.specs.CupRanges.{is_key_of_kind, is_cup_leaf, is_cup_line}
use Rattle.cup_text.specs.CupValues.{value_with_key, cup_line_value}

-- ---- numbers and lists

between : (least most n : ℕ) → least ≤ n → n ≤ most → if_between least most n ≡ Some n
between least most n low high =
    ap (λ b. cond b (Some n) None)
    (and_from (nat_le least n) (nat_le n most) (le-leb least n low) (le-leb n most high))

-- a number in a text, counted from 0 again
number_back : (most n : ℕ) → is_one_of most n ≡ true
    → option_map number_here (if_between 1 most (number_in_text n)) ≡ Some n
number_back most n known =
    let below = ltb-true n most known in
    ap (option_map number_here)
    (between 1 most (number_in_text n) (omega arith) (omega (arith, below)))
    ∙ ap Some (back n)
  where
    back : (n : ℕ) → n + 1 - 1 ≡ n
    back n = omega arith

goals_back : (n : ℕ) → nat_le n 99 ≡ true → if_between 0 99 n ≡ Some n
goals_back n high = between 0 99 n (omega arith) (leb-true n 99 high)

-- a list that rises
rising_back : (most : ℕ) (list : List ℕ) → is_rising_below most list ≡ true
    → option_and_then rising_list
    (listed_clubs most (items_of (map (λ club. number (unsigned (number_in_text club))) list)))
    ≡ Some list
rising_back most list known =
    let both = and_parts (is_rising list) (list_all (is_one_of most) list) known in
    ap (option_and_then rising_list) (clubs_back most list both.1)
    ∙ ap (λ b. cond b (Some list) None) both.0

part_back : (part : ℤ) → is_key_part part ≡ true
    → option_and_then if_part (as_i64 (of_integer part)) ≡ Some part
part_back (pos n) within =
    ap (λ b. option_and_then if_part (cond b (Some (pos n)) None))
    (lt-ltb n (2 ^ 63) (omega (arith, small n high)))
    ∙ ap (λ b. cond b (Some (pos n)) None) within
  where
    high : int_le (pos n) (pos 100000) ≡ true
    high = (and_parts (int_le (negsuc 99999) (pos n)) (int_le (pos n) (pos 100000)) within).1

    small : (k : ℕ) → int_le (pos k) (pos 100000) ≡ true → k < 1000000
    small k h = grind (arith, ints)
part_back (negsuc n) within = ap (λ b. cond b (Some (negsuc n)) None) within

parts_back : (list : List ℤ) → list_all is_key_part list ≡ true
    → listed_parts (items_of (map (λ part. number (of_integer part)) list)) ≡ Some list
parts_back [] all = refl
parts_back (part ∷ list) all =
    let each = and_parts (is_key_part part) (list_all is_key_part list) all in
    let rest = listed_parts (items_of (map (λ part. number (of_integer part)) list)) in
    ap (λ first. option_and_then (λ part. option_map (λ parts. part ∷ parts) rest) first)
    (part_back part each.0)
    ∙ ap (option_map (λ parts. part ∷ parts)) (parts_back list each.1)

-- a key
key_back : (key : CupKey) → is_cup_key key ≡ true
    → key_list (listed_parts (items_of (map (λ part. number (of_integer part)) key.parts)))
    ≡ Some key
key_back key known =
    let both = and_parts (length key.parts == 7) (list_all is_key_part key.parts) known in
    ap key_list (parts_back key.parts both.1)
    ∙ ap (λ b. cond b (Some key) None) both.0

-- ---- forms

kind_back : (kind : GroupKind) → kind_named (kind_word kind) ≡ Some kind
kind_back Top = refl
kind_back Below = refl
kind_back SecondLess = refl
kind_back SecondAtLeast = refl
kind_back SecondMore = refl
kind_back SecondAtMost = refl

score_back : (fixture home away : ℕ)
    → (is_one_of most_cup_fixtures fixture && (nat_le home 99 && nat_le away 99)) ≡ true
    → cup_line_of_value (cup_line_value
    (line.Score fixture (record { home = home; away = away })))
    ≡ Some (line.Score fixture (record { home = home; away = away }))
score_back fixture home away within =
    let parts = and_parts (is_one_of most_cup_fixtures fixture) (nat_le home 99 && nat_le away 99)
    within in
    let sides = and_parts (nat_le home 99) (nat_le away 99) parts.1 in
    ap (option_and_then (λ f. option_and_then (λ h. option_map (λ a. scored f h a)
    (if_between 0 99 away)) (if_between 0 99 home))) (number_back most_cup_fixtures fixture parts.0)
    ∙ ap (option_and_then (λ h. option_map (λ a. scored fixture h a) (if_between 0 99 away)))
    (goals_back home sides.0)
    ∙ ap (option_map (λ a. scored fixture home a)) (goals_back away sides.1)
  where
    scored : ℕ → ℕ → ℕ → CupLine
    scored f h a = line.Score f (record { home = h; away = a })

-- a leaf with the clubs of a cut
leaf_cut : (leaf : CupReason → CupLeaf) (cut : ClubList → CupReason) (list : List ℕ)
    → is_rising_below most_cup_clubs list ≡ true
    → option_map leaf (option_map cut (option_map (λ clubs. record { list = clubs })
    (option_and_then rising_list (listed_clubs most_cup_clubs
    (items_of (map (λ club. number (unsigned (number_in_text club))) list))))))
    ≡ Some (leaf (cut (record { list = list })))
leaf_cut leaf cut list known =
    ap (λ found. option_map leaf (option_map cut (option_map (λ clubs. record { list = clubs })
    found))) (rising_back most_cup_clubs list known)

leaf_back : (name : List ℕ) (leaf : CupLeaf) → is_cup_leaf leaf ≡ true
    → cup_leaf_in (parts_value (word name ∷ cup_leaf_parts leaf)) ≡ Some leaf
leaf_back name (Plain Count) known = refl
leaf_back name (Plain Window) known = refl
leaf_back name (Plain (Low cut)) known =
    leaf_cut (λ reason. Plain reason) (λ clubs. Low clubs) cut.list known
leaf_back name (Plain (High cut)) known =
    leaf_cut (λ reason. Plain reason) (λ clubs. High clubs) cut.list known
leaf_back name (Plain Tie) known = refl
leaf_back name (In Count) known = refl
leaf_back name (In Window) known = refl
leaf_back name (In (Low cut)) known =
    leaf_cut (λ reason. In reason) (λ clubs. Low clubs) cut.list known
leaf_back name (In (High cut)) known =
    leaf_cut (λ reason. In reason) (λ clubs. High clubs) cut.list known
leaf_back name (In Tie) known = refl
leaf_back name (Out Count) known = refl
leaf_back name (Out Window) known = refl
leaf_back name (Out (Low cut)) known =
    leaf_cut (λ reason. Out reason) (λ clubs. Low clubs) cut.list known
leaf_back name (Out (High cut)) known =
    leaf_cut (λ reason. Out reason) (λ clubs. High clubs) cut.list known
leaf_back name (Out Tie) known = refl
leaf_back name ByKey known = refl

-- a head with or without its key, by its kind
spent_of_back : (kind : GroupKind) (club : ℕ) (key : Option CupKey)
    → is_key_of_kind kind key ≡ true
    → group_spent_of kind club (value_with_key (head_parts (codes "group_spent") kind club) key)
    ≡ Some (line.Spent kind club key)
spent_of_back Top club None known = refl
spent_of_back Below club None known = refl
spent_of_back SecondLess club None known = absurd (false≢true known)
spent_of_back SecondAtLeast club None known = absurd (false≢true known)
spent_of_back SecondMore club None known = absurd (false≢true known)
spent_of_back SecondAtMost club None known = absurd (false≢true known)
spent_of_back Top club (Some key) known = absurd (false≢true known)
spent_of_back Below club (Some key) known = absurd (false≢true known)
spent_of_back SecondLess club (Some key) known =
    ap (option_map (λ key. line.Spent SecondLess club (Some key))) (key_back key known)
spent_of_back SecondAtLeast club (Some key) known =
    ap (option_map (λ key. line.Spent SecondAtLeast club (Some key))) (key_back key known)
spent_of_back SecondMore club (Some key) known =
    ap (option_map (λ key. line.Spent SecondMore club (Some key))) (key_back key known)
spent_of_back SecondAtMost club (Some key) known =
    ap (option_map (λ key. line.Spent SecondAtMost club (Some key))) (key_back key known)

spent_back : (kind : GroupKind) (club : ℕ) (key : Option CupKey)
    → (is_cup_club club && is_key_of_kind kind key) ≡ true
    → cup_line_of_value (cup_line_value (line.Spent kind club key))
    ≡ Some (line.Spent kind club key)
spent_back kind club key known = by_key key known
  where
    shown : Option CupKey → Data
    shown key = value_with_key (head_parts (codes "group_spent") kind club) key

    steps : (key : Option CupKey) → (is_cup_club club && is_key_of_kind kind key) ≡ true
        → option_and_then (λ kind. option_and_then (λ club. group_spent_of kind club (shown key))
        (option_map number_here (if_between 1 most_cup_clubs (number_in_text club))))
        (kind_named (kind_word kind))
        ≡ Some (line.Spent kind club key)
    steps key known =
        let both = and_parts (is_cup_club club) (is_key_of_kind kind key) known in
        ap (option_and_then (λ kind. option_and_then
        (λ club. group_spent_of kind club (shown key))
        (option_map number_here (if_between 1 most_cup_clubs (number_in_text club)))))
        (kind_back kind)
        ∙ ap (option_and_then (λ club. group_spent_of kind club (shown key)))
        (number_back most_cup_clubs club both.0)
        ∙ spent_of_back kind club key both.1

    by_key : (key : Option CupKey) → (is_cup_club club && is_key_of_kind kind key) ≡ true
        → cup_line_of_value (cup_line_value (line.Spent kind club key))
        ≡ Some (line.Spent kind club key)
    by_key None known = steps None known
    by_key (Some key) known = steps (Some key) known

tree_back : (kind : GroupKind) (club : ℕ) → is_cup_club club ≡ true
    → cup_line_of_value (cup_line_value (line.Tree kind club)) ≡ Some (line.Tree kind club)
tree_back kind club known =
    ap (option_and_then (λ kind. option_map (λ club. line.Tree kind club)
    (option_map number_here (if_between 1 most_cup_clubs (number_in_text club)))))
    (kind_back kind)
    ∙ ap (option_map (λ club. line.Tree kind club)) (number_back most_cup_clubs club known)

-- the value of a line has the line's form
pub cup_line_back : (x : CupLine) → is_cup_line x ≡ true
    → cup_line_of_value (cup_line_value x) ≡ Some x
cup_line_back (line.Finish Inside) known = refl
cup_line_back (line.Finish Outside) known = refl
cup_line_back (line.Score fixture score) known =
    score_back fixture score.home score.away known
cup_line_back (line.Lots lots) known =
    ap (option_map (λ clubs. line.Lots (record { list = clubs })))
    (clubs_back most_cup_clubs lots.list known)
cup_line_back (line.Spent kind club key) known = spent_back kind club key known
cup_line_back (line.Split test) known =
    ap (option_map (λ t. line.Split t))
    (test_below_back most_cup_fixtures most_cup_clubs (codes "split") test known)
cup_line_back (line.NewSplit test) known =
    ap (option_map (λ t. line.NewSplit t))
    (test_below_back most_cup_fixtures most_cup_clubs (codes "new_split") test known)
cup_line_back (line.Leaf leaf) known =
    ap (option_map (λ l. line.Leaf l)) (leaf_back (codes "leaf") leaf known)
cup_line_back (line.NewLeaf leaf) known =
    ap (option_map (λ l. line.NewLeaf l)) (leaf_back (codes "new_leaf") leaf known)
cup_line_back line.OpenLeaf known = refl
cup_line_back (line.KeyLine key) known =
    ap (option_map (λ key. line.KeyLine key)) (key_back key known)
cup_line_back (line.Groups groups) known =
    ap (option_map (λ list. line.Groups (record { list = list })))
    (rising_back most_groups groups.list known)
cup_line_back (line.Tree kind club) known = tree_back kind club known
