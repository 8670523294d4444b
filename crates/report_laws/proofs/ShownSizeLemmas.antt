-- No line that an answer of a cup writes has more than 1000 bytes.
use Rattle.std.proofs.Common.{◌≡◌, ℕ, suc, ◌+◌, ◌-◌, ◌*◌, ◌<◌, ◌≤◌, ℤ, pos, negsuc, Bool, true}
use Rattle.std.proofs.Common.{false, ◌&&◌, ◌==◌, nat_le, nat_lt, List, [], ◌∷◌, ◌++◌, map, length}
use Rattle.std.proofs.Common.{Option, None, Some, refl, sym, subst, ◌∙◌, arith}
use Rattle.std.specs.Prelude.{decimal, int_le}
use Rattle.std.specs.Fmt.{signed_decimal}
use Rattle.std.specs.List.{list_all}
use Rattle.std.proofs.lemmas.Bool.{and_parts, and_from, eqb-true, false≢true, le-leb, leb-true}
use Rattle.std.proofs.lemmas.Bool.{lt-ltb, ltb-true}
use Rattle.std.proofs.lemmas.Fmt.{length-decimal-le, length_signed_le}
use Rattle.std.proofs.lemmas.Int.{ints}
use Rattle.std.proofs.lemmas.List.{length-append}
use Rattle.std.proofs.lemmas.List.Folds.{list_all-append}
use Rattle.league_core.specs.declared.season.Score.{Score}
use Rattle.league_core.specs.declared.question.Claim.{Claim}
use Rattle.league_core.specs.declared.question.Claim.TheVariants.{Inside, Outside}
use Rattle.league_core.specs.declared.zone.Test.{Test}
use Rattle.league_core.specs.declared.zone.Test.TheVariants.{Home, Draw, HomeMost, AwayMost, Rival}
use Rattle.league_core.specs.game.Results.{Results, is_score}
use Rattle.league_core.proofs.plain.Texts.{decimal-size}
use Rattle.league_core.proofs.plain.TruthValues.{true_and_true, two_and_true}
use Rattle.cert_text.specs.Lines.{Part, word, whole, points, clubs, claim_word, number_in_text}
use Rattle.cert_text.specs.Lines.{part_text, test_parts}
use Rattle.cert_text.specs.Ranges.{is_goal_bound, is_one_of, is_test_below}
use Rattle.cert_text.proofs.PrintedLemmas.{small_number}
use Rattle.answer_rows.specs.declared.word.Word.{Word}
use Rattle.answer_rows.specs.declared.word.Word.TheVariants.{Clinched, Lost, Possible, Unsettled}
use Rattle.cup_sheet.specs.declared.cup.Cup.{Cup}
use Rattle.cup_sheet.specs.declared.question.GroupKind.{GroupKind}
use Rattle.cup_sheet.specs.declared.question.GroupKind.TheVariants.{Top, Below, SecondLess}
use Rattle.cup_sheet.specs.declared.question.GroupKind.TheVariants.{SecondAtLeast, SecondMore}
use Rattle.cup_sheet.specs.declared.question.GroupKind.TheVariants.{SecondAtMost}
use Rattle.cup_sheet.specs.Cups.{AreSeasonsOf, IsCup, clubs_together}
use Rattle.cup_sheet.specs.GroupQuestions.{GroupQuestion}
use Rattle.cup_sheet.specs.GroupTrees.{GroupTree, open_zone, refuted_zone, split_zone}
use Rattle.cup_sheet.proofs.CupLotsLemmas.{as_many_lots}
use Rattle.cup_groups.specs.declared.start.GroupStart.{GroupStart}
use Rattle.cup_groups.specs.GroupStarts.{start_of_group}
use Rattle.cup_groups.proofs.StartLemmas.{few_in_all}
use Rattle.cup_laws.specs.inside.CupTruths.{AreCupResults}
use Rattle.cup_text.specs.declared.cup_line.CupKey.{CupKey}
use Rattle.cup_text.specs.declared.cup_line.CupLeaf.{CupLeaf}
use Rattle.cup_text.specs.declared.cup_line.CupLeaf.TheVariants.{Plain, In, Out, ByKey}
use Rattle.cup_text.specs.declared.cup_line.CupLine.{CupLine}
use Rattle.cup_text.specs.declared.cup_line.CupLine.TheVariants as line
use Rattle.cup_text.specs.declared.cup_line.CupReason.{CupReason}
use Rattle.cup_text.specs.declared.cup_line.CupReason.TheVariants.{Count, Window, Low, High, Tie}
use Rattle.cup_text.specs.CupForms.{is_rising, is_rising_from}
use Rattle.cup_text.specs.CupItems.{AreCupParts, AreLinesOf, IsCupPartText, IsGroupTreeText}
use Rattle.cup_text.specs.CupItems.{IsListedText, IsRefutedAtTurn, cup_score_if}
use Rattle.cup_text.specs.CupItems.{group_scores_from, joint_scores_from, key_of_question}
use Rattle.cup_text.specs.CupLines.{cup_key_of, cup_leaf_parts, cup_parts_of, cup_reason_parts}
use Rattle.cup_text.specs.CupLines.{key_text, kind_word, text_of_cup_line, text_with_key}
use Rattle.cup_text.specs.CupRanges.{is_cup_club, is_cup_key, is_cup_leaf, is_cup_line}
use Rattle.cup_text.specs.CupRanges.{is_cup_reason, is_key_of_kind, is_key_part, is_rising_below}
use Rattle.cup_answers.specs.CupTexts.{ShowsInCup}
use Rattle.cup_text.specs.GroupNodeLines.{group_leaf_line, group_split_line, leaf_in_cup}
use Rattle.cup_text.specs.GroupNodeLines.{lines_of_group_tree, test_in_cup}
use Rattle.report_laws.proofs.ShownFormLemmas.{shown_have_forms}
use Rattle.report_laws.proofs.SizeLemmas.{array-size, sizes}

-- ---- lists of numbers

-- numbers that rise from one and are all below another are no more than lie between
rising_size : (least most : ℕ) (list : List ℕ) → is_rising_from least list ≡ true
    → list_all (is_one_of most) list ≡ true → length list ≤ most - least
rising_size least most [] rising below = omega arith
rising_size least most (number ∷ list) rising below =
    let next = and_parts (nat_le least number) (is_rising_from (number + 1) list) rising in
    let each = and_parts (is_one_of most number) (list_all (is_one_of most) list) below in
    omega (
      arith,
      leb-true least number next.0,
      ltb-true number most each.0,
      rising_size (number + 1) most list next.1 each.1,
    )

rising_few : (most : ℕ) (list : List ℕ) → is_rising_below most list ≡ true → length list ≤ most
rising_few most [] known = omega arith
rising_few most (number ∷ list) known =
    let both = and_parts (is_rising (number ∷ list)) (list_all (is_one_of most) (number ∷ list))
    known in
    omega (arith, rising_size 0 most (number ∷ list) both.0 both.1)

-- numbers below a bound are below that of the clubs of a cup
below_clubs : (most : ℕ) → most ≤ 72 → (list : List ℕ) → list_all (is_one_of most) list ≡ true
    → list_all is_cup_club list ≡ true
below_clubs most few [] below = refl
below_clubs most few (number ∷ list) below =
    let each = and_parts (is_one_of most number) (list_all (is_one_of most) list) below in
    let one = ltb-true number most each.0 in
    and_from (is_cup_club number) (list_all is_cup_club list)
    (lt-ltb number 72 (omega (arith, one, few))) (below_clubs most few list each.1)

-- each of them has two digits at most
numbers_size : (list : List ℕ) → list_all is_cup_club list ≡ true
    → sizes (map (λ club. decimal (number_in_text club)) list) ≤ 3 * length list
numbers_size [] known = omega arith
numbers_size (number ∷ list) known =
    let each = and_parts (is_cup_club number) (list_all is_cup_club list) known in
    let below = ltb-true number 72 each.0 in
    omega (
      arith,
      length-decimal-le 2 (number_in_text number) (omega arith) (omega (arith, below))
          (omega (arith, below)),
      numbers_size list each.1,
    )

-- ---- parts

-- a part with a short word, with a small number, or with no more clubs than a cup has
abbrev is_short_part : Part → Bool
is_short_part (word name) = nat_le (length name) 20
is_short_part (whole n) = nat_lt n 10000
is_short_part (points n) = false
is_short_part (clubs list) = list_all is_cup_club list && nat_le (length list) 72

short_part_size : (part : Part) → is_short_part part ≡ true → length (part_text part) ≤ 218
short_part_size (word name) short =
    let few = leb-true (length name) 20 short in
    omega (arith, few, length-append (34 ∷ name) (34 ∷ []))
short_part_size (whole n) short = omega (arith, decimal-size n (ltb-true n 10000 short))
short_part_size (points n) short = absurd (false≢true short)
short_part_size (clubs list) short =
    let both = and_parts (list_all is_cup_club list) (nat_le (length list) 72) short in
    let few = leb-true (length list) 72 both.1 in
    omega (
      arith,
      few,
      numbers_size list both.0,
      array-size (map (λ club. decimal (number_in_text club)) list),
    )

short_parts_size : (parts : List Part) → list_all is_short_part parts ≡ true
    → sizes (map part_text parts) ≤ 219 * length parts
short_parts_size [] short = omega arith
short_parts_size (part ∷ parts) short =
    let each = and_parts (is_short_part part) (list_all is_short_part parts) short in
    omega (arith, short_part_size part each.0, short_parts_size parts each.1)

-- ---- keys

key_part_size : (part : ℤ) → is_key_part part ≡ true → length (signed_decimal part) ≤ 7
key_part_size (pos n) within =
    let ends = and_parts (int_le (negsuc 99999) (pos n)) (int_le (pos n) (pos 100000)) within in
    let most = small n ends.1 in
    length_signed_le 6 (pos n) (omega (arith, most)) (omega (arith, most))
  where
    small : (k : ℕ) → int_le (pos k) (pos 100000) ≡ true → k ≤ 100000
    small k h = grind (arith, ints)
key_part_size (negsuc n) within =
    let ends = and_parts (int_le (negsuc 99999) (negsuc n)) (int_le (negsuc n) (pos 100000))
    within in
    let most = small n ends.0 in
    length_signed_le 6 (negsuc n) (omega (arith, most)) (omega (arith, most))
  where
    small : (k : ℕ) → int_le (negsuc 99999) (negsuc k) ≡ true → suc k ≤ 100000
    small k h = grind (arith, ints)

key_parts_size : (parts : List ℤ) → list_all is_key_part parts ≡ true
    → sizes (map signed_decimal parts) ≤ 8 * length parts
key_parts_size [] known = omega arith
key_parts_size (part ∷ parts) known =
    let each = and_parts (is_key_part part) (list_all is_key_part parts) known in
    omega (arith, key_part_size part each.0, key_parts_size parts each.1)

key_size : (key : CupKey) → is_cup_key key ≡ true → length (key_text key) ≤ 58
key_size key known =
    let both = and_parts (length key.parts == 7) (list_all is_key_part key.parts) known in
    omega (
      arith,
      eqb-true (length key.parts) 7 both.0,
      key_parts_size key.parts both.1,
      array-size (map signed_decimal key.parts),
    )

-- ---- lines

-- a key, if there is one, is such as keys are
abbrev is_known_key : Option CupKey → Bool
is_known_key None = true
is_known_key (Some key) = is_cup_key key

sizes-append : (items more : List (List ℕ)) → sizes (items ++ more) ≡ sizes items + sizes more
sizes-append [] more = omega arith
sizes-append (item ∷ items) more = omega (arith, sizes-append items more)

text_size : (parts : List Part) (key : Option CupKey) → list_all is_short_part parts ≡ true
    → length parts ≤ 4 → is_known_key key ≡ true → length (text_with_key parts key) ≤ 1000
text_size parts None short few known =
    omega (arith, few, short_parts_size parts short, array-size (map part_text parts))
text_size parts (Some key) short few known =
    omega (
      arith,
      few,
      short_parts_size parts short,
      key_size key known,
      sizes-append (map part_text parts) (key_text key ∷ []),
      array-size (map part_text parts ++ key_text key ∷ []),
    )

-- the lots of a line are no more than the clubs of a cup
abbrev has_few_lots : CupLine → Bool
has_few_lots (line.Finish claim) = true
has_few_lots (line.Score fixture score) = true
has_few_lots (line.Lots lots) = nat_le (length lots.list) 72
has_few_lots (line.Spent kind club key) = true
has_few_lots (line.Split test) = true
has_few_lots (line.NewSplit test) = true
has_few_lots (line.Leaf leaf) = true
has_few_lots (line.NewLeaf leaf) = true
has_few_lots line.OpenLeaf = true
has_few_lots (line.KeyLine key) = true
has_few_lots (line.Groups groups) = true
has_few_lots (line.Tree kind club) = true

claim_short : (claim : Claim) → list_all is_short_part (word (claim_word claim) ∷ []) ≡ true
claim_short Inside = refl
claim_short Outside = refl

fixture_short : (fixture : ℕ) → is_one_of 720 fixture ≡ true
    → list_all is_short_part (whole (number_in_text fixture) ∷ []) ≡ true
fixture_short fixture known =
    true_and_true (nat_lt (number_in_text fixture) 10000)
    (small_number 720 fixture (omega arith) known)

club_short : (club : ℕ) → is_cup_club club ≡ true
    → list_all is_short_part (whole (number_in_text club) ∷ []) ≡ true
club_short club known =
    true_and_true (nat_lt (number_in_text club) 10000)
    (small_number 72 club (omega arith) known)

goals_short : (goals most : ℕ) → most < 10000 → nat_le goals most ≡ true
    → nat_lt goals 10000 ≡ true
goals_short goals most small known =
    let within = leb-true goals most known in
    lt-ltb goals 10000 (omega (arith, within, small))

bound_short : (fixture most : ℕ) → (is_one_of 720 fixture && is_goal_bound most) ≡ true
    → list_all is_short_part (whole (number_in_text fixture) ∷ whole most ∷ []) ≡ true
bound_short fixture most known =
    let both = and_parts (is_one_of 720 fixture) (is_goal_bound most) known in
    two_and_true (nat_lt (number_in_text fixture) 10000) (nat_lt most 10000)
    (small_number 720 fixture (omega arith) both.0) (goals_short most 98 (omega arith) both.1)

test_short : (test : Test) → is_test_below 720 72 test ≡ true
    → list_all is_short_part (test_parts test) ≡ true
test_short (Home fixture) known = fixture_short fixture known
test_short (Draw fixture) known = fixture_short fixture known
test_short (HomeMost fixture most) known = bound_short fixture most known
test_short (AwayMost fixture most) known = bound_short fixture most known
test_short (Rival club) known = club_short club known

score_short : (fixture : ℕ) (score : Score) → (is_one_of 720 fixture && is_score score) ≡ true
    → list_all is_short_part
    (whole (number_in_text fixture) ∷ whole score.home ∷ whole score.away ∷ []) ≡ true
score_short fixture score known =
    let both = and_parts (is_one_of 720 fixture) (is_score score) known in
    let sides = and_parts (nat_le score.home 99) (nat_le score.away 99) both.1 in
    and_from (nat_lt (number_in_text fixture) 10000)
    (nat_lt score.home 10000 && (nat_lt score.away 10000 && true))
    (small_number 720 fixture (omega arith) both.0)
    (two_and_true (nat_lt score.home 10000) (nat_lt score.away 10000)
    (goals_short score.home 99 (omega arith) sides.0)
    (goals_short score.away 99 (omega arith) sides.1))

lots_short : (list : List ℕ) → list_all is_cup_club list ≡ true
    → nat_le (length list) 72 ≡ true → list_all is_short_part (clubs list ∷ []) ≡ true
lots_short list known few =
    true_and_true (is_short_part (clubs list))
    (and_from (list_all is_cup_club list) (nat_le (length list) 72) known few)

rising_short : (most : ℕ) → most ≤ 72 → (list : List ℕ) → is_rising_below most list ≡ true
    → list_all is_short_part (clubs list ∷ []) ≡ true
rising_short most few list known =
    let both = and_parts (is_rising list) (list_all (is_one_of most) list) known in
    let count = rising_few most list known in
    lots_short list (below_clubs most few list both.1)
    (le-leb (length list) 72 (omega (arith, few, count)))

reason_short : (reason : CupReason) → is_cup_reason reason ≡ true
    → list_all is_short_part (cup_reason_parts reason) ≡ true
reason_short Count known = refl
reason_short Window known = refl
reason_short (Low cut) known = rising_short 72 (omega arith) cut.list known
reason_short (High cut) known = rising_short 72 (omega arith) cut.list known
reason_short Tie known = refl

leaf_short : (leaf : CupLeaf) → is_cup_leaf leaf ≡ true
    → list_all is_short_part (cup_leaf_parts leaf) ≡ true
leaf_short (Plain reason) known = reason_short reason known
leaf_short (In reason) known = reason_short reason known
leaf_short (Out reason) known = reason_short reason known
leaf_short ByKey known = refl

head_short : (kind : GroupKind) (club : ℕ) → is_cup_club club ≡ true
    → list_all is_short_part (word (kind_word kind) ∷ whole (number_in_text club) ∷ []) ≡ true
head_short Top club known = club_short club known
head_short Below club known = club_short club known
head_short SecondLess club known = club_short club known
head_short SecondAtLeast club known = club_short club known
head_short SecondMore club known = club_short club known
head_short SecondAtMost club known = club_short club known

parts_short : (shown : CupLine) → is_cup_line shown ≡ true → has_few_lots shown ≡ true
    → list_all is_short_part (cup_parts_of shown) ≡ true
parts_short (line.Finish claim) known few = claim_short claim
parts_short (line.Score fixture score) known few = score_short fixture score known
parts_short (line.Lots lots) known few = lots_short lots.list known few
parts_short (line.Spent kind club key) known few =
    head_short kind club (and_parts (is_cup_club club) (is_key_of_kind kind key) known).0
parts_short (line.Split test) known few = test_short test known
parts_short (line.NewSplit test) known few = test_short test known
parts_short (line.Leaf leaf) known few = leaf_short leaf known
parts_short (line.NewLeaf leaf) known few = leaf_short leaf known
parts_short line.OpenLeaf known few = refl
parts_short (line.KeyLine key) known few = refl
parts_short (line.Groups groups) known few = rising_short 12 (omega arith) groups.list known
parts_short (line.Tree kind club) known few = head_short kind club known

test_few : (test : Test) → length (test_parts test) ≤ 3
test_few (Home fixture) = omega arith
test_few (Draw fixture) = omega arith
test_few (HomeMost fixture most) = omega arith
test_few (AwayMost fixture most) = omega arith
test_few (Rival club) = omega arith

reason_few : (reason : CupReason) → length (cup_reason_parts reason) ≤ 2
reason_few Count = omega arith
reason_few Window = omega arith
reason_few (Low cut) = omega arith
reason_few (High cut) = omega arith
reason_few Tie = omega arith

leaf_few : (leaf : CupLeaf) → length (cup_leaf_parts leaf) ≤ 3
leaf_few (Plain reason) = omega (arith, reason_few reason)
leaf_few (In reason) = omega (arith, reason_few reason)
leaf_few (Out reason) = omega (arith, reason_few reason)
leaf_few ByKey = omega arith

parts_few : (shown : CupLine) → length (cup_parts_of shown) ≤ 4
parts_few (line.Finish claim) = omega arith
parts_few (line.Score fixture score) = omega arith
parts_few (line.Lots lots) = omega arith
parts_few (line.Spent kind club key) = omega arith
parts_few (line.Split test) = omega (arith, test_few test)
parts_few (line.NewSplit test) = omega (arith, test_few test)
parts_few (line.Leaf leaf) = omega (arith, leaf_few leaf)
parts_few (line.NewLeaf leaf) = omega (arith, leaf_few leaf)
parts_few line.OpenLeaf = omega arith
parts_few (line.KeyLine key) = omega arith
parts_few (line.Groups groups) = omega arith
parts_few (line.Tree kind club) = omega arith

key_known : (shown : CupLine) → is_cup_line shown ≡ true → is_known_key (cup_key_of shown) ≡ true
key_known (line.Finish claim) known = refl
key_known (line.Score fixture score) known = refl
key_known (line.Lots lots) known = refl
key_known (line.Spent kind club None) known = refl
key_known (line.Spent kind club (Some key)) known =
    let both = and_parts (is_cup_club club) (is_key_of_kind kind (Some key)) known in
    (and_parts _ (is_cup_key key) both.1).1
key_known (line.Split test) known = refl
key_known (line.NewSplit test) known = refl
key_known (line.Leaf leaf) known = refl
key_known (line.NewLeaf leaf) known = refl
key_known line.OpenLeaf known = refl
key_known (line.KeyLine key) known = known
key_known (line.Groups groups) known = refl
key_known (line.Tree kind club) known = refl

-- a line that has a form and few lots is short
cup_line_size : (shown : CupLine) → is_cup_line shown ≡ true → has_few_lots shown ≡ true
    → length (text_of_cup_line shown) ≤ 1000
cup_line_size shown known few =
    text_size (cup_parts_of shown) (cup_key_of shown) (parts_short shown known few)
    (parts_few shown) (key_known shown known)

cup_lines_size : (lines : List CupLine) → list_all is_cup_line lines ≡ true
    → list_all has_few_lots lines ≡ true
    → list_all (λ line. nat_le (length (text_of_cup_line line)) 1000) lines ≡ true
cup_lines_size [] known few = refl
cup_lines_size (shown ∷ lines) known few =
    let one = and_parts (is_cup_line shown) (list_all is_cup_line lines) known in
    let two = and_parts (has_few_lots shown) (list_all has_few_lots lines) few in
    and_from (nat_le (length (text_of_cup_line shown)) 1000)
    (list_all (λ line. nat_le (length (text_of_cup_line line)) 1000) lines)
    (le-leb (length (text_of_cup_line shown)) 1000 (cup_line_size shown one.0 two.0))
    (cup_lines_size lines one.1 two.1)

-- ---- what is shown

abbrev HaveFewLots : List CupLine → Type 0
HaveFewLots lines = list_all has_few_lots lines ≡ true

both_few : (first second : List CupLine) → HaveFewLots first → HaveFewLots second
    → HaveFewLots (first ++ second)
both_few first second one other =
    list_all-append has_few_lots first second
    ∙ and_from (list_all has_few_lots first) (list_all has_few_lots second) one other

head_few : (head : CupLine) (lines : List CupLine) → has_few_lots head ≡ true → HaveFewLots lines
    → HaveFewLots (head ∷ lines)
head_few head lines one other = and_from (has_few_lots head) (list_all has_few_lots lines) one other

leaf_line_few : (marked : Bool) (leaf : CupLeaf)
    → has_few_lots (group_leaf_line marked leaf) ≡ true
leaf_line_few true leaf = refl
leaf_line_few false leaf = refl

split_line_few : (marked : Bool) (test : Test) → has_few_lots (group_split_line marked test) ≡ true
split_line_few true test = refl
split_line_few false test = refl

-- no line of a tree is of lots
tree_few : (marks : Bool) (start : GroupStart) (tree : GroupTree)
    → HaveFewLots (lines_of_group_tree marks start tree)
tree_few marks start open_zone = refl
tree_few marks start (refuted_zone reason fresh) =
    head_few (group_leaf_line (marks && fresh) (leaf_in_cup start reason)) []
    (leaf_line_few (marks && fresh) (leaf_in_cup start reason)) refl
tree_few marks start (split_zone test fresh yes_half no_half) =
    let yes = lines_of_group_tree marks start yes_half in
    let no = lines_of_group_tree marks start no_half in
    head_few (group_split_line (marks && fresh) (test_in_cup start test)) (yes ++ no)
    (split_line_few (marks && fresh) (test_in_cup start test))
    (both_few yes no (tree_few marks start yes_half) (tree_few marks start no_half))

-- nor any of scores
score_few : (fixture : ℕ) (played ended : Option Score)
    → HaveFewLots (cup_score_if fixture played ended)
score_few fixture (Some score) ended = refl
score_few fixture None None = refl
score_few fixture None (Some score) = refl

scores_few : (fixture : ℕ) (season finish : List (Option Score))
    → HaveFewLots (group_scores_from fixture season finish)
scores_few fixture [] finish = refl
scores_few fixture (played ∷ season) [] = refl
scores_few fixture (played ∷ season) (ended ∷ finish) =
    both_few (cup_score_if fixture played ended) (group_scores_from (fixture + 1) season finish)
    (score_few fixture played ended) (scores_few (fixture + 1) season finish)

all_scores_few : (fixture : ℕ) (seasons finishes : List Results)
    → HaveFewLots (joint_scores_from fixture seasons finishes)
all_scores_few fixture [] finishes = refl
all_scores_few fixture (season ∷ seasons) [] = refl
all_scores_few fixture (season ∷ seasons) (finish ∷ finishes) =
    both_few (group_scores_from fixture season.scores finish.scores)
    (joint_scores_from (fixture + length season.scores) seasons finishes)
    (scores_few fixture season.scores finish.scores)
    (all_scores_few (fixture + length season.scores) seasons finishes)

-- what is made of parts that have few lots
each_few : {A : Type 0} (IsPart : A → List CupLine → Type 0)
    → ((x : A) (lines : List CupLine) → IsPart x lines → HaveFewLots lines) → (xs : List A)
    (lines : List CupLine) → AreLinesOf IsPart xs lines → HaveFewLots lines
each_few IsPart part [] lines text = subst HaveFewLots (sym text) refl
each_few IsPart part (x ∷ xs) lines text =
    subst HaveFewLots (sym text.4)
    (both_few text.0 text.1 (part x text.0 text.2) (each_few IsPart part xs text.1 text.3))

module _ (cup : Cup) (seasons : List Results) where
  refutation_few : (number : ℕ) (question : GroupQuestion) (lines : List CupLine)
      → IsGroupTreeText cup seasons number question lines → HaveFewLots lines
  refutation_few number question lines text =
      let start = start_of_group cup.groups number in
      subst HaveFewLots (sym text.5)
      (head_few (line.Tree question.kind (start.club + question.club))
      (lines_of_group_tree false start text.2) refl (tree_few false start text.2))

  refuted_few : (claim : Claim) (club : ℕ) (lines : List CupLine)
      → IsRefutedAtTurn cup seasons claim club lines → HaveFewLots lines
  refuted_few claim club lines shown =
      let key = shown.0 in
      let text = shown.2 in
      let groups = line.Groups (record { list = text.listed }) in
      let trees = text.by_place ++ (text.by_key ++ text.others) in
      subst HaveFewLots (sym text.text)
      (head_few (line.KeyLine (record { parts = key })) (groups ∷ trees) refl
      (head_few groups trees refl
      (both_few text.by_place (text.by_key ++ text.others)
      (refutation_few text.number _ text.by_place text.place_tree)
      (both_few text.by_key text.others
      (refutation_few text.number _ text.by_key text.key_tree)
      (each_few (IsListedText cup seasons claim text.mine key)
      (λ number lines listed.
      each_few _ (λ other lines tree. refutation_few number _ lines tree) _ lines listed.3)
      text.listed text.others text.each)))))

  part_few : IsCup cup → (claim : Claim) (club : ℕ) (is_spent : Bool) (lines : List CupLine)
      → IsCupPartText cup seasons claim club is_spent lines → HaveFewLots lines
  part_few is_cup claim club true lines text =
      let start = start_of_group cup.groups text.0 in
      let question = text.3 in
      subst HaveFewLots (sym text.6)
      (head_few
      (line.Spent question.kind (start.club + question.club)
      (key_of_question question.kind question.key)) (lines_of_group_tree true start text.4) refl
      (tree_few true start text.4))
  part_few is_cup claim club false lines text =
      let finishes = text.0 in
      let lots = text.1 in
      let scores = joint_scores_from 0 seasons finishes in
      let drawn = line.Lots (record { list = lots }) in
      let count = as_many_lots (clubs_together cup.groups) lots text.2.joint.drawn in
      let most = few_in_all cup is_cup in
      subst HaveFewLots (sym text.3)
      (head_few (line.Finish claim) (scores ++ drawn ∷ []) refl
      (both_few scores (drawn ∷ []) (all_scores_few 0 seasons finishes)
      (head_few drawn [] (le-leb (length lots) 72 (omega (arith, count, most))) refl)))

  sides_few : IsCup cup → (club : ℕ) (is_inside_spent is_outside_spent : Bool)
      (lines : List CupLine) → AreCupParts cup seasons club is_inside_spent is_outside_spent lines
      → HaveFewLots lines
  sides_few is_cup club is_inside_spent is_outside_spent lines text =
      subst HaveFewLots (sym text.4)
      (both_few text.0 text.1 (part_few is_cup Inside club is_inside_spent text.0 text.2)
      (part_few is_cup Outside club is_outside_spent text.1 text.3))

-- the lines of a word have no more lots than the cup has clubs
shown_have_few_lots : (cup : Cup) (seasons : List Results) (club : ℕ) (told : Word)
    (lines : List CupLine) → IsCup cup → ShowsInCup true cup seasons club told lines
    → HaveFewLots lines
shown_have_few_lots cup seasons club Clinched lines is_cup shows =
    refuted_few cup seasons Outside club lines shows.1
shown_have_few_lots cup seasons club Lost lines is_cup shows =
    refuted_few cup seasons Inside club lines shows.1
shown_have_few_lots cup seasons club Possible lines is_cup shows =
    sides_few cup seasons is_cup club false false lines shows.1
shown_have_few_lots cup seasons club Unsettled lines is_cup shows =
    sides_few cup seasons is_cup club shows.0 shows.1 lines shows.3

-- so they are short
pub shown_are_short : (cup : Cup) (seasons : List Results) (club : ℕ) (told : Word)
    (lines : List CupLine) → IsCup cup → AreSeasonsOf cup.groups seasons → AreCupResults seasons
    → ShowsInCup true cup seasons club told lines
    → list_all (λ line. nat_le (length (text_of_cup_line line)) 1000) lines ≡ true
shown_are_short cup seasons club told lines is_cup of_seasons results shows =
    cup_lines_size lines
    (shown_have_forms cup seasons club told lines is_cup of_seasons results shows)
    (shown_have_few_lots cup seasons club told lines is_cup shows)
