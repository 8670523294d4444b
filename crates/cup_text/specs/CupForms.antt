-- Which line of a cup's proof a text has the form of. A text is read as JSON, with the spaces that
-- JSON allows; what it then is decides, form by form. Clubs, fixtures and groups count from 1 in
-- texts, through the whole cup. The forms are this project's own.
use Rattle.std.specs.Prelude.{ℕ, ◌+◌, ℤ, pos, neg_ℤ, Bool, true, false, ◌&&◌, ◌==◌, nat_le}
use Rattle.std.specs.Prelude.{int_le, List, [], ◌∷◌, length, Option, Some, None, option_map}
use Rattle.std.specs.Prelude.{option_and_then, if◌then◌else◌, codes}
use Rattle.std.specs.Str.{bytes_eq}
use Rattle.serde_json.specs.Data.{Data, Items, no_items, item}
use Rattle.serde_json.specs.Find.{at, as_number, as_i64, as_array}
use Rattle.league_core.specs.game.Limits.{most_goals}
use Rattle.cert_text.specs.declared.proof_line.ClubList.{ClubList}
use Rattle.cert_text.specs.Forms.{if_ends_at, test_below_in, json_of}
use Rattle.cert_text.specs.Places.{word_at, integer_at, numbered_at, claim_at, clubs_at}
use Rattle.cup_sheet.specs.CupLimits.{most_cup_clubs, most_cup_fixtures, most_groups}
use Rattle.cup_sheet.specs.GroupQuestions.{is_of_place}
use Rattle.cup_sheet.specs.declared.question.GroupKind.{GroupKind}
use Rattle.cup_sheet.specs.declared.question.GroupKind.TheVariants.{Top, Below, SecondLess}
use Rattle.cup_sheet.specs.declared.question.GroupKind.TheVariants.{SecondAtLeast, SecondMore}
use Rattle.cup_sheet.specs.declared.question.GroupKind.TheVariants.{SecondAtMost}
use Rattle.cup_text.specs.declared.cup_line.CupKey.{CupKey}
use Rattle.cup_text.specs.declared.cup_line.CupReason.{CupReason}
use Rattle.cup_text.specs.declared.cup_line.CupReason.TheVariants.{Count, Window, Low, High, Tie}
use Rattle.cup_text.specs.declared.cup_line.CupLeaf.{CupLeaf}
use Rattle.cup_text.specs.declared.cup_line.CupLeaf.TheVariants.{Plain, In, Out, ByKey}
use Rattle.cup_text.specs.declared.cup_line.CupLine.{CupLine}
use Rattle.cup_text.specs.declared.cup_line.CupLine.TheVariants as line

-- ---- lists

-- each number is at least the bound, and above those before it
abbrev pub is_rising_from : ℕ → List ℕ → Bool
is_rising_from least [] = true
is_rising_from least (number ∷ numbers) =
    nat_le least number && is_rising_from (number + 1) numbers

-- there is a number, and each is above those before it
abbrev pub is_rising : List ℕ → Bool
is_rising [] = false
is_rising (number ∷ numbers) = is_rising_from 0 (number ∷ numbers)

-- the list, if it rises
abbrev pub rising_list : List ℕ → Option (List ℕ)
rising_list list = if is_rising list then Some list else None

-- at a place, numbers that rise, each one of so many
abbrev pub rising_at : ℕ → ℕ → Data → Option (List ℕ)
rising_at most place shown = option_and_then rising_list (clubs_at most place shown)

-- the greatest part of a key, and without its sign the least
abbrev pub most_part : ℤ
most_part = pos 100000

-- a part of a key, if it is within these bounds
abbrev pub if_part : ℤ → Option ℤ
if_part part = if int_le (neg_ℤ most_part) part && int_le part most_part then Some part else None

-- a part of a key as an item of a list
abbrev pub listed_part : Data → Option ℤ
listed_part shown = option_and_then if_part (option_and_then as_i64 (as_number shown))

-- the parts of a list, if each of its items is one
abbrev pub listed_parts : Items → Option (List ℤ)
listed_parts no_items = Some []
listed_parts (item shown items) =
    option_and_then (λ part. option_map (λ parts. part ∷ parts) (listed_parts items))
    (listed_part shown)

-- a key has seven parts
abbrev pub key_of_parts : List ℤ → Option CupKey
key_of_parts parts = if length parts == 7 then Some (record { parts = parts }) else None

-- the key of a list
abbrev pub key_list : Option (List ℤ) → Option CupKey
key_list parts = option_and_then key_of_parts parts

-- a key at the place
abbrev pub cup_key_at : ℕ → Data → Option CupKey
cup_key_at place shown =
    key_list (option_and_then listed_parts (option_and_then as_array (at place shown)))

-- ---- leaves

-- the clubs of a cut, in the last place, after the name of the cut at this place
abbrev pub cup_cut_from : ℕ → Data → Option ClubList
cup_cut_from place shown =
    if_ends_at (place + 2) shown
    (option_map (λ clubs. record { list = clubs }) (rising_at most_cup_clubs (place + 1) shown))

-- a reason that is one word, at this place
abbrev pub bare_cup_reason_named : ℕ → List ℕ → Data → Option CupReason
bare_cup_reason_named place name shown =
    if_ends_at (place + 1) shown
    (if bytes_eq name (codes "count") then Some Count
    else if bytes_eq name (codes "window") then Some Window
    else if bytes_eq name (codes "tie") then Some Tie
    else None)

-- the reason whose name stands at this place
abbrev pub cup_reason_named : ℕ → List ℕ → Data → Option CupReason
cup_reason_named place name shown =
    if bytes_eq name (codes "low")
    then option_map (λ clubs. Low clubs) (cup_cut_from place shown)
    else if bytes_eq name (codes "high")
    then option_map (λ clubs. High clubs) (cup_cut_from place shown)
    else bare_cup_reason_named place name shown

-- the same, if a name stands there
abbrev pub cup_reason_from : ℕ → Data → Option CupReason
cup_reason_from place shown =
    option_and_then (λ name. cup_reason_named place name shown) (word_at place shown)

-- the leaf whose key is on the other side
abbrev pub by_key_in : Data → Option CupLeaf
by_key_in shown = if_ends_at 2 shown (Some ByKey)

-- the reason of a leaf by the first word after `leaf`
abbrev pub cup_leaf_named : List ℕ → Data → Option CupLeaf
cup_leaf_named name shown =
    if bytes_eq name (codes "in") then option_map (λ reason. In reason) (cup_reason_from 2 shown)
    else if bytes_eq name (codes "out")
    then option_map (λ reason. Out reason) (cup_reason_from 2 shown)
    else if bytes_eq name (codes "key") then by_key_in shown
    else option_map (λ reason. Plain reason) (cup_reason_named 1 name shown)

-- the reason of a line that has one
abbrev pub cup_leaf_in : Data → Option CupLeaf
cup_leaf_in shown = option_and_then (λ name. cup_leaf_named name shown) (word_at 1 shown)

-- ---- heads

-- the kind of a question about a group
abbrev pub kind_named : List ℕ → Option GroupKind
kind_named name =
    if bytes_eq name (codes "top") then Some Top
    else if bytes_eq name (codes "below") then Some Below
    else if bytes_eq name (codes "second_less") then Some SecondLess
    else if bytes_eq name (codes "second_at_least") then Some SecondAtLeast
    else if bytes_eq name (codes "second_more") then Some SecondMore
    else if bytes_eq name (codes "second_at_most") then Some SecondAtMost
    else None

-- that of a head, after its first word
abbrev pub kind_in : Data → Option GroupKind
kind_in shown = option_and_then kind_named (word_at 1 shown)

-- the head of a tree on which a budget was spent: a question about a place alone has no key
abbrev pub place_spent_of : GroupKind → ℕ → Data → Option CupLine
place_spent_of kind club shown = if_ends_at 3 shown (Some (line.Spent kind club None))

-- any other has one
abbrev pub group_spent_of : GroupKind → ℕ → Data → Option CupLine
group_spent_of kind club shown =
    if is_of_place kind then place_spent_of kind club shown
    else if_ends_at 4 shown
    (option_map (λ key. line.Spent kind club (Some key)) (cup_key_at 3 shown))

-- such a head
abbrev pub group_spent_in : Data → Option CupLine
group_spent_in shown =
    option_and_then (λ kind. option_and_then (λ club. group_spent_of kind club shown)
    (numbered_at most_cup_clubs 2 shown)) (kind_in shown)

-- the head of a refutation
abbrev pub group_tree_in : Data → Option CupLine
group_tree_in shown =
    if_ends_at 3 shown
    (option_and_then (λ kind. option_map (λ club. line.Tree kind club)
    (numbered_at most_cup_clubs 2 shown)) (kind_in shown))

-- the key of refutations
abbrev pub key_line_in : Data → Option CupLine
key_line_in shown = if_ends_at 2 shown (option_map (λ key. line.KeyLine key) (cup_key_at 1 shown))

-- the groups of refutations
abbrev pub groups_in : Data → Option CupLine
groups_in shown =
    if_ends_at 2 shown
    (option_map (λ groups. line.Groups (record { list = groups })) (rising_at most_groups 1 shown))

-- ---- examples

-- the head of an example
abbrev pub cup_finish_in : Data → Option CupLine
cup_finish_in shown =
    if_ends_at 2 shown (option_map (λ claim. line.Finish claim) (claim_at 1 shown))

-- a fixture's score
abbrev pub cup_score_in : Data → Option CupLine
cup_score_in shown =
    if_ends_at 4 shown
    (option_and_then (λ fixture. option_and_then
    (λ home. option_map
    (λ away. line.Score fixture (record { home = home; away = away }))
    (integer_at 3 0 most_goals shown))
    (integer_at 2 0 most_goals shown)) (numbered_at most_cup_fixtures 1 shown))

-- the lots, which need not name each club
abbrev pub cup_lots_in : Data → Option CupLine
cup_lots_in shown =
    if_ends_at 2 shown
    (option_map (λ clubs. line.Lots (record { list = clubs })) (clubs_at most_cup_clubs 1 shown))

-- ---- all lines

-- a node of a tree, by the first word of its line
abbrev pub cup_node_named : List ℕ → Data → Option CupLine
cup_node_named name shown =
    if bytes_eq name (codes "split")
    then option_map (λ test. line.Split test) (test_below_in most_cup_fixtures most_cup_clubs shown)
    else if bytes_eq name (codes "new_split")
    then option_map (λ test. line.NewSplit test)
    (test_below_in most_cup_fixtures most_cup_clubs shown)
    else if bytes_eq name (codes "leaf")
    then option_map (λ leaf. line.Leaf leaf) (cup_leaf_in shown)
    else if bytes_eq name (codes "new_leaf")
    then option_map (λ leaf. line.NewLeaf leaf) (cup_leaf_in shown)
    else if bytes_eq name (codes "open") then if_ends_at 1 shown (Some line.OpenLeaf)
    else None

-- a line by its first word
abbrev pub cup_line_named : List ℕ → Data → Option CupLine
cup_line_named name shown =
    if bytes_eq name (codes "finish") then cup_finish_in shown
    else if bytes_eq name (codes "score") then cup_score_in shown
    else if bytes_eq name (codes "lots") then cup_lots_in shown
    else if bytes_eq name (codes "group_spent") then group_spent_in shown
    else if bytes_eq name (codes "group_tree") then group_tree_in shown
    else if bytes_eq name (codes "key") then key_line_in shown
    else if bytes_eq name (codes "groups") then groups_in shown
    else cup_node_named name shown

-- the line that a JSON value has the form of
abbrev pub cup_line_of_value : Data → Option CupLine
cup_line_of_value shown =
    option_and_then (λ name. cup_line_named name shown) (word_at 0 shown)

-- the line that a text has the form of: the text is UTF-8 and reads as JSON of that form
abbrev pub cup_line_in : List ℕ → Option CupLine
cup_line_in text = option_and_then cup_line_of_value (json_of text)
