-- A line that is read of a text is in the range of its form.
use Rattle.std.proofs.Common.{◌≡◌, ℕ, ◌+◌, Bool, true, false, ◌&&◌, not, nat_le, List, codes}
use Rattle.std.proofs.Common.{Option, Some, None, refl, sym, ap, ◌∙◌}
use Rattle.std.specs.Prelude.{IsTrue, bytes_eq, option_and_then, option_map, if◌then◌else◌}
use Rattle.std.specs.List.{list_all}
use Rattle.std.proofs.lemmas.Bool.{and_from}
use Rattle.serde_json.specs.Data.{Data}
use Rattle.league_core.specs.game.Limits.{most_goals}
use Rattle.cert_text.specs.declared.proof_line.ClubList.{ClubList}
use Rattle.cert_text.specs.Forms.{if_ends_at, json_of, test_below_in}
use Rattle.cert_text.specs.Places.{claim_at, clubs_at, integer_at, numbered_at, word_at}
use Rattle.cert_text.specs.Ranges.{is_one_of, is_test_below}
use Rattle.cup_sheet.specs.CupLimits.{most_cup_clubs, most_cup_fixtures, most_groups}
use Rattle.cup_sheet.specs.GroupQuestions.{is_of_place}
use Rattle.cup_sheet.specs.declared.question.GroupKind.{GroupKind}
use Rattle.cup_text.specs.declared.cup_line.CupLine.{CupLine}
use Rattle.cup_text.specs.declared.cup_line.CupLine.TheVariants as line
use Rattle.cup_text.specs.declared.cup_line.CupLeaf.TheVariants as leaf
use Rattle.cup_text.specs.declared.cup_line.CupReason.TheVariants as reason
use Rattle.cup_text.specs.CupForms.{bare_cup_reason_named, cup_cut_from, cup_finish_in, cup_key_at}
use Rattle.cup_text.specs.CupForms.{cup_leaf_in, cup_leaf_named, cup_line_in, cup_line_named}
use Rattle.cup_text.specs.CupForms.{cup_line_of_value, cup_lots_in, cup_node_named, cup_reason_from}
use Rattle.cup_text.specs.CupForms.{cup_reason_named, cup_score_in, group_spent_in, group_spent_of}
use Rattle.cup_text.specs.CupForms.{group_tree_in, groups_in, key_line_in, kind_in, place_spent_of}
use Rattle.cup_text.specs.CupForms.{rising_at}
use Rattle.cup_text.specs.CupRanges.{is_cup_club, is_cup_key, is_cup_leaf, is_cup_line}
use Rattle.cup_text.specs.CupRanges.{is_cup_reason, is_key_of_kind, is_rising_below}
use Rattle.cup_text.proofs.ReadNumberLemmas.{by_and, by_both, by_end, by_if, by_kept, by_map}
use Rattle.cup_text.proofs.ReadNumberLemmas.{clubs_kept, goals_kept, key_kept, number_kept}
use Rattle.cup_text.proofs.ReadNumberLemmas.{passes_if, rising_kept, test_kept}

-- ---- leaves

-- the clubs of a cut rise, and each may be one
abbrev is_cut : ClubList → Bool
is_cut cut = is_rising_below most_cup_clubs cut.list

-- those of a cut that is read do
cut_kept : (place : ℕ) (shown : Data) → passes_if is_cut (cup_cut_from place shown) ≡ true
cut_kept place shown =
    by_end is_cut (place + 2) shown
    (option_map (λ clubs. record { list = clubs }) (rising_at most_cup_clubs (place + 1) shown))
    (by_kept is_cut (is_rising_below most_cup_clubs) (λ clubs. record { list = clubs })
    (rising_at most_cup_clubs (place + 1) shown) (rising_kept most_cup_clubs (place + 1) shown)
    (λ it is. is))

-- a reason that is one word
bare_kept : (place : ℕ) (name : List ℕ) (shown : Data)
    → passes_if is_cup_reason (bare_cup_reason_named place name shown) ≡ true
bare_kept place name shown =
    by_end is_cup_reason (place + 1) shown _
    (by_if is_cup_reason (bytes_eq name (codes "count")) _ _ refl
    (by_if is_cup_reason (bytes_eq name (codes "window")) _ _ refl
    (by_if is_cup_reason (bytes_eq name (codes "tie")) _ _ refl refl)))

-- the reason of a name
reason_named_kept : (place : ℕ) (name : List ℕ) (shown : Data)
    → passes_if is_cup_reason (cup_reason_named place name shown) ≡ true
reason_named_kept place name shown =
    by_if is_cup_reason (bytes_eq name (codes "low")) _ _
    (by_kept is_cup_reason is_cut (λ clubs. reason.Low clubs) (cup_cut_from place shown)
    (cut_kept place shown) (λ it is. is))
    (by_if is_cup_reason (bytes_eq name (codes "high")) _ _
    (by_kept is_cup_reason is_cut (λ clubs. reason.High clubs) (cup_cut_from place shown)
    (cut_kept place shown) (λ it is. is))
    (bare_kept place name shown))

-- the reason whose name is read
reason_kept : (place : ℕ) (shown : Data)
    → passes_if is_cup_reason (cup_reason_from place shown) ≡ true
reason_kept place shown =
    by_and is_cup_reason (λ name. cup_reason_named place name shown) (word_at place shown)
    (λ name. reason_named_kept place name shown)

-- a leaf by its first word
leaf_named_kept : (name : List ℕ) (shown : Data)
    → passes_if is_cup_leaf (cup_leaf_named name shown) ≡ true
leaf_named_kept name shown =
    by_if is_cup_leaf (bytes_eq name (codes "in")) _ _
    (by_kept is_cup_leaf is_cup_reason (λ it. leaf.In it) (cup_reason_from 2 shown)
    (reason_kept 2 shown) (λ it is. is))
    (by_if is_cup_leaf (bytes_eq name (codes "out")) _ _
    (by_kept is_cup_leaf is_cup_reason (λ it. leaf.Out it) (cup_reason_from 2 shown)
    (reason_kept 2 shown) (λ it is. is))
    (by_if is_cup_leaf (bytes_eq name (codes "key")) _ _
    (by_end is_cup_leaf 2 shown (Some leaf.ByKey) refl)
    (by_kept is_cup_leaf is_cup_reason (λ it. leaf.Plain it) (cup_reason_named 1 name shown)
    (reason_named_kept 1 name shown) (λ it is. is))))

-- the leaf of a line
leaf_kept : (shown : Data) → passes_if is_cup_leaf (cup_leaf_in shown) ≡ true
leaf_kept shown =
    by_and is_cup_leaf (λ name. cup_leaf_named name shown) (word_at 1 shown)
    (λ name. leaf_named_kept name shown)

-- ---- heads

-- that of a tree on which the budget was spent, by its kind
spent_of_kept : (kind : GroupKind) (club : ℕ) (shown : Data) → is_cup_club club ≡ true
    → passes_if is_cup_line (group_spent_of kind club shown) ≡ true
spent_of_kept kind club shown one = by_place (is_of_place kind) refl
  where
    with_key : Option CupLine
    with_key = if_ends_at 4 shown
        (option_map (λ key. line.Spent kind club (Some key)) (cup_key_at 3 shown))

    by_place : (test : Bool) → is_of_place kind ≡ test
        → passes_if is_cup_line (if test then place_spent_of kind club shown else with_key) ≡ true
    by_place true is =
        by_end is_cup_line 3 shown (Some (line.Spent kind club None))
        (and_from (is_cup_club club) (is_of_place kind) one is)
    by_place false is =
        by_end is_cup_line 4 shown
        (option_map (λ key. line.Spent kind club (Some key)) (cup_key_at 3 shown))
        (by_kept is_cup_line is_cup_key (λ key. line.Spent kind club (Some key))
        (cup_key_at 3 shown) (key_kept 3 shown)
        (λ key known. and_from (is_cup_club club) (is_key_of_kind kind (Some key)) one
        (and_from (not (is_of_place kind)) (is_cup_key key) (ap not is) known)))

-- whatever the kind
spent_kept : (shown : Data) → passes_if is_cup_line (group_spent_in shown) ≡ true
spent_kept shown =
    by_and is_cup_line (λ kind. option_and_then (λ club. group_spent_of kind club shown)
    (numbered_at most_cup_clubs 2 shown)) (kind_in shown)
    (λ kind. by_both is_cup_line is_cup_club (λ club. group_spent_of kind club shown)
    (numbered_at most_cup_clubs 2 shown) (number_kept most_cup_clubs 2 shown)
    (λ club one. spent_of_kept kind club shown one))

-- that of a refutation
tree_kept : (shown : Data) → passes_if is_cup_line (group_tree_in shown) ≡ true
tree_kept shown =
    by_end is_cup_line 3 shown _
    (by_and is_cup_line _ (kind_in shown)
    (λ kind. by_kept is_cup_line is_cup_club (λ club. line.Tree kind club)
    (numbered_at most_cup_clubs 2 shown) (number_kept most_cup_clubs 2 shown) (λ club is. is)))

-- the key of refutations
key_line_kept : (shown : Data) → passes_if is_cup_line (key_line_in shown) ≡ true
key_line_kept shown =
    by_end is_cup_line 2 shown (option_map (λ key. line.KeyLine key) (cup_key_at 1 shown))
    (by_kept is_cup_line is_cup_key (λ key. line.KeyLine key) (cup_key_at 1 shown)
    (key_kept 1 shown) (λ it is. is))

-- their groups
groups_kept : (shown : Data) → passes_if is_cup_line (groups_in shown) ≡ true
groups_kept shown =
    by_end is_cup_line 2 shown _
    (by_kept is_cup_line (is_rising_below most_groups)
    (λ groups. line.Groups (record { list = groups })) (rising_at most_groups 1 shown)
    (rising_kept most_groups 1 shown) (λ it is. is))

-- ---- examples

-- the head
finish_kept : (shown : Data) → passes_if is_cup_line (cup_finish_in shown) ≡ true
finish_kept shown =
    by_end is_cup_line 2 shown _
    (by_map is_cup_line (λ claim. line.Finish claim) (claim_at 1 shown) (λ it. refl))

-- goals that a side may have
abbrev are_goals : ℕ → Bool
are_goals goals = nat_le goals most_goals

-- a score
score_kept : (shown : Data) → passes_if is_cup_line (cup_score_in shown) ≡ true
score_kept shown =
    by_end is_cup_line 4 shown _
    (by_both is_cup_line (is_one_of most_cup_fixtures) _ (numbered_at most_cup_fixtures 1 shown)
    (number_kept most_cup_fixtures 1 shown)
    (λ fixture one. by_both is_cup_line are_goals _ (integer_at 2 0 most_goals shown)
    (goals_kept 2 most_goals shown)
    (λ home low. by_kept is_cup_line are_goals
    (λ away. line.Score fixture (record { home = home; away = away }))
    (integer_at 3 0 most_goals shown) (goals_kept 3 most_goals shown)
    (λ away high. and_from (is_one_of most_cup_fixtures fixture)
    (are_goals home && are_goals away) one
    (and_from (are_goals home) (are_goals away) low high)))))

-- the lots
lots_kept : (shown : Data) → passes_if is_cup_line (cup_lots_in shown) ≡ true
lots_kept shown =
    by_end is_cup_line 2 shown _
    (by_kept is_cup_line (list_all is_cup_club)
    (λ clubs. line.Lots (record { list = clubs })) (clubs_at most_cup_clubs 1 shown)
    (clubs_kept most_cup_clubs 1 shown) (λ it is. is))

-- ---- all lines

-- a node of a tree
node_kept : (name : List ℕ) (shown : Data)
    → passes_if is_cup_line (cup_node_named name shown) ≡ true
node_kept name shown =
    by_if is_cup_line (bytes_eq name (codes "split")) _ _
    (by_kept is_cup_line (is_test_below most_cup_fixtures most_cup_clubs)
    (λ test. line.Split test) (test_below_in most_cup_fixtures most_cup_clubs shown)
    (test_kept most_cup_fixtures most_cup_clubs shown) (λ it is. is))
    (by_if is_cup_line (bytes_eq name (codes "new_split")) _ _
    (by_kept is_cup_line (is_test_below most_cup_fixtures most_cup_clubs)
    (λ test. line.NewSplit test) (test_below_in most_cup_fixtures most_cup_clubs shown)
    (test_kept most_cup_fixtures most_cup_clubs shown) (λ it is. is))
    (by_if is_cup_line (bytes_eq name (codes "leaf")) _ _
    (by_kept is_cup_line is_cup_leaf (λ it. line.Leaf it) (cup_leaf_in shown) (leaf_kept shown)
    (λ it is. is))
    (by_if is_cup_line (bytes_eq name (codes "new_leaf")) _ _
    (by_kept is_cup_line is_cup_leaf (λ it. line.NewLeaf it) (cup_leaf_in shown)
    (leaf_kept shown) (λ it is. is))
    (by_if is_cup_line (bytes_eq name (codes "open")) _ _
    (by_end is_cup_line 1 shown (Some line.OpenLeaf) refl) refl))))

-- a line by its first word
line_named_kept : (name : List ℕ) (shown : Data)
    → passes_if is_cup_line (cup_line_named name shown) ≡ true
line_named_kept name shown =
    by_if is_cup_line (bytes_eq name (codes "finish")) _ _ (finish_kept shown)
    (by_if is_cup_line (bytes_eq name (codes "score")) _ _ (score_kept shown)
    (by_if is_cup_line (bytes_eq name (codes "lots")) _ _ (lots_kept shown)
    (by_if is_cup_line (bytes_eq name (codes "group_spent")) _ _ (spent_kept shown)
    (by_if is_cup_line (bytes_eq name (codes "group_tree")) _ _ (tree_kept shown)
    (by_if is_cup_line (bytes_eq name (codes "key")) _ _ (key_line_kept shown)
    (by_if is_cup_line (bytes_eq name (codes "groups")) _ _ (groups_kept shown)
    (node_kept name shown)))))))

-- what is read is in range
pub read_in_range : (text : List ℕ) (it : CupLine) → cup_line_in text ≡ Some it
    → IsTrue (is_cup_line it)
read_in_range text it is =
    sym (ap (passes_if is_cup_line) is)
    ∙ by_and is_cup_line cup_line_of_value (json_of text)
    (λ shown. by_and is_cup_line (λ name. cup_line_named name shown) (word_at 0 shown)
    (λ name. line_named_kept name shown))
