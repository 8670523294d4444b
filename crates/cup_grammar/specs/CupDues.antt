-- What must come yet in a report on a cup, and what each line under a row leaves due in its place:
-- the heads of refutations, of trees on which the budget was spent and of joint finishes, the nodes
-- of trees, scores and lots. The forms and their order are this project's own.
use Rattle.std.specs.Prelude.{ℕ, ◌+◌, ℤ, Bool, true, false, not, ◌&&◌, ◌==◌, nat_lt, List, [], ◌∷◌}
use Rattle.std.specs.Prelude.{◌++◌, length, map, take, drop, Option, Some, None, option_map}
use Rattle.std.specs.Prelude.{if◌then◌else◌}
use Rattle.std.specs.List.{flat_map, list_all, list_any}
use Rattle.league_core.specs.declared.season.Score.{Score}
use Rattle.league_core.specs.declared.question.Claim.{Claim}
use Rattle.league_core.specs.declared.question.Claim.TheVariants.{Inside, Outside}
use Rattle.league_core.specs.declared.zone.Literal.{Literal}
use Rattle.league_core.specs.game.Results.{Results}
use Rattle.league_core.specs.game.Ranking.{are_lots}
use Rattle.league_core.specs.game.Sheets.{clubs_of}
use Rattle.league_core.specs.search.Zones.{with_test}
use Rattle.line_tokens.specs.LineRanges.{same_claim}
use Rattle.line_tokens.specs.declared.tree_line.TreeKind.{TreeKind}
use Rattle.line_tokens.specs.declared.tree_line.TreeKind.TheVariants.{Refutation, Spent}
use Rattle.cert_check.specs.declared.expected.Tally.{Tally}
use Rattle.cert_check.specs.ExpectedItems.{is_ending, is_tally_whole, with_fresh, with_open}
use Rattle.cert_check.specs.LineGrammars.{Next, bad, go}
use Rattle.cup_sheet.specs.declared.question.GroupKind.{GroupKind}
use Rattle.cup_sheet.specs.declared.question.GroupKind.TheVariants.{Top, Below, SecondLess}
use Rattle.cup_sheet.specs.declared.question.GroupKind.TheVariants.{SecondAtLeast, SecondMore}
use Rattle.cup_sheet.specs.declared.question.GroupKind.TheVariants.{SecondAtMost}
use Rattle.cup_sheet.specs.CupAnswers.{listed_groups}
use Rattle.cup_sheet.specs.CupFeeds.{joint_sheet}
use Rattle.cup_sheet.specs.CupLimits.{direct_places}
use Rattle.cup_sheet.specs.Cups.{clubs_together}
use Rattle.cup_sheet.specs.GroupQuestions.{GroupQuestion, has_group_reason}
use Rattle.cup_sheet.specs.KeyBounds.{nearer_kind, others_kind, place_kind}
use Rattle.cup_sheet.specs.Qualifying.{qualifies_at}
use Rattle.cup_text.specs.declared.cup_line.CupLine.{CupLine}
use Rattle.cup_text.specs.declared.cup_line.CupLine.TheVariants as line
use Rattle.cup_grammar.specs.PlacedGroups.{CupBasis, PlacedGroup, placed_groups, group_with}
use Rattle.cup_grammar.specs.PlacedGroups.{groups_at, own_club, OwnNode, split_node, refuted_node}
use Rattle.cup_grammar.specs.PlacedGroups.{open_node, is_group_test, is_reason_of_kind}

-- what must come: the row of the ask; the row of a club; the key of what refutes a side of the
-- club; the list of groups after it; a refutation about a group from its head on; a tree on which
-- the budget was spent; a joint finish for a side of the club; one of these two; what stands for
-- both sides; the nodes of a tree for the zones that are still due, the first of which comes next;
-- the score of the fixture after those that have ended; the lots
pub data CupDue : Type 0 where
  ask_row : CupDue
  club_row : ℕ → CupDue
  key_line : Claim → ℕ → CupDue
  groups_line : Claim → ℕ → List ℤ → CupDue
  tree_head : PlacedGroup → GroupQuestion → CupDue
  spent_head : CupDue
  finish_head : Claim → ℕ → CupDue
  one_part : Claim → ℕ → CupDue
  both_parts : ℕ → CupDue
  nodes : TreeKind → PlacedGroup → GroupQuestion → List Literal → List (List Literal) → Tally
      → CupDue
  score : Claim → ℕ → List (Option Score) → List (Option Score) → CupDue
  lots : Claim → ℕ → List (Option Score) → CupDue

-- ---- trees

-- what is due after a leaf: the next zone that is, or nothing more of the tree
abbrev pub after_group_leaf : TreeKind → PlacedGroup → GroupQuestion → List (List Literal) → Tally
    → Bool → Next CupDue
after_group_leaf kind group question [] tally holds =
    go (holds && is_tally_whole group.sheet.budget kind tally) []
after_group_leaf kind group question (zone ∷ zones) tally holds =
    go holds (nodes kind group question zone zones tally ∷ [])

-- what is due after a node: after a split the half where its test is true, and later the other
abbrev pub after_group_node : TreeKind → PlacedGroup → GroupQuestion → List Literal
    → List (List Literal) → Tally → OwnNode → Next CupDue
after_group_node kind group question zone zones tally (split_node test fresh) =
    if is_group_test group question test
    then go true
    (nodes kind group question (with_test zone test true) (with_test zone test false ∷ zones)
    (with_fresh fresh tally) ∷ [])
    else bad
after_group_node kind group question zone zones tally (refuted_node reason fresh) =
    if is_reason_of_kind group question reason
    then after_group_leaf kind group question zones (with_fresh fresh tally)
    (has_group_reason direct_places group.sheet group.season question zone reason)
    else bad
after_group_node kind group question zone zones tally open_node =
    after_group_leaf kind group question zones (with_open tally) true

-- what is due after a line that may stand for a node
abbrev pub after_group_node_if : TreeKind → PlacedGroup → GroupQuestion → List Literal
    → List (List Literal) → Tally → Option OwnNode → Next CupDue
after_group_node_if kind group question zone zones tally None = bad
after_group_node_if kind group question zone zones tally (Some it) =
    after_group_node kind group question zone zones tally it

-- the nodes of a tree from its root on
abbrev pub whole_group_tree : TreeKind → PlacedGroup → GroupQuestion → CupDue
whole_group_tree kind group question =
    nodes kind group question [] [] (record { news = 0; some_open = false })

-- both kinds are the same
abbrev pub is_same_kind : GroupKind → GroupKind → Bool
is_same_kind Top Top = true
is_same_kind Below Below = true
is_same_kind SecondLess SecondLess = true
is_same_kind SecondAtLeast SecondAtLeast = true
is_same_kind SecondMore SecondMore = true
is_same_kind SecondAtMost SecondAtMost = true
is_same_kind _ _ = false

-- the head of a refutation: of this kind and this club
abbrev pub after_group_head : PlacedGroup → GroupQuestion → CupLine → Next CupDue
after_group_head group question (line.Tree kind club) =
    if is_same_kind kind question.kind && (club == group.start.club + question.club)
    then go true (whole_group_tree Refutation group question ∷ []) else bad
after_group_head group question _ = bad

-- ---- a side that is refuted

-- the parts of a key that a line has
abbrev pub after_key_line : Claim → ℕ → CupLine → Next CupDue
after_key_line claim club (line.KeyLine key) = go true (groups_line claim club key.parts ∷ [])
after_key_line claim club _ = bad

-- what is due for a listed group: a refutation about each of its clubs
abbrev pub others_due : Claim → List ℤ → PlacedGroup → List CupDue
others_due claim key group =
    map (λ club. tree_head group (record { kind = others_kind claim; club = club; key = key }))
    (clubs_of group.sheet)

-- the refutations of a side: of what is asked of the club's place, of a nearer key, and of all
-- clubs of the listed groups
abbrev pub side_trees_due : Claim → ℕ → List ℤ → PlacedGroup → List PlacedGroup → List CupDue
side_trees_due claim club key mine listed =
    tree_head mine
    (record { kind = place_kind claim; club = own_club mine club; key = [] })
    ∷ (tree_head mine
    (record { kind = nearer_kind claim; club = own_club mine club; key = key })
    ∷ flat_map (others_due claim key) listed)

-- the numbers are those of other groups of the cup, as many as are listed; that they rise is a
-- matter of the form
abbrev pub may_be_listed : CupBasis → Claim → PlacedGroup → List ℕ → Bool
may_be_listed basis claim mine numbers =
    (length numbers == listed_groups basis.cup claim)
    && list_all (λ number. nat_lt number (length (placed_groups basis))) numbers
    && not (list_any (λ (group : PlacedGroup). group.start.club == mine.start.club)
    (groups_at (placed_groups basis) numbers))

-- the list of groups, if the club plays in one
abbrev pub after_groups_in : CupBasis → Claim → ℕ → List ℤ → Option PlacedGroup → CupLine
    → Next CupDue
after_groups_in basis claim club key (Some mine) (line.Groups groups) =
    if may_be_listed basis claim mine groups.list
    then go true (side_trees_due claim club key mine
    (groups_at (placed_groups basis) groups.list))
    else bad
after_groups_in basis claim club key mine _ = bad

-- ---- a side that is not

-- a tree on which the budget was spent: of any kind, about any club of the cup, with any key; that
-- the question is on the way to the side is not tested
abbrev pub after_spent_in : CupBasis → GroupKind → ℕ → List ℤ → Option PlacedGroup → List CupDue
    → Next CupDue
after_spent_in basis kind club key None more = bad
after_spent_in basis kind club key (Some group) more =
    go true (whole_group_tree Spent group
    (record { kind = kind; club = own_club group club; key = key }) ∷ more)

-- the key of a head as a question has it
abbrev pub key_of_head : Option (List ℤ) → List ℤ
key_of_head None = []
key_of_head (Some key) = key

-- the scores that the seasons have, through all groups
abbrev pub scores_of_groups : List Results → List (Option Score)
scores_of_groups seasons = flat_map (λ (season : Results). season.scores) seasons

-- what is due after these scores: the score of the next fixture that has none, or the lots
abbrev pub cup_scores_due : Claim → ℕ → List (Option Score) → List (Option Score) → CupDue
cup_scores_due claim club ended [] = lots claim club ended
cup_scores_due claim club ended (Some played ∷ left) =
    cup_scores_due claim club (ended ++ Some played ∷ []) left
cup_scores_due claim club ended (None ∷ left) = score claim club ended left

-- a joint finish after its head
abbrev pub whole_joint_finish : CupBasis → Claim → ℕ → CupDue
whole_joint_finish basis claim club =
    cup_scores_due claim club [] (scores_of_groups basis.seasons)

-- the head of a joint finish for this side
abbrev pub after_joint_head : CupBasis → Claim → ℕ → CupLine → Next CupDue
after_joint_head basis claim club (line.Finish side) =
    if same_claim side claim then go true (whole_joint_finish basis claim club ∷ []) else bad
after_joint_head basis claim club _ = bad

-- the head of a spent tree, before what else is due
abbrev pub after_spent_line : CupBasis → List CupDue → CupLine → Next CupDue
after_spent_line basis more (line.Spent kind club key) =
    after_spent_in basis kind club (key_of_head (option_map (λ it. it.parts) key))
    (group_with (placed_groups basis) club) more
after_spent_line basis more _ = bad

-- the head of a joint finish or of a spent tree
abbrev pub after_cup_part : CupBasis → Claim → ℕ → CupLine → Next CupDue
after_cup_part basis claim club (line.Finish side) =
    after_joint_head basis claim club (line.Finish side)
after_cup_part basis claim club it = after_spent_line basis [] it

-- the first head after an unsettled row: after a joint finish for qualifying only a spent tree may
-- come
abbrev pub after_cup_parts : CupBasis → ℕ → CupLine → Next CupDue
after_cup_parts basis club (line.Finish Inside) =
    go true (whole_joint_finish basis Inside club ∷ spent_head ∷ [])
after_cup_parts basis club (line.Finish Outside) = bad
after_cup_parts basis club it = after_spent_line basis (one_part Outside club ∷ []) it

-- the score of the fixture that is due
abbrev pub after_cup_score : CupBasis → Claim → ℕ → List (Option Score) → List (Option Score)
    → CupLine → Next CupDue
after_cup_score basis claim club ended left (line.Score fixture ending) =
    if (fixture == length ended) && is_ending (joint_sheet basis.cup) ending
    then go true (cup_scores_due claim club (ended ++ Some ending ∷ []) left ∷ []) else bad
after_cup_score basis claim club ended left _ = bad

-- how each group ends with these scores through all groups
abbrev pub ends_of_groups : List Results → List (Option Score) → List Results
ends_of_groups [] scores = []
ends_of_groups (season ∷ seasons) scores =
    record season { scores = take (length season.scores) scores }
    ∷ ends_of_groups seasons (drop (length season.scores) scores)

-- the answer to whether the club qualifies is that of the side
abbrev pub is_on_claimed_side : Claim → Bool → Bool
is_on_claimed_side Inside qualifies = qualifies
is_on_claimed_side Outside qualifies = not qualifies

-- the lots: they end the joint finish, and the club has to be on the side with them
abbrev pub after_cup_lots : CupBasis → Claim → ℕ → List (Option Score) → CupLine → Next CupDue
after_cup_lots basis claim club ended (line.Lots list) =
    if are_lots (clubs_together basis.cup.groups) list.list
    then go (is_on_claimed_side claim
    (qualifies_at basis.cup (ends_of_groups basis.seasons ended) list.list club)) []
    else bad
after_cup_lots basis claim club ended _ = bad
