-- The nodes of a tree about a group: each line that goes on joins what its rest shows, and the
-- whole of a refutation refutes its question.
use Rattle.std.proofs.Common.{◌≡◌, Bool, true, false, ◌&&◌, ◌||◌, ◌==◌, ◌+◌, List, [], ◌∷◌}
use Rattle.std.proofs.Common.{Option, Some, None, refl, sym, subst}
use Rattle.std.specs.Prelude.{option_map}
use Rattle.std.proofs.lemmas.Bool.{and_parts}
use Rattle.league_core.specs.declared.zone.Literal.{Literal}
use Rattle.league_core.specs.declared.zone.Test.{Test}
use Rattle.league_core.specs.search.Zones.{with_test}
use Rattle.line_tokens.specs.declared.tree_line.TreeKind.{TreeKind}
use Rattle.line_tokens.specs.declared.tree_line.TreeKind.TheVariants.{Refutation, Spent}
use Rattle.cert_check.specs.declared.expected.Tally.{Tally}
use Rattle.cert_check.specs.ExpectedItems.{is_tally_whole, with_fresh}
use Rattle.cert_check.specs.LineGrammars.{go}
use Rattle.cert_check.specs.inside.LineParts.{AreAllParts}
use Rattle.cert_check.proofs.NextLemmas.{go-same, bad-go, go-if, only_part}
use Rattle.cup_sheet.specs.declared.question.GroupReason.{GroupReason}
use Rattle.cup_sheet.specs.CupAnswers.{IsRefutedInGroup}
use Rattle.cup_sheet.specs.CupLimits.{direct_places}
use Rattle.cup_sheet.specs.GroupQuestions.{GroupQuestion, has_group_reason}
use Rattle.cup_sheet.specs.GroupTrees.{has_open_zone, refuted_zone, split_zone}
use Rattle.cup_text.specs.declared.cup_line.CupLine.{CupLine}
use Rattle.cup_text.specs.declared.cup_line.CupLine.TheVariants as line
use Rattle.cup_grammar.specs.declared.token.CupToken.{CupToken}
use Rattle.cup_grammar.specs.PlacedGroups.{CupBasis, PlacedGroup, OwnNode, split_node}
use Rattle.cup_grammar.specs.PlacedGroups.{refuted_node, open_node, is_group_test}
use Rattle.cup_grammar.specs.PlacedGroups.{is_reason_of_kind, own_leaf, own_node, own_test}
use Rattle.cup_grammar.specs.CupDues.{CupDue, nodes, after_group_head, after_group_leaf}
use Rattle.cup_grammar.specs.CupDues.{after_group_node_if, is_same_kind}
use Rattle.cup_grammar.specs.CupDues.{whole_group_tree}
use Rattle.cup_grammar.specs.inside.CupParts.{AreRefutedInZones, ShowsZones, cup_parts}
use Rattle.cup_grammar.specs.inside.CupParts.{IsRefutedInZone, state_of_group}

-- parts for what a line leaves due
abbrev pub ArePartsOf : CupBasis → List CupDue → List CupToken → Type 0
ArePartsOf basis dues tokens = AreAllParts cup_parts true basis dues tokens

-- lines for what a line that went on leaves due
pub left_parts : (basis : CupBasis) (holds : Bool) (dues more : List CupDue)
    (tokens : List CupToken) → go holds dues ≡ go true more → ArePartsOf basis more tokens
    → (holds ≡ true) × ArePartsOf basis dues tokens
left_parts basis holds dues more tokens goes parts =
    let same = go-same holds true dues more goes in
    (same.0, subst (λ it. ArePartsOf basis it tokens) (sym same.1) parts)

-- the same for one thing that is due
pub left_part : (basis : CupBasis) (holds : Bool) (due : CupDue) (more : List CupDue)
    (tokens : List CupToken) → go holds (due ∷ []) ≡ go true more → ArePartsOf basis more tokens
    → (holds ≡ true) × cup_parts.IsPart true basis due tokens
left_part basis holds due more tokens goes parts =
    let left = left_parts basis holds (due ∷ []) more tokens goes parts in
    (left.0, only_part cup_parts true basis due tokens left.1)

-- ---- no line of a refutation is an open leaf

no_open_split : (found : Option Test) (fresh : Bool)
    → option_map (λ own. split_node own fresh) found ≡ Some open_node → ⊥
no_open_split None fresh same = absurd cc
no_open_split (Some test) fresh same = absurd cc

no_open_leaf : (found : Option GroupReason) (fresh : Bool)
    → option_map (λ own. refuted_node own fresh) found ≡ Some open_node → ⊥
no_open_leaf None fresh same = absurd cc
no_open_leaf (Some reason) fresh same = absurd cc

never_open : (group : PlacedGroup) (it : CupLine) → own_node Refutation group it ≡ Some open_node
    → ⊥
never_open group (line.Split test) same = no_open_split (own_test group test) false same
never_open group (line.Leaf leaf) same = no_open_leaf (own_leaf group leaf) false same
never_open group _ same = absurd cc

-- ---- one node

-- neither half has an open leaf
or_false : (a b : Bool) → a ≡ false → b ≡ false → (a || b) ≡ false
or_false a b first second = rw (first, second) refl

-- two halves make their zone
split_shown : (group : PlacedGroup) (question : GroupQuestion) (zone : List Literal) (test : Test)
    (fresh : Bool) → IsRefutedInZone group question (with_test zone test true)
    → IsRefutedInZone group question (with_test zone test false)
    → IsRefutedInZone group question zone
split_shown group question zone test fresh yes_half no_half = (
  split_zone test fresh yes_half.0 no_half.0,
  or_false (has_open_zone yes_half.0) (has_open_zone no_half.0) yes_half.1 no_half.1,
  (tt, yes_half.2, no_half.2),
)

-- a leaf whose reason holds, before the zones that are left
leaf_shown : (basis : CupBasis) (group : PlacedGroup) (question : GroupQuestion)
    (zone : List Literal) (zones : List (List Literal)) (tally : Tally) (reason : GroupReason)
    (fresh : Bool) (more : List CupDue) (tokens : List CupToken)
    → after_group_leaf Refutation group question zones tally
    (has_group_reason direct_places group.sheet group.season question zone reason) ≡ go true more
    → ArePartsOf basis more tokens → AreRefutedInZones group question (zone ∷ zones)
leaf_shown basis group question zone [] tally reason fresh more tokens goes parts =
    let holds = has_group_reason direct_places group.sheet group.season question zone reason in
    let left = left_parts basis (holds && is_tally_whole group.sheet.budget Refutation tally) []
    more
    tokens goes parts in
    let is = and_parts holds (is_tally_whole group.sheet.budget Refutation tally) left.0 in
    ((refuted_zone reason fresh, refl, is.0), tt)
leaf_shown basis group question zone (next ∷ zones) tally reason fresh more tokens goes parts =
    let holds = has_group_reason direct_places group.sheet group.season question zone reason in
    let left = left_part basis holds (nodes Refutation group question next zones tally) more tokens
    goes parts in
    ((refuted_zone reason fresh, refl, left.0), left.1)

-- a node of a refutation with what its rest shows
node_shown : (basis : CupBasis) (group : PlacedGroup) (question : GroupQuestion)
    (zone : List Literal) (zones : List (List Literal)) (tally : Tally) (it : CupLine)
    (more : List CupDue) (tokens : List CupToken) (found : Option OwnNode)
    → own_node Refutation group it ≡ found
    → after_group_node_if Refutation group question zone zones tally found ≡ go true more
    → ArePartsOf basis more tokens → AreRefutedInZones group question (zone ∷ zones)
node_shown basis group question zone zones tally it more tokens None is goes parts =
    absurd (bad-go true more goes)
node_shown basis group question zone zones tally it more tokens (Some (split_node test fresh)) is
    goes parts =
    let due = nodes Refutation group question (with_test zone test true)
    (with_test zone test false ∷ zones) (with_fresh fresh tally) in
    let fits = go-if (is_group_test group question test) (go true (due ∷ [])) true more goes in
    let shown = (left_part basis true due more tokens fits.1 parts).1 in
    (split_shown group question zone test fresh shown.0 shown.1.0, shown.1.1)
node_shown basis group question zone zones tally it more tokens (Some (refuted_node reason fresh))
    is goes parts =
    let fits = go-if (is_reason_of_kind group question reason)
    (after_group_leaf Refutation group question zones (with_fresh fresh tally)
    (has_group_reason direct_places group.sheet group.season question zone reason)) true more goes
    in
    leaf_shown basis group question zone zones (with_fresh fresh tally) reason fresh more tokens
    fits.1 parts
node_shown basis group question zone zones tally it more tokens (Some open_node) is goes parts =
    absurd (never_open group it is)

-- a line among the nodes of a tree
pub join_zones : (basis : CupBasis) (kind : TreeKind) (group : PlacedGroup)
    (question : GroupQuestion) (zone : List Literal) (zones : List (List Literal)) (tally : Tally)
    (it : CupLine) (more : List CupDue) (tokens : List CupToken)
    → after_group_node_if kind group question zone zones tally (own_node kind group it)
    ≡ go true more → ArePartsOf basis more tokens → ShowsZones kind group question (zone ∷ zones)
join_zones basis Refutation group question zone zones tally it more tokens goes parts =
    node_shown basis group question zone zones tally it more tokens (own_node Refutation group it)
    refl goes parts
join_zones basis Spent group question zone zones tally it more tokens goes parts = tt

-- the head of a refutation
pub join_group_head : (basis : CupBasis) (group : PlacedGroup) (question : GroupQuestion)
    (it : CupLine) (more : List CupDue) (tokens : List CupToken)
    → after_group_head group question it ≡ go true more → ArePartsOf basis more tokens
    → IsRefutedInGroup (state_of_group group) question
join_group_head basis group question (line.Tree kind club) more tokens goes parts =
    let due = whole_group_tree Refutation group question in
    let fits = go-if (is_same_kind kind question.kind && (club == group.start.club + question.club))
    (go true (due ∷ [])) true more goes in
    let shown = (left_part basis true due more tokens fits.1 parts).1 in
    (shown.0.0, record { refuted = shown.0.1; reasons = shown.0.2 })
join_group_head basis group question _ more tokens goes parts = absurd (bad-go true more goes)
