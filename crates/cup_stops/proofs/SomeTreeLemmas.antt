-- Trees and joint finishes can be written for any zones and scores, if they need prove nothing: a
-- leaf for each zone, no goals for each match that is left, lots in the order of the cup.
use Rattle.std.proofs.Common.{◌≡◌, ℕ, zero, suc, ◌+◌, ℤ, true, false}
use Rattle.std.proofs.Common.{List, [], ◌∷◌, ◌++◌, length, map, Option, Some, refl}
use Rattle.std.proofs.Common.{arith}
use Rattle.std.specs.Prelude.{IsTrue}
use Rattle.league_core.specs.declared.question.Claim.{Claim}
use Rattle.league_core.specs.declared.question.Claim.TheVariants.{Inside}
use Rattle.league_core.specs.declared.season.Score.{Score}
use Rattle.league_core.specs.declared.zone.Literal.{Literal}
use Rattle.league_core.specs.declared.zone.Reason.TheVariants as why
use Rattle.league_core.specs.game.Ranking.{are_lots}
use Rattle.league_core.specs.game.Sheets.{clubs_of}
use Rattle.league_core.specs.inside.LotsFor.{lots_for_claim}
use Rattle.league_core.proofs.FinishLemmas.{ended_of, may_all_end-ended}
use Rattle.league_core.proofs.LotsLemmas.{lots_for_claim-are_lots}
use Rattle.league_core.proofs.plain.Options.{OnTrue-false}
use Rattle.line_tokens.specs.declared.tree_line.TreeKind.{TreeKind}
use Rattle.line_tokens.specs.declared.tree_line.TreeKind.TheVariants.{Refutation, Spent}
use Rattle.cert_check.specs.declared.expected.Tally.{Tally}
use Rattle.cert_check.specs.ExpectedItems.{is_tally_whole}
use Rattle.cup_sheet.specs.declared.question.GroupKind.{GroupKind}
use Rattle.cup_sheet.specs.declared.question.GroupKind.TheVariants.{Top, Below, SecondLess}
use Rattle.cup_sheet.specs.declared.question.GroupKind.TheVariants.{SecondAtLeast, SecondMore}
use Rattle.cup_sheet.specs.declared.question.GroupKind.TheVariants.{SecondAtMost}
use Rattle.cup_sheet.specs.declared.question.GroupReason.{GroupReason}
use Rattle.cup_sheet.specs.declared.question.GroupReason.TheVariants as reason
use Rattle.cup_sheet.specs.CupAnswers.{qualifies_on}
use Rattle.cup_sheet.specs.CupFeeds.{goal_limit_of}
use Rattle.cup_sheet.specs.CupLimits.{direct_places}
use Rattle.cup_sheet.specs.Cups.{clubs_together}
use Rattle.cup_sheet.specs.GroupQuestions.{GroupQuestion, has_group_reason}
use Rattle.cup_sheet.specs.GroupTrees.{GroupTree, refuted_zone}
use Rattle.cup_sheet.specs.KeyBounds.{nearer_kind, others_kind, place_kind}
use Rattle.cup_sheet.specs.Qualifying.{qualifies_at}
use Rattle.cup_text.specs.CupItems.{group_scores_from}
use Rattle.cup_text.specs.declared.cup_line.CupLeaf.TheVariants as leaf
use Rattle.cup_text.specs.declared.cup_line.CupLine.{CupLine}
use Rattle.cup_text.specs.declared.cup_line.CupLine.TheVariants as line
use Rattle.cup_text.specs.declared.cup_line.CupReason.TheVariants as told
use Rattle.cup_grammar.specs.declared.token.CupToken.{CupToken}
use Rattle.cup_grammar.specs.declared.token.CupToken.TheVariants.{Proof}
use Rattle.cup_grammar.specs.PlacedGroups.{CupBasis, PlacedGroup}
use Rattle.cup_grammar.specs.PlacedGroups.{is_reason_of_kind, own_club, own_node}
use Rattle.cup_grammar.specs.PlacedGroups.{refuted_node}
use Rattle.cup_grammar.specs.CupDues.{ends_of_groups}
use Rattle.cup_grammar.specs.CupDues.{scores_of_groups}
use Rattle.cup_stops.specs.inside.GroupTreeCases.{AllNodesFit, AreGroupTrees, AreNodeLines}
use Rattle.cup_stops.specs.inside.GroupTreeCases.{IsHeadedRefutation, nodes_of_trees}
use Rattle.cup_stops.specs.inside.GroupTreeCases.{tally_past_all}
use Rattle.cup_stops.specs.inside.CupCases.{AreOthersRefuted, AreSideTrees}
use Rattle.cup_stops.specs.inside.CupCases.{AreTokensOf, IsHeadedFinish}
use Rattle.cup_stops.specs.inside.CupCases.{IsJointFrom}

-- ---- trees

-- a reason of the kind, and its leaf
some_reason : GroupKind → GroupReason
some_reason Top = reason.Plain why.Count
some_reason Below = reason.Plain why.Count
some_reason SecondLess = reason.ByKey
some_reason SecondAtLeast = reason.ByKey
some_reason SecondMore = reason.ByKey
some_reason SecondAtMost = reason.ByKey

some_leaf : GroupKind → CupLine
some_leaf Top = line.Leaf (leaf.Plain told.Count)
some_leaf Below = line.Leaf (leaf.Plain told.Count)
some_leaf SecondLess = line.Leaf leaf.ByKey
some_leaf SecondAtLeast = line.Leaf leaf.ByKey
some_leaf SecondMore = line.Leaf leaf.ByKey
some_leaf SecondAtMost = line.Leaf leaf.ByKey

-- it may stand in a tree of the kind
reason_fits : (group : PlacedGroup) (kind : GroupKind) (club : ℕ) (key : List ℤ)
    → is_reason_of_kind group (record { kind = kind; club = club; key = key }) (some_reason kind)
    ≡ true
unfolding some_reason
reason_fits group Top club key = refl
reason_fits group Below club key = refl
reason_fits group SecondLess club key = refl
reason_fits group SecondAtLeast club key = refl
reason_fits group SecondMore club key = refl
reason_fits group SecondAtMost club key = refl

-- the line stands for it
leaf_stands : (kind : TreeKind) (group : PlacedGroup) (asked : GroupKind)
    → own_node kind group (some_leaf asked) ≡ Some (refuted_node (some_reason asked) false)
unfolding some_reason some_leaf
leaf_stands Refutation group Top = refl
leaf_stands Refutation group Below = refl
leaf_stands Refutation group SecondLess = refl
leaf_stands Refutation group SecondAtLeast = refl
leaf_stands Refutation group SecondMore = refl
leaf_stands Refutation group SecondAtMost = refl
leaf_stands Spent group Top = refl
leaf_stands Spent group Below = refl
leaf_stands Spent group SecondLess = refl
leaf_stands Spent group SecondAtLeast = refl
leaf_stands Spent group SecondMore = refl
leaf_stands Spent group SecondAtMost = refl

-- a leaf for each zone
leaves_stand : (kind : TreeKind) (group : PlacedGroup) (question : GroupQuestion)
    (zones : List (List Literal)) → (trees : List GroupTree)
    × AllNodesFit false group question zones trees × (tokens : List CupToken)
    × AreNodeLines kind group (nodes_of_trees trees) tokens
leaves_stand kind group question [] = ([], tt, [], refl)
leaves_stand kind group question (zone ∷ zones) =
    let later = leaves_stand kind group question zones in
    let said = some_reason question.kind in (
      refuted_zone said false ∷ later.0,
      (
        (
          reason_fits group question.kind question.club question.key,
          OnTrue-false (IsTrue (has_group_reason direct_places group.sheet group.season question
              zone said)),
        ),
        later.1,
      ),
      Proof (some_leaf question.kind) ∷ later.2,
      (some_leaf question.kind, later.2, leaf_stands kind group question.kind, later.3, refl),
    )

-- trees for zones
pub some_trees : (kind : TreeKind) (group : PlacedGroup) (question : GroupQuestion)
    (zones : List (List Literal)) (tally : Tally)
    → (tokens : List CupToken) × AreGroupTrees false kind group question zones tally tokens
some_trees kind group question zones tally =
    let leaves = leaves_stand kind group question zones in (
      leaves.2,
      (
        leaves.0,
        leaves.1,
        OnTrue-false (IsTrue (is_tally_whole group.sheet.budget kind (tally_past_all tally
            leaves.0))),
        leaves.3,
      ),
    )

-- a refutation
pub some_refutation : (group : PlacedGroup) (question : GroupQuestion)
    → (tokens : List CupToken) × IsHeadedRefutation false group question tokens
some_refutation group question =
    let tree = some_trees Refutation group question ([] ∷ [])
    (record { news = 0; some_open = false }) in (
      Proof (line.Tree question.kind (group.start.club + question.club)) ∷ tree.0,
      (tree.0, tree.1, refl),
    )

-- lines for each of many things, where there are some for one
some_of_all : {A : Type 0} (IsPart : A → List CupToken → Type 0)
    → ((x : A) → (tokens : List CupToken) × IsPart x tokens)
    → (xs : List A) → (tokens : List CupToken) × AreTokensOf IsPart xs tokens
some_of_all IsPart each [] = ([], refl)
some_of_all IsPart each (x ∷ xs) =
    let front = each x in
    let back = some_of_all IsPart each xs in
    (front.0 ++ back.0, (front.0, back.0, front.1, back.1, refl))

-- the refutations of a side
pub some_side_trees : (claim : Claim) (club : ℕ) (key : List ℤ) (mine : PlacedGroup)
    (listed : List PlacedGroup)
    → (tokens : List CupToken) × AreSideTrees false claim club key mine listed tokens
some_side_trees claim club key mine listed =
    let place = some_refutation mine
    (record { kind = place_kind claim; club = own_club mine club; key = [] }) in
    let nearer = some_refutation mine
    (record { kind = nearer_kind claim; club = own_club mine club; key = key }) in
    let asked : PlacedGroup → ℕ → List CupToken → Type 0 =
    λ group other tokens. IsHeadedRefutation false group
    (record { kind = others_kind claim; club = other; key = key }) tokens in
    let others = some_of_all (AreOthersRefuted false claim key)
    (λ group. some_of_all (asked group)
    (λ other. some_refutation group
    (record { kind = others_kind claim; club = other; key = key })) (clubs_of group.sheet)) listed
    in (
      place.0 ++ (nearer.0 ++ others.0),
      (place.0, nearer.0, others.0, place.1, nearer.1, others.1, refl),
    )

-- ---- joint finishes

-- lots of so many clubs
some_cup_lots : (clubs : ℕ) → (drawn : List ℕ) × (are_lots clubs drawn ≡ true)
some_cup_lots zero = ([], refl)
some_cup_lots (suc clubs) = (
  lots_for_claim (suc clubs) 0 Inside,
  lots_for_claim-are_lots (suc clubs) 0 Inside (omega arith),
)

-- the rest of a joint finish
pub some_joint : (basis : CupBasis) (claim : Claim) (club : ℕ) (ended left : List (Option Score))
    → (tokens : List CupToken) × IsJointFrom false basis claim club ended left tokens
some_joint basis claim club ended left =
    let drawn = some_cup_lots (clubs_together basis.cup.groups) in
    let scores = map ended_of left in (
      map Proof (group_scores_from (length ended) left scores
          ++ line.Lots (record { list = drawn.0 }) ∷ []),
      (
        scores,
        drawn.0,
        may_all_end-ended (goal_limit_of basis.cup.groups) left,
        drawn.1,
        OnTrue-false
            (qualifies_at basis.cup (ends_of_groups basis.seasons (ended ++ scores)) drawn.0 club
            ≡ qualifies_on claim),
        refl,
      ),
    )

-- a joint finish
pub some_finish : (basis : CupBasis) (claim : Claim) (club : ℕ)
    → (tokens : List CupToken) × IsHeadedFinish false basis claim club tokens
some_finish basis claim club =
    let rest = some_joint basis claim club [] (scores_of_groups basis.seasons) in
    (Proof (line.Finish claim) ∷ rest.0, (rest.0, rest.1, refl))
