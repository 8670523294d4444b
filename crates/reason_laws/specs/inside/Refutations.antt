-- What refutes a question: a tree of zones each of whose leaves has a reason that holds there; and
-- what a tree says of which some leaves alone are refuted. Each statement is the contract of a
-- function of src/refutations.rt that does nothing.
use Rattle.std.specs.Prelude.{◌<◌, ◌↔◌, ℕ, Bool, not, ◌&&◌, IsTrue, List, [], length}
use Rattle.std.specs.List.{list_any}
use Rattle.league_core.specs.declared.sheet.Sheet.{Sheet}
use Rattle.league_core.specs.declared.question.Question.{Question}
use Rattle.league_core.specs.declared.zone.Literal.{Literal}
use Rattle.league_core.specs.declared.tree.TreeNode.{TreeNode}
use Rattle.league_core.specs.declared.tree.TreeNode.TheVariants.{Split, Open, Lent, Refuted}
use Rattle.league_core.specs.game.Results.{Results}
use Rattle.league_core.specs.game.Questions.{holds_at}
use Rattle.league_core.specs.game.Verdicts.{HasNoExample}
use Rattle.league_core.specs.search.Zones.{are_literals_true, IsMember}
use Rattle.league_core.specs.search.GivenVerdicts.{HoldsNowhereIn}
use Rattle.league_core.specs.search.Reasons.{has_reason}
use Rattle.league_core.specs.search.Trees.{Tree, NodesMeet, is_refuted}
use Rattle.league_core.specs.inside.Leaves.{Leaf, leaves_from, is_refuted_leaf}
use Rattle.league_core.specs.search.Splits.{AreReasonsTrue}

-- of a leaf, that it is refuted, and that its reason holds in its zone; of a split, nothing
abbrev pub IsRefutedLeaf : Sheet → Results → Question → List Literal → TreeNode → Type 0
IsRefutedLeaf sheet season question zone (Split test fresh) = Unit {0}
IsRefutedLeaf sheet season question zone Open = ⊥
IsRefutedLeaf sheet season question zone (Lent number) = ⊥
IsRefutedLeaf sheet season question zone (Refuted reason fresh) =
    IsTrue (has_reason sheet season question zone reason)

-- each leaf of the tree is refuted by a reason that holds in its zone
abbrev pub IsRefutation : Sheet → Results → Question → Tree → Type 0
IsRefutation sheet season question tree = NodesMeet (IsRefutedLeaf sheet season question) [] tree

-- a question with a refutation has no example
abbrev pub RefutedTreesDecide : Type 0
RefutedTreesDecide =
    (sheet : Sheet) (season : Results) (question : Question) (tree : Tree)
    → question.club < length sheet.clubs → IsRefutation sheet season question tree
    → HasNoExample sheet season question

-- below any zone, such a tree shows that the question holds nowhere in the zone
abbrev pub RefutedTreesDecideZones : Type 0
RefutedTreesDecideZones =
    (sheet : Sheet) (season : Results) (question : Question) (zone : List Literal) (tree : Tree)
    → question.club < length sheet.clubs
    → NodesMeet (IsRefutedLeaf sheet season question) zone tree
    → HoldsNowhereIn sheet season question zone

-- a tree is such a tree exactly when each leaf is refuted and the reasons of the refuted ones hold
abbrev pub RefutedTreesHaveTrueReasons : Type 0
RefutedTreesHaveTrueReasons =
    (sheet : Sheet) (season : Results) (question : Question) (zone : List Literal) (tree : Tree)
    → NodesMeet (IsRefutedLeaf sheet season question) zone tree
    ↔ (IsTrue (is_refuted tree) × AreReasonsTrue sheet season question zone tree)

-- the leaf is not refuted, and its zone's literals are true there
abbrev pub is_unsettled_at : Sheet → Question → Results → List ℕ → Leaf → Bool
is_unsettled_at sheet question finish lots leaf =
    not (is_refuted_leaf leaf.node)
    && are_literals_true sheet question.club finish lots leaf.zone

-- if the reasons of the refuted leaves hold, each member of the root's zone at which the question
-- holds lies in the zone of a leaf that is open or lent
abbrev pub ExamplesAreInUnsettledLeaves : Type 0
ExamplesAreInUnsettledLeaves =
    (sheet : Sheet) (season : Results) (question : Question) (zone : List Literal) (tree : Tree)
    (finish : Results) (lots : List ℕ)
    → question.club < length sheet.clubs → AreReasonsTrue sheet season question zone tree
    → IsMember sheet season question.club zone finish lots
    → IsTrue (holds_at sheet question finish lots)
    → IsTrue (list_any (is_unsettled_at sheet question finish lots) (leaves_from zone tree))
