-- What a split does to a zone, and what the leaves of a tree then say of its root: each statement
-- is the contract of a function of src/splits.rt that does nothing.
use Rattle.std.specs.Prelude.{◌↔◌, ◌⊎◌, ℕ, true, false, List, []}
use Rattle.league_core.specs.declared.sheet.Sheet.{Sheet}
use Rattle.league_core.specs.declared.question.Question.{Question}
use Rattle.league_core.specs.declared.zone.Test.{Test}
use Rattle.league_core.specs.declared.zone.Literal.{Literal}
use Rattle.league_core.specs.declared.tree.TreeNode.{TreeNode}
use Rattle.league_core.specs.declared.tree.TreeNode.TheVariants.{Split, Open, Lent, Refuted}
use Rattle.league_core.specs.game.Results.{Results}
use Rattle.league_core.specs.game.Verdicts.{HasNoExample}
use Rattle.league_core.specs.search.Zones.{IsMember, IsZoneFor, with_test}
use Rattle.league_core.specs.search.GivenVerdicts.{HoldsNowhereIn}
use Rattle.league_core.specs.search.Trees.{Tree, zones_from, zones_of, NodesMeet, IsCover}
use Rattle.league_core.specs.search.Trees.{IsCoverOf}
use Rattle.league_core.specs.search.Splits.{IsProperNode}

-- a finish with lots is in a zone exactly when it is in one of the halves by a test
abbrev pub HalvesCover : Type 0
HalvesCover =
    (sheet : Sheet) (season : Results) (club : ℕ) (zone : List Literal) (test : Test)
    (finish : Results) (lots : List ℕ)
    → IsMember sheet season club zone finish lots
    ↔ (IsMember sheet season club (with_test zone test true) finish lots
    ⊎ IsMember sheet season club (with_test zone test false) finish lots)

-- it is never in both
abbrev pub HalvesAreApart : Type 0
HalvesAreApart =
    (sheet : Sheet) (season : Results) (club : ℕ) (zone : List Literal) (test : Test)
    (finish : Results) (lots : List ℕ)
    → IsMember sheet season club (with_test zone test true) finish lots
    → ¬ IsMember sheet season club (with_test zone test false) finish lots

-- the zones of any tree's leaves hold every finish with every drawing of lots
abbrev pub LeavesCover : Type 0
LeavesCover =
    (sheet : Sheet) (season : Results) (question : Question) (tree : Tree)
    → IsCover sheet season question (zones_of tree)

-- the zones of the leaves below a zone hold each of its members
abbrev pub LeavesCoverZones : Type 0
LeavesCoverZones =
    (sheet : Sheet) (season : Results) (club : ℕ) (zone : List Literal) (tree : Tree)
    → IsCoverOf sheet season club zone (zones_from zone tree)

-- of a leaf, that the question holds nowhere in its zone; of a split, nothing
abbrev pub HoldsAtNoLeaf : Sheet → Results → Question → List Literal → TreeNode → Type 0
HoldsAtNoLeaf sheet season question zone (Split test fresh) = Unit {0}
HoldsAtNoLeaf sheet season question zone Open = HoldsNowhereIn sheet season question zone
HoldsAtNoLeaf sheet season question zone (Lent number) = HoldsNowhereIn sheet season question zone
HoldsAtNoLeaf sheet season question zone (Refuted reason fresh) =
    HoldsNowhereIn sheet season question zone

-- if the question holds in no leaf's zone, it has no example
abbrev pub LeavesDecide : Type 0
LeavesDecide =
    (sheet : Sheet) (season : Results) (question : Question) (tree : Tree)
    → NodesMeet (HoldsAtNoLeaf sheet season question) [] tree
    → HasNoExample sheet season question

-- if it holds in the zone of no leaf below a zone, it holds nowhere in this zone
abbrev pub LeavesDecideZones : Type 0
LeavesDecideZones =
    (sheet : Sheet) (season : Results) (question : Question) (zone : List Literal) (tree : Tree)
    → NodesMeet (HoldsAtNoLeaf sheet season question) zone tree
    → HoldsNowhereIn sheet season question zone

-- in a tree whose splits are proper the zone of each node is one for the question: it names what
-- the sheet has, and does not mark the question's own club
abbrev pub ProperTreesNameRivals : Type 0
ProperTreesNameRivals =
    (sheet : Sheet) (season : Results) (question : Question) (tree : Tree)
    → NodesMeet (IsProperNode sheet season question) [] tree
    → NodesMeet (λ zone node. IsZoneFor sheet question zone) [] tree
