-- What holds of lent leaves by the definitions alone, and of a tree that is put in their place:
-- each statement is the contract of a function of src/lending_laws.rt that does nothing. The
-- lending of an open leaf is the same read backwards: the tree before is the tree after, with an
-- open leaf put in place of the number.
use Rattle.std.specs.Prelude.{◌≡◌, ◌≢◌, ◌↔◌, ◌≤◌, ◌+◌, ◌*◌, ℕ, Bool, false, ◌&&◌, ◌||◌, nat_lt}
use Rattle.std.specs.Prelude.{IsTrue, List, [], length, All}
use Rattle.league_core.specs.declared.zone.Literal.{Literal}
use Rattle.league_core.specs.declared.tree.TreeNode.{TreeNode}
use Rattle.league_core.specs.declared.tree.TreeNode.TheVariants.{Open, Lent}
use Rattle.league_core.specs.search.Trees.{Tree, open_leaf, zones_from, node_count, NodesMeet}
use Rattle.league_core.specs.search.Trees.{new_count, has_open, is_refuted}
use Rattle.league_core.specs.inside.Leaves.{is_leaf}
use Rattle.league_core.specs.inside.Lending.{lent_count, times_lent, lent_zones, put, all_opened}

-- a number is lent as often as it has zones
abbrev pub LoansAreAsManyAsZones : Type 0
LoansAreAsManyAsZones =
    (number : ℕ) (tree : Tree) (zone : List Literal)
    → length (lent_zones number zone tree) ≡ times_lent number tree

-- no number is lent more often than leaves are lent
abbrev pub NumbersAreLentAmongAll : Type 0
NumbersAreLentAmongAll = (number : ℕ) (tree : Tree) → times_lent number tree ≤ lent_count tree

-- if no number is lent no leaf is
abbrev pub LentLeavesHaveANumber : Type 0
LentLeavesHaveANumber =
    (tree : Tree) → ((number : ℕ) → times_lent number tree ≡ 0) → lent_count tree ≡ 0

-- a tree is refuted exactly when no leaf is open and none is lent
abbrev pub SettledTreesAreRefuted : Type 0
SettledTreesAreRefuted =
    (tree : Tree)
    → IsTrue (is_refuted tree) ↔ ((has_open tree ≡ false) × (lent_count tree ≡ 0))

-- a number that is not lent has no zone
abbrev pub AbsentNumbersHaveNoZone : Type 0
AbsentNumbersHaveNoZone =
    (number : ℕ) (tree : Tree) (zone : List Literal) → times_lent number tree ≡ 0
    → lent_zones number zone tree ≡ []

-- nothing is put in place of a number that is not lent
abbrev pub PutWithoutLoans : Type 0
PutWithoutLoans =
    (number : ℕ) (new tree : Tree) → times_lent number tree ≡ 0 → put number new tree ≡ tree

-- a leaf in place of leaves leaves all zones
abbrev pub PutLeavesKeepZones : Type 0
PutLeavesKeepZones =
    (number : ℕ) (new tree : Tree) (zone : List Literal) → IsTrue (is_leaf new)
    → zones_from zone (put number new tree) ≡ zones_from zone tree

-- the number is lent nowhere, if the new tree does not lend it
abbrev pub PutTakesTheNumber : Type 0
PutTakesTheNumber =
    (number : ℕ) (new tree : Tree) (zone : List Literal) → times_lent number new ≡ 0
    → lent_zones number zone (put number new tree) ≡ []

-- another number is lent where it was, if the new tree does not lend it
abbrev pub PutKeepsOtherLoans : Type 0
PutKeepsOtherLoans =
    (number other : ℕ) (new tree : Tree) (zone : List Literal) → other ≢ number
    → times_lent other new ≡ 0
    → lent_zones other zone (put number new tree) ≡ lent_zones other zone tree

-- the new nodes of the new tree come in for each leaf that it replaces
abbrev pub PutCountsNewNodes : Type 0
PutCountsNewNodes =
    (number : ℕ) (new tree : Tree)
    → new_count (put number new tree)
    ≡ new_count tree + times_lent number tree * new_count new

-- its lent leaves come in, and those that it replaces go
abbrev pub PutCountsLoans : Type 0
PutCountsLoans =
    (number : ℕ) (new tree : Tree)
    → lent_count (put number new tree) + times_lent number tree
    ≡ lent_count tree + times_lent number tree * lent_count new

-- so do its nodes
abbrev pub PutCountsNodes : Type 0
PutCountsNodes =
    (number : ℕ) (new tree : Tree)
    → node_count (put number new tree) + times_lent number tree
    ≡ node_count tree + times_lent number tree * node_count new

-- the number is lent where the new tree lends it
abbrev pub PutCountsTheNumber : Type 0
PutCountsTheNumber =
    (number : ℕ) (new tree : Tree)
    → times_lent number (put number new tree)
    ≡ times_lent number tree * times_lent number new

-- another number is lent where it was, and where the new tree lends it
abbrev pub PutCountsOthers : Type 0
PutCountsOthers =
    (number other : ℕ) (new tree : Tree) → other ≢ number
    → times_lent other (put number new tree)
    ≡ times_lent other tree + times_lent number tree * times_lent other new

-- a leaf is open where one was, or where the new tree has one and comes in
abbrev pub PutOpensLeaves : Type 0
PutOpensLeaves =
    (number : ℕ) (new tree : Tree)
    → has_open (put number new tree)
    ≡ (has_open tree || (nat_lt 0 (times_lent number tree) && has_open new))

-- a fact of all nodes that a `Bool` decides stays, if those of the new tree have it in each zone
-- that it comes into
abbrev pub PutKeepsFacts : Type 0
PutKeepsFacts =
    (fact : List Literal → TreeNode → Bool) (number : ℕ) (new tree : Tree) (zone : List Literal)
    → NodesMeet (λ z node. IsTrue (fact z node)) zone tree
    → All (λ there. NodesMeet (λ z node. IsTrue (fact z node)) there new)
    (lent_zones number zone tree)
    → NodesMeet (λ z node. IsTrue (fact z node)) zone (put number new tree)

-- a fact that a `Bool` decides, and that open leaves share with lent ones, stays when leaves are
-- lent
abbrev pub LendingKeepsFacts : Type 0
LendingKeepsFacts =
    (fact : List Literal → TreeNode → Bool) (number : ℕ) (tree : Tree) (zone : List Literal)
    → ((z : List Literal) (lent : ℕ) → IsTrue (fact z Open) → IsTrue (fact z (Lent lent)))
    → NodesMeet (λ z node. IsTrue (fact z node)) zone (put number open_leaf tree)
    → NodesMeet (λ z node. IsTrue (fact z node)) zone tree

-- a fact of all nodes that a `Bool` decides is one of each leaf that is lent under a number
abbrev pub FactsAreOfLentLeaves : Type 0
FactsAreOfLentLeaves =
    (fact : List Literal → TreeNode → Bool) (number : ℕ) (tree : Tree) (zone : List Literal)
    → NodesMeet (λ z node. IsTrue (fact z node)) zone tree
    → All (λ z. IsTrue (fact z (Lent number))) (lent_zones number zone tree)

-- a fact that a `Bool` decides, and that lent leaves share with open ones, stays when all leaves
-- are opened
abbrev pub OpeningKeepsFacts : Type 0
OpeningKeepsFacts =
    (fact : List Literal → TreeNode → Bool) (tree : Tree) (zone : List Literal)
    → ((z : List Literal) (lent : ℕ) → IsTrue (fact z (Lent lent)) → IsTrue (fact z Open))
    → NodesMeet (λ z node. IsTrue (fact z node)) zone tree
    → NodesMeet (λ z node. IsTrue (fact z node)) zone (all_opened tree)

-- with each lent leaf open nothing is lent
abbrev pub OpeningTakesAllLoans : Type 0
OpeningTakesAllLoans =
    (number : ℕ) (tree : Tree) (zone : List Literal)
    → (lent_count (all_opened tree) ≡ 0) × (lent_zones number zone (all_opened tree) ≡ [])

-- the tree has the zones, the nodes and the new nodes that it had
abbrev pub OpeningKeepsTheTree : Type 0
OpeningKeepsTheTree =
    (tree : Tree) (zone : List Literal)
    → (zones_from zone (all_opened tree) ≡ zones_from zone tree)
    × (node_count (all_opened tree) ≡ node_count tree)
    × (new_count (all_opened tree) ≡ new_count tree)

-- its leaves are open where they were open or lent, and refuted where they were
abbrev pub OpeningOpensLoans : Type 0
OpeningOpensLoans =
    (tree : Tree)
    → (has_open (all_opened tree) ≡ (has_open tree || nat_lt 0 (lent_count tree)))
    × (is_refuted (all_opened tree) ≡ is_refuted tree)
