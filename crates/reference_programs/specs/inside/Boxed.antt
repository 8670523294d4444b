-- How a node of the boxed tree is seen, and that the two boxes which a lent leaf keeps for its
-- split hold open leaves.
use Rattle.std.specs.Prelude.{◌≡◌, ℕ, ◌+◌, max, Bool, true, false, List, [], ◌∷◌, ◌++◌, reverse}
use Rattle.std.specs.Prelude.{Some, None, IsTrue}
use Rattle.league_core.specs.declared.sheet.Sheet.{Sheet}
use Rattle.league_core.specs.declared.zone.Literal.{Literal}
use Rattle.league_core.specs.declared.zone.Test.{Test}
use Rattle.league_core.specs.search.Trees.{Tree, open_leaf, lent_leaf, refuted_leaf, branch}
use Rattle.league_core.specs.search.Trees.{has_open, NodesMeet}
use Rattle.league_core.specs.inside.Lending.{lent_zones, put}
use Rattle.league_core.specs.search.Zones.{is_test_of}
use Rattle.league_core.specs.declared.tree.TreeNode.{TreeNode}
use Rattle.league_core.specs.declared.tree.TreeNode.TheVariants as node
use Rattle.league_core.specs.search.TreeLists.{with_node}
use Rattle.tree_arena.specs.inside.Calls.{IsFirstLent}
use Rattle.reference_programs.specs.declared.boxed.Node.{Node}
use Rattle.reference_programs.specs.declared.boxed.Node.TheVariants.{Open, Lent, Refuted, Split}

-- the tree that a node stands for
abbrev pub seen : Node → Tree
seen Open = open_leaf
seen (Lent number yes_half no_half) = lent_leaf number
seen (Refuted reason fresh) = refuted_leaf reason fresh
seen (Split test fresh yes_half no_half) = branch test fresh yes_half.value no_half.value

-- the boxes of a lent leaf hold open leaves
abbrev pub SparesAreOpen : Node → Type 0
SparesAreOpen Open = Unit {0}
SparesAreOpen (Lent number yes_half no_half) =
    (yes_half.value ≡ open_leaf) × (no_half.value ≡ open_leaf)
SparesAreOpen (Refuted reason fresh) = Unit {0}
SparesAreOpen (Split test fresh yes_half no_half) = Unit {0}

-- how many boxes at most lie one within the other
abbrev pub depth : Tree → ℕ
depth open_leaf = 0
depth (lent_leaf number) = 1
depth (refuted_leaf reason fresh) = 0
depth (branch test fresh yes_half no_half) = 1 + max (depth yes_half) (depth no_half)

-- what looking for a leaf to lend did to a node with this zone: it lent the first open one, whose
-- zone the way now is, or there was none
abbrev pub LendsBelow : ℕ → Tree → Tree → List Literal → List Literal → Bool → Type 0
LendsBelow number old new zone way true =
    (put number open_leaf new ≡ old) × (lent_zones number zone new ≡ way ∷ [])
    × IsFirstLent number new
LendsBelow number old new zone way false = (new ≡ old) × (has_open old ≡ false) × (way ≡ zone)

-- the same of one half, to which this literal leads
abbrev pub LendsHalf :
    ℕ → Tree → Tree → List Literal → Literal → List Literal → Bool → Type 0
LendsHalf number old new zone literal way true =
    (put number open_leaf new ≡ old) × (lent_zones number (zone ++ literal ∷ []) new ≡ way ∷ [])
    × IsFirstLent number new
LendsHalf number old new zone literal way false =
    (new ≡ old) × (has_open old ≡ false) × (way ≡ zone)

-- an open leaf has another zone; of any other node, nothing
abbrev pub IsOpenElsewhere : List Literal → List Literal → TreeNode → Type 0
IsOpenElsewhere zone own node.Open = ¬ (own ≡ zone)
IsOpenElsewhere zone own (node.Lent number) = Unit {0}
IsOpenElsewhere zone own (node.Refuted reason fresh) = Unit {0}
IsOpenElsewhere zone own (node.Split test fresh) = Unit {0}

-- looking for the open leaf of a zone, below a node with the zone of the way: it was lent, and all
-- else is as before; or no open leaf has this zone
abbrev pub LendsAt : ℕ → Tree → Tree → List Literal → List Literal → Bool → Type 0
LendsAt number old new way zone true =
    (put number open_leaf new ≡ old) × (lent_zones number way new ≡ zone ∷ [])
LendsAt number old new way zone false =
    (new ≡ old) × NodesMeet (IsOpenElsewhere zone) way old

-- the same from the root on
abbrev pub LendsThere : ℕ → Tree → Tree → List Literal → Bool → Type 0
LendsThere number old new zone is_there = LendsAt number old new [] zone is_there

-- a lent leaf becomes a new split over its two boxes, any other node stays
abbrev pub SplitsNode : Node → Test → Node → Type 0
SplitsNode Open test new = new ≡ Open
SplitsNode (Lent number yes_half no_half) test new = new ≡ Split test true yes_half no_half
SplitsNode (Refuted reason fresh) test new = new ≡ Refuted reason fresh
SplitsNode (Split other fresh yes_half no_half) test new =
    new ≡ Split other fresh yes_half no_half

-- a node came before the trees of a stack, whose top is its last; or it had too few after it
abbrev pub JoinsNode : List Tree → TreeNode → List Tree → Bool → Type 0
JoinsNode old node new true = with_node node (Some (reverse old)) ≡ Some (reverse new)
JoinsNode old node new false = with_node node (Some (reverse old)) ≡ None

-- the tests of a tree are of the sheet's fixtures and clubs, split by split
abbrev pub HasTestsOf : Sheet → Tree → Type 0
HasTestsOf sheet open_leaf = Unit {0}
HasTestsOf sheet (lent_leaf number) = Unit {0}
HasTestsOf sheet (refuted_leaf reason fresh) = Unit {0}
HasTestsOf sheet (branch test fresh yes_half no_half) =
    IsTrue (is_test_of sheet test) × HasTestsOf sheet yes_half × HasTestsOf sheet no_half
