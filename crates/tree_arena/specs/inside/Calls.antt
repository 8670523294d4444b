-- What the calls on a tree do, said of the tree of league_core that it is seen as. This project's
-- own choice; that leaves leave nothing out is a law of league_core for every tree.
use Rattle.std.specs.Prelude.{◌≡◌, ℕ, Bool, true, false, IsTrue, List, [], ◌∷◌, ◌++◌, map, Option}
use Rattle.std.specs.Prelude.{Some, None}
use Rattle.std.specs.List.{All}
use Rattle.league_core.specs.declared.sheet.Sheet.{Sheet}
use Rattle.league_core.specs.declared.zone.Literal.{Literal}
use Rattle.league_core.specs.declared.zone.Zone.{Zone}
use Rattle.league_core.specs.declared.tree.TreeNode.{TreeNode}
use Rattle.league_core.specs.declared.tree.TreeNode.TheVariants.{Split, Open, Lent, Refuted}
use Rattle.league_core.specs.search.Zones.{is_test_of}
use Rattle.league_core.specs.search.Trees.{Tree, open_leaf, lent_leaf, refuted_leaf, branch}
use Rattle.league_core.specs.search.Trees.{preorder, has_open}
use Rattle.league_core.specs.inside.Lending.{lent_zones, put}

-- the most nodes and lent leaves together with which a leaf can be lent
abbrev pub most_nodes : ℕ
most_nodes = 2000000000

-- the leaves of a tree that are open or lent, depth first, the half where a test is true first
abbrev pub live_leaves : Tree → List TreeNode
live_leaves open_leaf = Open ∷ []
live_leaves (lent_leaf number) = Lent number ∷ []
live_leaves (refuted_leaf reason fresh) = []
live_leaves (branch test fresh yes_half no_half) = live_leaves yes_half ++ live_leaves no_half

-- a node is an open leaf
abbrev pub is_open_node : TreeNode → Bool
is_open_node Open = true
is_open_node (Lent number) = false
is_open_node (Refuted reason fresh) = false
is_open_node (Split test fresh) = false

-- a leaf is lent under the number, and none before it is open, depth first, the half where a test
-- is true first
pub record IsFirstLent (number : ℕ) (tree : Tree) : Type 0 where
  pub before : List TreeNode
  pub after : List TreeNode
  pub leaves : live_leaves tree ≡ before ++ Lent number ∷ after
  pub none_open : All (λ node. is_open_node node ≡ false) before

-- the first leaf that was open is lent under the number, and this is its zone; all else is as
-- before
pub record LendsLeaf (number : ℕ) (old new : Tree) (zone : List Literal) : Type 0 where
  pub all_else : put number open_leaf new ≡ old
  pub lent : lent_zones number [] new ≡ zone ∷ []
  pub first : IsFirstLent number new

-- no leaf is open, and the tree is as before
pub record HasNoneToLend (old new : Tree) : Type 0 where
  pub same : new ≡ old
  pub none_open : has_open old ≡ false

-- what `lend` did by its answer: it lent the leaf of this zone, or there was none to lend
abbrev pub Lending : ℕ → Tree → Tree → Option Zone → Type 0
Lending number old new None = HasNoneToLend old new
Lending number old new (Some zone) = LendsLeaf number old new zone.literals

-- the literals of each zone
abbrev pub literals_of : List Zone → List (List Literal)
literals_of zones = map (λ zone. zone.literals) zones

-- the node's test is one of the sheet's fixtures or clubs
abbrev pub IsNodeOf : Sheet → TreeNode → Type 0
IsNodeOf sheet Open = Unit {0}
IsNodeOf sheet (Lent number) = Unit {0}
IsNodeOf sheet (Refuted reason fresh) = Unit {0}
IsNodeOf sheet (Split test fresh) = IsTrue (is_test_of sheet test)

-- the tests of a tree are of the sheet's fixtures and clubs
abbrev pub AreTestsOf : Sheet → Tree → Type 0
AreTestsOf sheet tree = All (IsNodeOf sheet) (preorder tree)
