-- Trees of zones: how a season is taken apart, test by test. A leaf is refuted, or waits for work,
-- or is lent to a worker under a number.
use Rattle.std.specs.Prelude.{ℕ, ◌+◌, Bool, true, false, ◌&&◌, ◌||◌, ◌==◌, IsTrue, List, [], ◌∷◌}
use Rattle.std.specs.Prelude.{◌++◌, length, if◌then◌else◌}
use Rattle.std.specs.List.{list_any}
use Rattle.league_core.specs.declared.sheet.Sheet.{Sheet}
use Rattle.league_core.specs.declared.question.Question.{Question}
use Rattle.league_core.specs.declared.zone.Test.{Test}
use Rattle.league_core.specs.declared.zone.Literal.{Literal}
use Rattle.league_core.specs.declared.zone.Reason.{Reason}
use Rattle.league_core.specs.declared.tree.TreeNode.{TreeNode}
use Rattle.league_core.specs.declared.tree.TreeNode.TheVariants.{Split, Open, Lent, Refuted}
use Rattle.league_core.specs.game.Results.{Results}
use Rattle.league_core.specs.game.Finishes.{IsFinishOf}
use Rattle.league_core.specs.game.Ranking.{are_lots}
use Rattle.league_core.specs.search.Zones.{are_literals_true, IsMember, with_test}

-- a tree: a leaf that is open, lent under a number, or refuted by a reason; or a branch by a test,
-- with the half where it is true first. Refuted leaves and branches may be marked new
pub data Tree : Type 0 where
  open_leaf : Tree
  lent_leaf : ℕ → Tree
  refuted_leaf : Reason → Bool → Tree
  branch : Test → Bool → Tree → Tree → Tree

-- the zones of a tree's leaves, if its root has this zone: a zone is the list of the literals on
-- the way from the root
abbrev pub zones_from : List Literal → Tree → List (List Literal)
zones_from zone open_leaf = zone ∷ []
zones_from zone (lent_leaf number) = zone ∷ []
zones_from zone (refuted_leaf reason fresh) = zone ∷ []
zones_from zone (branch test fresh yes_half no_half) =
    zones_from (with_test zone test true) yes_half ++ zones_from (with_test zone test false) no_half

-- the zones of the leaves of a whole tree
abbrev pub zones_of : Tree → List (List Literal)
zones_of tree = zones_from [] tree

-- the nodes of a tree from its root on, the half where a test is true first
abbrev pub preorder : Tree → List TreeNode
preorder open_leaf = Open ∷ []
preorder (lent_leaf number) = Lent number ∷ []
preorder (refuted_leaf reason fresh) = Refuted reason fresh ∷ []
preorder (branch test fresh yes_half no_half) =
    Split test fresh ∷ (preorder yes_half ++ preorder no_half)

-- how many nodes a tree has
abbrev pub node_count : Tree → ℕ
node_count open_leaf = 1
node_count (lent_leaf number) = 1
node_count (refuted_leaf reason fresh) = 1
node_count (branch test fresh yes_half no_half) = 1 + node_count yes_half + node_count no_half

-- a fact of each node of a tree and of the zone in which it stands
abbrev pub NodesMeet : (List Literal → TreeNode → Type 0) → List Literal → Tree → Type 0
NodesMeet Fact zone open_leaf = Fact zone Open
NodesMeet Fact zone (lent_leaf number) = Fact zone (Lent number)
NodesMeet Fact zone (refuted_leaf reason fresh) = Fact zone (Refuted reason fresh)
NodesMeet Fact zone (branch test fresh yes_half no_half) =
    Fact zone (Split test fresh)
    × NodesMeet Fact (with_test zone test true) yes_half
    × NodesMeet Fact (with_test zone test false) no_half

-- each finish of the season with each drawing of lots lies in one of the zones
abbrev pub IsCover : Sheet → Results → Question → List (List Literal) → Type 0
IsCover sheet season question zones =
    (finish : Results) (lots : List ℕ) → IsFinishOf sheet season finish
    → IsTrue (are_lots (length sheet.clubs) lots)
    → IsTrue (list_any (are_literals_true sheet question.club finish lots) zones)

-- each member of the zone, for questions of this club, lies in one of the zones
abbrev pub IsCoverOf : Sheet → Results → ℕ → List Literal → List (List Literal) → Type 0
IsCoverOf sheet season club zone zones =
    (finish : Results) (lots : List ℕ) → IsMember sheet season club zone finish lots
    → IsTrue (list_any (are_literals_true sheet club finish lots) zones)

-- a node is marked new
abbrev pub is_new : TreeNode → Bool
is_new (Split test fresh) = fresh
is_new Open = false
is_new (Lent number) = false
is_new (Refuted reason fresh) = fresh

-- how many nodes are marked new
abbrev pub new_count : Tree → ℕ
new_count open_leaf = 0
new_count (lent_leaf number) = 0
new_count (refuted_leaf reason fresh) = if fresh then 1 else 0
new_count (branch test fresh yes_half no_half) =
    (if fresh then 1 else 0) + new_count yes_half + new_count no_half

-- some leaf is open
abbrev pub has_open : Tree → Bool
has_open open_leaf = true
has_open (lent_leaf number) = false
has_open (refuted_leaf reason fresh) = false
has_open (branch test fresh yes_half no_half) = has_open yes_half || has_open no_half

-- each leaf is refuted
abbrev pub is_refuted : Tree → Bool
is_refuted open_leaf = false
is_refuted (lent_leaf number) = false
is_refuted (refuted_leaf reason fresh) = true
is_refuted (branch test fresh yes_half no_half) = is_refuted yes_half && is_refuted no_half

-- the budget is used up and a leaf is still open
abbrev pub is_spent : ℕ → Tree → Bool
is_spent budget tree = (new_count tree == budget) && has_open tree
