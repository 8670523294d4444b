-- How an arena is made from a list, node by node.
use Rattle.std.specs.Prelude.{◌≡◌, ◌≤◌, ℕ, List, [], ◌∷◌, ◌++◌, length, reverse}
use Rattle.league_core.specs.declared.tree.TreeNode.{TreeNode}
use Rattle.std.specs.Prelude.{true}
use Rattle.league_core.specs.search.Trees.{preorder}
use Rattle.tree_arena.specs.declared.node.Node.{Node}
use Rattle.tree_arena.specs.declared.node.Kind.TheVariants.{Open}
use Rattle.tree_arena.specs.declared.build.Build.{Build}
use Rattle.tree_arena.specs.inside.Arena.{nodes_taken, places_taken, live_taken, lent_taken}
use Rattle.tree_arena.specs.inside.Arena.{IsArena, tree_below}
use Rattle.tree_arena.specs.inside.Order.{live_in}

-- one open node waits for the first node of the list
pub record Starts (new : Build) : Type 0 where
  pub nodes_are : new.nodes.items ≡ record { kind = Open; parent = 0; yes = true } ∷ []
  pub places_are : new.places.items ≡ 0 ∷ []
  pub live_are : new.live.items ≡ []
  pub lent_are : new.lent.items ≡ []

-- the next node of the list came to the place on top
pub record TakesNode (node : TreeNode) (old new : Build) : Type 0 where
  pub rest : List ℕ
  pub at : ℕ
  pub popped : old.places.items ≡ rest ++ at ∷ []
  pub nodes_are : (default : Node)
      → new.nodes.items ≡ nodes_taken node old.nodes.items at default
  pub places_are : new.places.items ≡ places_taken node (length old.nodes.items) rest
  pub live_are : new.live.items ≡ live_taken node at old.live.items
  pub lent_are : new.lent.items ≡ lent_taken node at old.lent.items

-- an arena of the list's tree, with its leaves that are open or lent as the list has them, the
-- first one last
pub record IsBuilt (list : List TreeNode) (build : Build) : Type 0 where
  pub tree : preorder (tree_below build.nodes.items 0) ≡ list
  pub opens : List ℕ
  pub arena : IsArena build.nodes.items opens build.lent.items
  pub few : length build.nodes.items ≤ length list
  pub in_order : live_in build.nodes.items ≡ reverse build.live.items
