-- How the zones of a tree's leaves are listed: its nodes are gone through from the root on, with
-- the parts that are still to come on a stack.
use Rattle.std.specs.Prelude.{◌≡◌, ℕ, ◌≤◌, Bool, true, false, List, [], ◌∷◌, ◌++◌, length, take}
use Rattle.std.specs.Prelude.{Option, Some, None}
use Rattle.league_core.specs.declared.zone.Test.{Test}
use Rattle.league_core.specs.declared.zone.Literal.{Literal}
use Rattle.league_core.specs.declared.tree.TreeNode.{TreeNode}
use Rattle.league_core.specs.declared.tree.TreeNode.TheVariants.{Split, Open, Lent, Refuted}
use Rattle.league_core.specs.search.Trees.{Tree, zones_from}
use Rattle.league_core.specs.search.TreeLists.{trees_of}
use Rattle.tree_arena.specs.declared.zones.Step.{Step}

-- what comes next and what waits behind it on a stack; if nothing comes next, nothing waits
abbrev pub from_next : {X : Type 0} → Option X → List X → List X
from_next None waiting = []
from_next (Some next) waiting = next ∷ waiting

-- the test of a literal
abbrev pub literal_of : Test → Bool → Literal
literal_of test holds = record { test = test; yes = holds }

-- the zone of a part: so many literals of the way, and one more if there is one
abbrev pub zone_of_part : List Literal → ℕ → Option Literal → List Literal
zone_of_part zone_box depth None = take depth zone_box
zone_of_part zone_box depth (Some literal) = take depth zone_box ++ literal ∷ []

-- the zones of the parts, which stand on the trees one after another
abbrev pub zones_to_come : List Literal → List Step → List Tree → List (List Literal)
zones_to_come zone_box [] trees = []
zones_to_come zone_box (step ∷ steps) [] = []
zones_to_come zone_box (step ∷ steps) (tree ∷ trees) =
    zones_from (zone_of_part zone_box step.depth step.literal) tree ++ zones_to_come zone_box steps
    trees

-- no part stands deeper than the one before it
abbrev pub AreInDepth : ℕ → List Step → Type 0
AreInDepth depth [] = Unit {0}
AreInDepth depth (step ∷ steps) = (step.depth ≤ depth) × AreInDepth step.depth steps

-- the parts that are to come after a node: the halves of a split, the yes half first
abbrev pub steps_after : TreeNode → ℕ → List Step → List Step
steps_after Open depth steps = steps
steps_after (Lent number) depth steps = steps
steps_after (Refuted reason fresh) depth steps = steps
steps_after (Split test fresh) depth steps =
    record { depth = depth; literal = Some (literal_of test true) }
    ∷ record { depth = depth; literal = Some (literal_of test false) }
    ∷ steps

-- the zone of a leaf; a split has none of its own
abbrev pub zones_at : TreeNode → List Literal → List (List Literal)
zones_at Open zone = zone ∷ []
zones_at (Lent number) zone = zone ∷ []
zones_at (Refuted reason fresh) zone = zone ∷ []
zones_at (Split test fresh) zone = []

-- how far the walk over the list has come
pub record ListsZones (zone_box : List Literal) (left : List TreeNode) (steps : List Step)
    (found wanted : List (List Literal)) : Type 0 where
  pub trees : List Tree
  pub read : trees_of left ≡ Some trees
  pub many : length steps ≡ length trees
  pub steps_of : AreInDepth (length zone_box) steps
  pub become : found ++ zones_to_come zone_box steps trees ≡ wanted
