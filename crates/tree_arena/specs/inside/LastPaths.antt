-- The way that a tree keeps: the literals that lead from the first node of its arena to another.
use Rattle.std.specs.Prelude.{◌≡◌, ℕ, ◌<◌, Option, Some, None, List, [], ◌∷◌, ◌++◌, length, reverse}
use Rattle.std.specs.Prelude.{slice_index_or}
use Rattle.league_core.specs.declared.zone.Test.{Test}
use Rattle.league_core.specs.declared.zone.Literal.{Literal}
use Rattle.league_core.specs.inside.Rooms.{RoomyListView}
use Rattle.tree_arena.specs.declared.node.Kind.{Kind}
use Rattle.tree_arena.specs.declared.node.Kind.TheVariants.{Open, Lent, Refuted, Split}
use Rattle.tree_arena.specs.declared.node.Node.{Node}
use Rattle.tree_arena.specs.inside.Arena.{IsRoomy}

-- the test of a split
abbrev pub split_test : Kind → Option Test
split_test Open = None
split_test (Lent number) = None
split_test (Refuted reason fresh) = None
split_test (Split test fresh half) = Some test

-- this literal leads to a node from its parent
pub record IsStep (nodes : List Node) (literal : Literal) (at parent : ℕ) : Type 0 where
  pub above : parent < at
  pub within : at < length nodes
  pub parent_is : (default : Node) → (slice_index_or nodes at default).parent ≡ parent
  pub side : (default : Node) → (slice_index_or nodes at default).yes ≡ literal.yes
  pub splits : (default : Node)
      → split_test (slice_index_or nodes parent default).kind ≡ Some literal.test

-- these literals, the last one first, lead from the first node to this one
abbrev pub LeadsToNode : List Node → List Literal → ℕ → Type 0
LeadsToNode nodes [] at = at ≡ 0
LeadsToNode nodes (literal ∷ before) at =
    (parent : ℕ) × IsStep nodes literal at parent × LeadsToNode nodes before parent

-- the literal that leads to a node came after those in hand, and this is its parent
pub record TakesInHand (nodes : List Node) (at : ℕ) (old new : List Literal) (parent : ℕ)
    : Type 0 where
  pub literal : Literal
  pub step : IsStep nodes literal at parent
  pub taken : new ≡ old ++ literal ∷ []

-- how far two nodes have come up: the way leads to the one, and what is in hand leads down from the
-- other to where it began
pub record AreClimbing (nodes : List Node) (to one other : ℕ) (zone_box hand : List Literal) : Type
    0
  where
    pub leads : LeadsToNode nodes (reverse zone_box) one
    pub within : other < length nodes
    pub down : (before : List Literal) → LeadsToNode nodes before other
        → LeadsToNode nodes (hand ++ before) to

-- what always holds of a tree's lists, and of the way that it keeps
pub record KeepsPath (nodes : RoomyListView Node) (live lent : RoomyListView ℕ)
    (zone_box : List Literal) (last : ℕ)
    : Type 0 where
  pub roomy : IsRoomy nodes live lent
  pub leads : LeadsToNode nodes.items (reverse zone_box) last
