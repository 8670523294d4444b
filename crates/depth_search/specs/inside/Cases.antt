-- Trees of cases over any kind of reason: a zone is split by tests, and a leaf is refuted by a
-- reason of the kind or left open.
use Rattle.std.specs.Prelude.{◌≡◌, Bool, true, false, List, [], ◌∷◌, ◌++◌}
use Rattle.league_core.specs.declared.zone.Literal.{Literal}
use Rattle.league_core.specs.declared.zone.Test.{Test}
use Rattle.league_core.specs.search.Zones.{with_test}
use Rattle.depth_search.specs.declared.kind.CaseNode.{CaseNode}
use Rattle.depth_search.specs.declared.kind.CaseNode.TheVariants as node

-- a tree: an open leaf, a leaf that a reason refutes, or the two halves by a test, the one where
-- it is true first
pub data Cases (R : Type 0) : Type 0 where
  left_open : Cases R
  refuted : R → Cases R
  split : Test → Cases R → Cases R → Cases R

-- its nodes, the half where a test is true before the other
abbrev pub case_nodes : {R : Type 0} → Cases R → List (CaseNode R)
case_nodes left_open = node.Open ∷ []
case_nodes (refuted reason) = node.Refuted reason ∷ []
case_nodes (split test yes_half no_half) =
    node.Split test ∷ (case_nodes yes_half ++ case_nodes no_half)

-- below a root with this zone each reason refutes its leaf's zone, and each test may split the zone
-- in which it stands
abbrev pub HoldsBelow : {R : Type 0} → (List Literal → R → Type 0)
    → (List Literal → Test → Type 0) → List Literal → Cases R → Type 0
HoldsBelow refutes splits zone left_open = Unit {0}
HoldsBelow refutes splits zone (refuted reason) = refutes zone reason
HoldsBelow refutes splits zone (split test yes_half no_half) =
    splits zone test × HoldsBelow refutes splits (with_test zone test true) yes_half
    × HoldsBelow refutes splits (with_test zone test false) no_half

-- these are the nodes of a whole tree in which each reason and each split holds
abbrev pub AreOfTree : {R : Type 0} → (List Literal → R → Type 0)
    → (List Literal → Test → Type 0) → List (CaseNode R) → Type 0
AreOfTree {R} refutes splits nodes =
    (tree : Cases R) × HoldsBelow refutes splits [] tree × (case_nodes tree ≡ nodes)

-- the node is no open leaf: a search made it, for one unit
abbrev pub is_made : {R : Type 0} → CaseNode R → Bool
is_made (node.Split test) = true
is_made (node.Refuted reason) = true
is_made node.Open = false
