-- What a kind finds in a zone, and what a search over it comes to.
use Rattle.std.specs.Prelude.{◌≡◌, ℕ, ◌≤◌, ◌+◌, true, false, List, ◌++◌, length, replicate}
use Rattle.std.specs.Prelude.{IsTrue}
use Rattle.std.specs.List.{list_all}
use Rattle.league_core.specs.declared.zone.Literal.{Literal}
use Rattle.league_core.specs.declared.zone.Test.{Test}
use Rattle.league_core.specs.search.Zones.{with_test}
use Rattle.depth_search.specs.declared.kind.CaseNode.{CaseNode}
use Rattle.depth_search.specs.declared.kind.CaseNode.TheVariants as node
use Rattle.depth_search.specs.declared.kind.ZoneLook.{ZoneLook}
use Rattle.depth_search.specs.declared.kind.ZoneLook.TheVariants as look
use Rattle.depth_search.specs.declared.kind.SearchEnd.{SearchEnd}
use Rattle.depth_search.specs.declared.kind.SearchEnd.TheVariants as end
use Rattle.depth_search.specs.inside.Cases.{AreOfTree, is_made}

-- ---- a look at a zone

-- what is found is so
abbrev pub IsFoundBy : {E R : Type 0} → (E → Type 0) → (R → Type 0) → (Test → Type 0)
    → ZoneLook E R → Type 0
IsFoundBy shows refutes splits (look.Won example) = shows example
IsFoundBy shows refutes splits (look.Refuted reason) = refutes reason
IsFoundBy shows refutes splits (look.Split test) = splits test

-- the kind can look in both halves of a split
abbrev pub FitHalves : {E R : Type 0} → (List Literal → Type 0) → List Literal → ZoneLook E R
    → Type 0
FitHalves fits zone (look.Won example) = Unit {0}
FitHalves fits zone (look.Refuted reason) = Unit {0}
FitHalves fits zone (look.Split test) =
    fits (with_test zone test true) × fits (with_test zone test false)

-- ---- a search

-- the nodes are so many that were made, and then open leaves, at least one
abbrev pub IsSpentAfter : {R : Type 0} → ℕ → List (CaseNode R) → Type 0
IsSpentAfter {R} budget nodes =
    (made : List (CaseNode R)) × (more : ℕ)
    × (nodes ≡ made ++ replicate (1 + more) node.Open)
    × (length made ≡ budget) × IsTrue (list_all is_made made)

-- what a search came to: an example; a tree without an open leaf, with no more nodes than the
-- budget has units; or one with as many other nodes, and open leaves after them
abbrev pub IsEndOf : {E R : Type 0} → (E → Type 0) → (List Literal → R → Type 0)
    → (List Literal → Test → Type 0) → ℕ → SearchEnd E R → Type 0
IsEndOf shows refutes splits budget (end.Won example) = shows example
IsEndOf shows refutes splits budget (end.Refuted nodes) =
    AreOfTree refutes splits nodes.items × IsTrue (list_all is_made nodes.items)
    × (length nodes.items ≤ budget)
IsEndOf shows refutes splits budget (end.Spent nodes) =
    AreOfTree refutes splits nodes.items × IsSpentAfter budget nodes.items
