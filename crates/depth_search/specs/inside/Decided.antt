-- Kinds of question of which each zone is decided. Whatever an example is and whatever a reason is,
-- two things are enough: a zone in which nothing is left to split has one of both, and any other
-- can be split into lighter ones. The statement is the contract of a function of src/laws.rt that
-- does nothing.
use Rattle.std.specs.Prelude.{◌≡◌, ◌⊎◌, ◌<◌, ℕ, Bool, false, List, IsTrue}
use Rattle.std.specs.List.{list_all}
use Rattle.league_core.specs.declared.zone.Literal.{Literal}
use Rattle.league_core.specs.declared.zone.Test.{Test}
use Rattle.league_core.specs.search.Zones.{with_test}
use Rattle.depth_search.specs.inside.Cases.{Cases, HoldsBelow, case_nodes, is_made}

-- what a kind needs: in which zones it can look, what shows an example there, which reasons refute
-- a zone and which tests may split it; in which zones nothing is left to split, and how much each
-- weighs
pub record DecidedKind (E R : Type 0) : Type 1 where
  pub fits : List Literal → Type 0
  pub there : List Literal → E → Type 0
  pub refutes : List Literal → R → Type 0
  pub splits : List Literal → Test → Type 0
  pub is_single : List Literal → Bool
  pub weight : List Literal → ℕ
  -- a single zone has an example or a reason
  pub ends : (zone : List Literal) → fits zone → IsTrue (is_single zone)
      → ((example : E) × there zone example) ⊎ ((reason : R) × refutes zone reason)
  -- any other can be split
  pub parts : (zone : List Literal) → fits zone → is_single zone ≡ false
      → (test : Test) × splits zone test
  -- it can look in each half, which weighs less, and what is there in a half is there in the zone
  pub halves : (zone : List Literal) (test : Test) (holds : Bool) → fits zone → splits zone test
      → fits (with_test zone test holds)
  pub lighter : (zone : List Literal) (test : Test) (holds : Bool) → fits zone → splits zone test
      → weight (with_test zone test holds) < weight zone
  pub from_half : (zone : List Literal) (test : Test) (holds : Bool) (example : E)
      → there (with_test zone test holds) example → there zone example

-- a tree of cases below the zone: each split is one that may be, and each leaf is refuted
abbrev pub IsRefutedByCases : {R : Type 0} → (List Literal → R → Type 0)
    → (List Literal → Test → Type 0) → List Literal → Type 0
IsRefutedByCases {R} refutes splits zone =
    (tree : Cases R) × HoldsBelow refutes splits zone tree
    × IsTrue (list_all is_made (case_nodes tree))

-- the zone has an example, or a tree of cases refutes it
abbrev pub IsZoneDecided : {E R : Type 0} → DecidedKind E R → List Literal → Type 0
IsZoneDecided {E} {R} kind zone =
    ((example : E) × kind.there zone example) ⊎ IsRefutedByCases kind.refutes kind.splits zone

-- so it is with each zone in which the kind can look
abbrev pub EachZoneIsDecided : {E R : Type 0} → DecidedKind E R → Type 0
EachZoneIsDecided {E} {R} kind =
    (zone : List Literal) → kind.fits zone → IsZoneDecided kind zone
