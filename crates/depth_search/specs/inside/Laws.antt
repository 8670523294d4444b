-- What a refuted tree of cases shows.
use Rattle.std.specs.Prelude.{Bool, true, false, ◌⊎◌, List, [], IsTrue}
use Rattle.std.specs.List.{list_all}
use Rattle.league_core.specs.declared.zone.Literal.{Literal}
use Rattle.league_core.specs.declared.zone.Test.{Test}
use Rattle.league_core.specs.search.Zones.{with_test}
use Rattle.depth_search.specs.declared.kind.CaseNode.{CaseNode}
use Rattle.depth_search.specs.inside.Cases.{AreOfTree, is_made}

-- a test of zones, such as whether one finish is an example in them, that is true of a zone that
-- may
-- be split only if it is true of a half, and of no zone with a reason, is not true at the root of a
-- tree without an open leaf
abbrev pub RefutedCasesLeaveNothing : {R : Type 0} → (List Literal → R → Type 0)
    → (List Literal → Test → Type 0) → Type 0
RefutedCasesLeaveNothing {R} refutes splits =
    (holds : List Literal → Bool) (nodes : List (CaseNode R))
    → ((zone : List Literal) (test : Test) → splits zone test → IsTrue (holds zone)
    → IsTrue (holds (with_test zone test true)) ⊎ IsTrue (holds (with_test zone test false)))
    → ((zone : List Literal) (reason : R) → refutes zone reason → IsTrue (holds zone) → ⊥)
    → AreOfTree refutes splits nodes → IsTrue (list_all is_made nodes) → IsTrue (holds []) → ⊥
