-- Which halves of a zone have a finish, and that all zones of a tree of proper splits have one:
-- each statement is the contract of a function of src/tree_laws.rt that does nothing.
use Rattle.std.specs.Prelude.{◌≡◌, ℕ, Bool, true, false, ◌||◌, IsTrue, List, []}
use Rattle.league_core.specs.declared.sheet.Sheet.{Sheet}
use Rattle.league_core.specs.declared.question.Question.{Question}
use Rattle.league_core.specs.declared.zone.Test.{Test}
use Rattle.league_core.specs.declared.zone.Literal.{Literal}
use Rattle.league_core.specs.game.Results.{Results}
use Rattle.league_core.specs.search.Zones.{is_of_score, is_of_rival, with_test}
use Rattle.league_core.specs.search.Options.{has_finish}
use Rattle.league_core.specs.search.Trees.{Tree, NodesMeet}
use Rattle.league_core.specs.search.Splits.{is_proper, IsProperNode}

-- a season has a finish: the zone without a literal has one
abbrev pub SeasonsHaveAFinish : Type 0
SeasonsHaveAFinish =
    (sheet : Sheet) (season : Results) → IsTrue (has_finish sheet season [])

-- if a zone has a finish, a test of a score leaves one in one of the halves at least
abbrev pub ScoreTestsLeaveAFinish : Type 0
ScoreTestsLeaveAFinish =
    (sheet : Sheet) (season : Results) (zone : List Literal) (test : Test)
    → IsTrue (is_of_score test) → IsTrue (has_finish sheet season zone)
    → IsTrue (has_finish sheet season (with_test zone test true)
    || has_finish sheet season (with_test zone test false))

-- a test of a rival leaves in each half a finish exactly when the zone has one
abbrev pub RivalTestsLeaveFinishes : Type 0
RivalTestsLeaveFinishes =
    (sheet : Sheet) (season : Results) (zone : List Literal) (test : Test) (holds : Bool)
    (rival : ℕ) → IsTrue (is_of_rival rival test)
    → has_finish sheet season (with_test zone test holds) ≡ has_finish sheet season zone

-- if a zone has a finish, so has each half by a proper split
abbrev pub ProperHalvesHaveAFinish : Type 0
ProperHalvesHaveAFinish =
    (sheet : Sheet) (season : Results) (question : Question) (zone : List Literal) (test : Test)
    (holds : Bool) → IsTrue (has_finish sheet season zone)
    → IsTrue (is_proper sheet season question zone test)
    → IsTrue (has_finish sheet season (with_test zone test holds))

-- so if the root's zone has a finish and each split is proper, each node's zone has a finish
abbrev pub ProperTreesHaveFinishes : Type 0
ProperTreesHaveFinishes =
    (sheet : Sheet) (season : Results) (question : Question) (tree : Tree) (zone : List Literal)
    → IsTrue (has_finish sheet season zone)
    → NodesMeet (IsProperNode sheet season question) zone tree
    → NodesMeet (λ z node. IsTrue (has_finish sheet season z)) zone tree
