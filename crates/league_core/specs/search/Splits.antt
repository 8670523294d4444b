-- Which splits a tree may have: proper ones, the order in which they are due, and those that are
-- one unit of work; and what has to hold at the leaves that are refuted.
use Rattle.std.specs.Prelude.{◌≡◌, ℕ, Bool, true, false, not, ◌&&◌, ◌==◌, nat_lt, IsTrue, List}
use Rattle.std.specs.Prelude.{length}
use Rattle.std.specs.List.{list_all}
use Rattle.league_core.specs.declared.sheet.Sheet.{Sheet}
use Rattle.league_core.specs.declared.question.Question.{Question}
use Rattle.league_core.specs.declared.zone.Test.{Test}
use Rattle.league_core.specs.declared.zone.Test.TheVariants.{Home, Draw, HomeMost, AwayMost, Rival}
use Rattle.league_core.specs.declared.zone.Literal.{Literal}
use Rattle.league_core.specs.declared.zone.Reason.{Reason}
use Rattle.league_core.specs.declared.tree.TreeNode.{TreeNode}
use Rattle.league_core.specs.declared.tree.TreeNode.TheVariants.{Split, Open, Lent, Refuted}
use Rattle.league_core.specs.game.Results.{Results}
use Rattle.league_core.specs.game.Questions.{IsExample}
use Rattle.league_core.specs.search.Zones.{rivals_of, is_marked, with_test}
use Rattle.league_core.specs.search.Options.{options_in, has_finish, has_one_outcome}
use Rattle.league_core.specs.search.Reasons.{has_reason}
use Rattle.league_core.specs.search.Proposals.{proposed_finish}
use Rattle.league_core.specs.search.Trees.{Tree, NodesMeet, is_new}

-- both halves of the zone have a finish
abbrev pub have_both_finish : Sheet → Results → List Literal → Test → Bool
have_both_finish sheet season zone test =
    has_finish sheet season (with_test zone test true)
    && has_finish sheet season (with_test zone test false)

-- a proper split: by a rival that the zone does not mark, or by a fixture's score so that both
-- halves have a finish
abbrev pub is_proper : Sheet → Results → Question → List Literal → Test → Bool
is_proper sheet season question zone (Home fixture) =
    nat_lt fixture (length sheet.fixtures) && have_both_finish sheet season zone (Home fixture)
is_proper sheet season question zone (Draw fixture) =
    nat_lt fixture (length sheet.fixtures) && have_both_finish sheet season zone (Draw fixture)
is_proper sheet season question zone (HomeMost fixture most) =
    nat_lt fixture (length sheet.fixtures)
    && have_both_finish sheet season zone (HomeMost fixture most)
is_proper sheet season question zone (AwayMost fixture most) =
    nat_lt fixture (length sheet.fixtures)
    && have_both_finish sheet season zone (AwayMost fixture most)
is_proper sheet season question zone (Rival club) =
    nat_lt club (length sheet.clubs) && not (club == question.club) && not (is_marked zone club)

-- of a split, that it is proper in its zone; of a leaf, nothing
abbrev pub IsProperNode : Sheet → Results → Question → List Literal → TreeNode → Type 0
IsProperNode sheet season question zone (Split test fresh) =
    IsTrue (is_proper sheet season question zone test)
IsProperNode sheet season question zone Open = Unit {0}
IsProperNode sheet season question zone (Lent number) = Unit {0}
IsProperNode sheet season question zone (Refuted reason fresh) = Unit {0}

-- the zone marks each rival
abbrev pub are_all_marked : Sheet → Question → List Literal → Bool
are_all_marked sheet question zone = list_all (is_marked zone) (rivals_of sheet question.club)

-- each fixture has one outcome left
abbrev pub are_outcomes_fixed : Sheet → Results → List Literal → Bool
are_outcomes_fixed sheet season zone = list_all has_one_outcome (options_in sheet season zone)

-- said of a proper split, the order in which a zone is split: by rivals first, by outcomes once all
-- rivals are marked, by goals once all outcomes are fixed too
abbrev pub is_due : Sheet → Results → Question → List Literal → Test → Bool
is_due sheet season question zone (Home fixture) =
    are_all_marked sheet question zone && not (are_outcomes_fixed sheet season zone)
is_due sheet season question zone (Draw fixture) =
    are_all_marked sheet question zone && not (are_outcomes_fixed sheet season zone)
is_due sheet season question zone (HomeMost fixture most) =
    are_all_marked sheet question zone && are_outcomes_fixed sheet season zone
is_due sheet season question zone (AwayMost fixture most) =
    are_all_marked sheet question zone && are_outcomes_fixed sheet season zone
is_due sheet season question zone (Rival club) = true

-- with none of the lots is the finish an example of the question
abbrev pub IsNoExample : Sheet → Results → Question → Results → Type 0
IsNoExample sheet season question finish =
    (lots : List ℕ) → ¬ IsExample sheet season question finish lots

-- a split that is one unit of work: the zone has a finish, the split is proper and due, no reason
-- holds in the zone, and the proposed finish is no example with any lots
pub record IsFairSplit (sheet : Sheet) (season : Results) (question : Question)
    (zone : List Literal) (test : Test) : Type 0 where
  pub some : IsTrue (has_finish sheet season zone)
  pub proper : IsTrue (is_proper sheet season question zone test)
  pub due : IsTrue (is_due sheet season question zone test)
  pub no_reason : (reason : Reason) → has_reason sheet season question zone reason ≡ false
  pub no_example : IsNoExample sheet season question (proposed_finish sheet season question zone)

-- a unit of work of the present epoch: a new split that is fair, or a new refuted leaf whose reason
-- holds
abbrev pub IsUnit : Sheet → Results → Question → List Literal → TreeNode → Type 0
IsUnit sheet season question zone (Split test fresh) =
    IsTrue fresh × IsFairSplit sheet season question zone test
IsUnit sheet season question zone (Refuted reason fresh) =
    IsTrue fresh × IsTrue (has_reason sheet season question zone reason)
IsUnit sheet season question zone Open = ⊥
IsUnit sheet season question zone (Lent number) = ⊥

-- a node that is marked new is a unit of work
abbrev pub IsUnitIfNew : Sheet → Results → Question → List Literal → TreeNode → Type 0
IsUnitIfNew sheet season question zone node =
    IsTrue (is_new node) → IsUnit sheet season question zone node

-- of a refuted leaf, that its reason holds in its zone; of any other node, nothing
abbrev pub IsReasonTrue : Sheet → Results → Question → List Literal → TreeNode → Type 0
IsReasonTrue sheet season question zone (Split test fresh) = Unit {0}
IsReasonTrue sheet season question zone Open = Unit {0}
IsReasonTrue sheet season question zone (Lent number) = Unit {0}
IsReasonTrue sheet season question zone (Refuted reason fresh) =
    IsTrue (has_reason sheet season question zone reason)

-- each refuted leaf has a reason that holds in its zone, whatever the other leaves are
abbrev pub AreReasonsTrue : Sheet → Results → Question → List Literal → Tree → Type 0
AreReasonsTrue sheet season question zone tree =
    NodesMeet (IsReasonTrue sheet season question) zone tree
