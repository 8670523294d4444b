-- Trees of zones for a question about a group: a refutation, or a tree on which the budget was
-- spent. They are those of a question about a table, with the reasons of the kind at their leaves.
use Rattle.std.specs.Prelude.{◌≡◌, ℕ, ◌+◌, Bool, true, false, ◌&&◌, ◌||◌, IsTrue, List, []}
use Rattle.std.specs.Prelude.{if◌then◌else◌}
use Rattle.league_core.specs.declared.sheet.Sheet.{Sheet}
use Rattle.league_core.specs.declared.zone.Literal.{Literal}
use Rattle.league_core.specs.declared.zone.Test.{Test}
use Rattle.league_core.specs.game.Results.{Results}
use Rattle.league_core.specs.search.Options.{has_finish}
use Rattle.league_core.specs.search.Proposals.{proposed_finish}
use Rattle.league_core.specs.search.Splits.{is_proper, is_due}
use Rattle.league_core.specs.search.Zones.{with_test}
use Rattle.cup_sheet.specs.declared.question.GroupReason.{GroupReason}
use Rattle.cup_sheet.specs.GroupQuestions.{GroupQuestion, IsGroupExample, has_group_reason}
use Rattle.cup_sheet.specs.GroupQuestions.{place_question}

-- a tree: a leaf that is open, or refuted by a reason; or a branch by a test, with the half where
-- it is true first. Refuted leaves and branches may be marked new
pub data GroupTree : Type 0 where
  open_zone : GroupTree
  refuted_zone : GroupReason → Bool → GroupTree
  split_zone : Test → Bool → GroupTree → GroupTree → GroupTree

-- how many nodes are marked new
abbrev pub new_nodes : GroupTree → ℕ
new_nodes open_zone = 0
new_nodes (refuted_zone reason fresh) = if fresh then 1 else 0
new_nodes (split_zone test fresh yes_half no_half) =
    (if fresh then 1 else 0) + new_nodes yes_half + new_nodes no_half

-- some leaf is open
abbrev pub has_open_zone : GroupTree → Bool
has_open_zone open_zone = true
has_open_zone (refuted_zone reason fresh) = false
has_open_zone (split_zone test fresh yes_half no_half) =
    has_open_zone yes_half || has_open_zone no_half

-- each branch and each refuted leaf is marked new
abbrev pub are_all_new : GroupTree → Bool
are_all_new open_zone = true
are_all_new (refuted_zone reason fresh) = fresh
are_all_new (split_zone test fresh yes_half no_half) =
    fresh && are_all_new yes_half && are_all_new no_half

-- below a root with this zone, a fact of each refuted leaf and one of each branch, in the zone in
-- which it stands and by whether it is new
abbrev pub ZonesMeet : (List Literal → GroupReason → Bool → Type 0)
    → (List Literal → Test → Bool → Type 0) → List Literal → GroupTree → Type 0
ZonesMeet Leaf Branch zone open_zone = Unit {0}
ZonesMeet Leaf Branch zone (refuted_zone reason fresh) = Leaf zone reason fresh
ZonesMeet Leaf Branch zone (split_zone test fresh yes_half no_half) =
    Branch zone test fresh × ZonesMeet Leaf Branch (with_test zone test true) yes_half
    × ZonesMeet Leaf Branch (with_test zone test false) no_half

-- each refuted leaf has a reason of the kind that holds in its zone
abbrev pub AreGroupReasonsTrue : ℕ → Sheet → Results → GroupQuestion → GroupTree → Type 0
AreGroupReasonsTrue direct sheet season question tree =
    ZonesMeet
    (λ zone reason fresh. IsTrue (has_group_reason direct sheet season question zone reason))
    (λ zone test fresh. Unit {0}) [] tree

-- a tree that refutes the question: no leaf is open, and each reason holds
pub record IsGroupRefutation (direct : ℕ) (sheet : Sheet) (season : Results)
    (question : GroupQuestion) (tree : GroupTree) : Type 0 where
  pub refuted : has_open_zone tree ≡ false
  pub reasons : AreGroupReasonsTrue direct sheet season question tree

-- a tree on which the budget was spent: exactly so many nodes are new, a leaf is open, and each
-- reason holds
pub record IsSpentGroupTree (direct : ℕ) (sheet : Sheet) (season : Results)
    (question : GroupQuestion) (budget : ℕ) (tree : GroupTree) : Type 0 where
  pub spent : new_nodes tree ≡ budget
  pub left : IsTrue (has_open_zone tree)
  pub reasons : AreGroupReasonsTrue direct sheet season question tree

-- ---- which nodes are a unit of work

-- the finish that is proposed for a zone: that of the place that the kind asks for, for a candidate
-- that of a place no worse
abbrev pub proposed_in_group : ℕ → Sheet → Results → GroupQuestion → List Literal → Results
proposed_in_group direct sheet season question zone =
    proposed_finish sheet season (place_question direct question.kind question.club) zone

-- a split that is one unit of work: the zone has a finish; the split is proper, and due in the
-- order of a table's questions; no reason of the kind holds in the zone; and the proposed finish is
-- no example with any lots
pub record IsFairGroupSplit (direct : ℕ) (sheet : Sheet) (season : Results)
    (question : GroupQuestion) (zone : List Literal) (test : Test) : Type 0 where
  pub some : IsTrue (has_finish sheet season zone)
  pub proper : IsTrue (is_proper sheet season
      (place_question direct question.kind question.club) zone test)
  pub due : IsTrue (is_due sheet season
      (place_question direct question.kind question.club) zone test)
  pub no_reason : (reason : GroupReason)
      → has_group_reason direct sheet season question zone reason ≡ false
  pub no_example : (lots : List ℕ) → ¬ IsGroupExample direct sheet season question
      (proposed_in_group direct sheet season question zone) lots

-- each new branch is such a split; that each reason holds is said of all leaves
abbrev pub AreSplitsFair : ℕ → Sheet → Results → GroupQuestion → GroupTree → Type 0
AreSplitsFair direct sheet season question tree =
    ZonesMeet (λ zone reason fresh. Unit {0})
    (λ zone test fresh. IsTrue fresh → IsFairGroupSplit direct sheet season question zone test)
    [] tree

-- a tree on which it was spent fairly: each new node was one unit of work
pub record IsFairlySpentGroupTree (direct : ℕ) (sheet : Sheet) (season : Results)
    (question : GroupQuestion) (budget : ℕ) (tree : GroupTree) : Type 0 where
  pub tree_spent : IsSpentGroupTree direct sheet season question budget tree
  pub units : AreSplitsFair direct sheet season question tree
