-- Trees of cases with reasons of a group as trees of a group, and what a search comes to. What does
-- not depend on which reason a leaf has is the same as with one reason of a table everywhere.
use Rattle.std.proofs.Common.{◌≡◌, ℕ, zero, suc, ◌+◌, Bool, true, false, not, ◌&&◌, ◌||◌, List, []}
use Rattle.std.proofs.Common.{◌∷◌, ◌++◌, map, replicate, refl, sym, ap, ap₂, ◌∙◌, subst}
use Rattle.std.specs.List.{list_all}
use Rattle.std.proofs.lemmas.List.{map-append, length-map}
use Rattle.std.proofs.lemmas.List.Folds.{list_all-append}
use Rattle.league_core.specs.declared.sheet.Sheet.{Sheet}
use Rattle.league_core.specs.declared.zone.Literal.{Literal}
use Rattle.league_core.specs.declared.zone.Reason.{Reason}
use Rattle.league_core.specs.declared.zone.Reason.TheVariants.{Count}
use Rattle.league_core.specs.game.Results.{Results}
use Rattle.league_core.specs.search.Trees as zone_tree
use Rattle.league_core.specs.search.Zones.{with_test}
use Rattle.tree_arena.specs.declared.example.Example.{Example}
use Rattle.depth_search.specs.declared.kind.CaseNode.{CaseNode}
use Rattle.depth_search.specs.declared.kind.CaseNode.TheVariants as node
use Rattle.depth_search.specs.declared.kind.SearchEnd.{SearchEnd}
use Rattle.depth_search.specs.declared.kind.SearchEnd.TheVariants.{Won, Refuted, Spent}
use Rattle.depth_search.specs.inside.Cases.{Cases, left_open, refuted, split, case_nodes}
use Rattle.depth_search.specs.inside.Cases.{HoldsBelow, is_made}
use Rattle.depth_search.specs.inside.Searches.{IsSpentAfter, IsEndOf}
use Rattle.depth_search.specs.inside.ZoneTrees as zones
use Rattle.depth_search.proofs.ZoneTreeLemmas.{cases_spent}
use Rattle.cup_sheet.specs.declared.question.GroupReason.{GroupReason}
use Rattle.cup_sheet.specs.CupLimits.{direct_places}
use Rattle.cup_sheet.specs.GroupQuestions.{GroupQuestion}
use Rattle.cup_sheet.specs.GroupTrees.{are_all_new, has_open_zone, new_nodes, ZonesMeet}
use Rattle.cup_sheet.specs.GroupTrees.{IsFairGroupSplit}
use Rattle.group_search.specs.inside.GroupLooks.{IsGroupReasonIn}
use Rattle.group_search.specs.inside.GroupTasks.{AskedInGroup, ShowsInGroup, RefutesInGroup}
use Rattle.group_search.specs.inside.GroupTasks.{SplitsInGroup, IsGroupSolved, new_group_tree}

-- ---- with one reason of a table in place of each

abbrev one_reason : GroupReason → Reason
one_reason reason = Count

abbrev table_cases : Cases GroupReason → Cases Reason
table_cases left_open = left_open
table_cases (refuted reason) = refuted (one_reason reason)
table_cases (split test yes_half no_half) =
    split test (table_cases yes_half) (table_cases no_half)

abbrev table_node : CaseNode GroupReason → CaseNode Reason
table_node (node.Split test) = node.Split test
table_node (node.Refuted reason) = node.Refuted (one_reason reason)
table_node node.Open = node.Open

nodes_of_table : (cases : Cases GroupReason)
    → case_nodes (table_cases cases) ≡ map table_node (case_nodes cases)
nodes_of_table left_open = refl
nodes_of_table (refuted reason) = refl
nodes_of_table (split test yes_half no_half) =
    ap (λ rest. node.Split test ∷ rest)
    (ap₂ (λ a b. a ++ b) (nodes_of_table yes_half) (nodes_of_table no_half)
    ∙ sym (map-append table_node (case_nodes yes_half) (case_nodes no_half)))

made_in_table : (nodes : List (CaseNode GroupReason))
    → list_all is_made (map table_node nodes) ≡ list_all is_made nodes
made_in_table [] = refl
made_in_table (node.Split test ∷ nodes) = made_in_table nodes
made_in_table (node.Refuted reason ∷ nodes) = made_in_table nodes
made_in_table (node.Open ∷ nodes) = refl

open_in_table : (count : ℕ)
    → map table_node (replicate count node.Open) ≡ replicate count node.Open
open_in_table zero = refl
open_in_table (suc count) = ap (λ rest. node.Open ∷ rest) (open_in_table count)

spent_in_table : (budget : ℕ) (nodes : List (CaseNode GroupReason)) → IsSpentAfter budget nodes
    → IsSpentAfter budget (map table_node nodes)
spent_in_table budget nodes spent = (
  map table_node spent.0,
  spent.1,
  ap (map table_node) spent.2
      ∙ map-append table_node spent.0 (replicate (1 + spent.1) node.Open)
      ∙ ap (λ rest. map table_node spent.0 ++ rest) (open_in_table (1 + spent.1)),
  length-map spent.0 table_node ∙ spent.3,
  made_in_table spent.0 ∙ spent.4,
)

-- ---- the same of both trees

new_nodes_same : (cases : Cases GroupReason)
    → new_nodes (new_group_tree cases) ≡ zone_tree.new_count (zones.new_tree (table_cases cases))
new_nodes_same left_open = refl
new_nodes_same (refuted reason) = refl
new_nodes_same (split test yes_half no_half) =
    ap₂ (λ a b. 1 + a + b) (new_nodes_same yes_half) (new_nodes_same no_half)

open_zone_same : (cases : Cases GroupReason)
    → has_open_zone (new_group_tree cases) ≡ zone_tree.has_open (zones.new_tree (table_cases cases))
open_zone_same left_open = refl
open_zone_same (refuted reason) = refl
open_zone_same (split test yes_half no_half) =
    ap₂ (λ a b. a || b) (open_zone_same yes_half) (open_zone_same no_half)

all_are_new : (cases : Cases GroupReason) → are_all_new (new_group_tree cases) ≡ true
all_are_new left_open = refl
all_are_new (refuted reason) = refl
all_are_new (split test yes_half no_half) =
    ap₂ (λ a b. true && a && b) (all_are_new yes_half) (all_are_new no_half)

-- no leaf is open exactly if each node was made
open_zone-cases : (cases : Cases GroupReason)
    → has_open_zone (new_group_tree cases) ≡ not (list_all is_made (case_nodes cases))
open_zone-cases left_open = refl
open_zone-cases (refuted reason) = refl
open_zone-cases (split test yes_half no_half) =
    ap₂ (λ a b. a || b) (open_zone-cases yes_half) (open_zone-cases no_half)
    ∙ either (list_all is_made (case_nodes yes_half)) (list_all is_made (case_nodes no_half))
    ∙ ap not (sym (list_all-append is_made (case_nodes yes_half) (case_nodes no_half)))
  where
    either : (a b : Bool) → (not a || not b) ≡ not (a && b)
    either true b = refl
    either false b = refl

-- if so many units were spent, so many nodes are new, and a leaf is open
spent_counts : (cases : Cases GroupReason) (budget : ℕ) → IsSpentAfter budget (case_nodes cases)
    → (new_nodes (new_group_tree cases) ≡ budget) × (has_open_zone (new_group_tree cases) ≡ true)
spent_counts cases budget spent =
    let counts = cases_spent (table_cases cases) budget
    (subst (IsSpentAfter budget) (sym (nodes_of_table cases))
    (spent_in_table budget (case_nodes cases) spent)) in
    (new_nodes_same cases ∙ counts.0, open_zone_same cases ∙ counts.1)

-- ---- what holds below a zone

module _ (sheet : Sheet) (season : Results) (question : GroupQuestion) where
  abbrev HoldsInGroup : List Literal → Cases GroupReason → Type 0
  HoldsInGroup zone cases =
      HoldsBelow (IsGroupReasonIn sheet season question)
      (IsFairGroupSplit direct_places sheet season question) zone cases

  -- its reasons hold
  reasons_below : (zone : List Literal) (cases : Cases GroupReason) → HoldsInGroup zone cases
      → ZonesMeet (λ at reason fresh. IsGroupReasonIn sheet season question at reason)
      (λ at test fresh. Unit {0}) zone (new_group_tree cases)
  reasons_below zone left_open below = tt
  reasons_below zone (refuted reason) below = below
  reasons_below zone (split test yes_half no_half) below = (
    tt,
    reasons_below (with_test zone test true) yes_half below.1,
    reasons_below (with_test zone test false) no_half below.2,
  )

  -- its splits are units of work
  splits_below : (zone : List Literal) (cases : Cases GroupReason) → HoldsInGroup zone cases
      → ZonesMeet (λ at reason fresh. Unit {0})
      (λ at test fresh. (fresh ≡ true)
      → IsFairGroupSplit direct_places sheet season question at test) zone (new_group_tree cases)
  splits_below zone left_open below = tt
  splits_below zone (refuted reason) below = tt
  splits_below zone (split test yes_half no_half) below = (
    λ fresh. below.0,
    splits_below (with_test zone test true) yes_half below.1,
    splits_below (with_test zone test false) no_half below.2,
  )

-- ---- the end of a search

pub group_end_solved : (asked : AskedInGroup) (budget : ℕ) (end : SearchEnd Example GroupReason)
    → IsEndOf (ShowsInGroup asked) (RefutesInGroup asked) (SplitsInGroup asked) budget end
    → IsGroupSolved asked.sheet asked.season asked.question budget end
group_end_solved asked budget (Won example) is = is
group_end_solved asked budget (Refuted nodes) is =
    let cases = is.0.0 in
    record {
      cases = cases;
      listed = is.0.2;
      refuted = record {
        refuted = open_zone-cases cases ∙ ap not (ap (list_all is_made) is.0.2 ∙ is.1);
        reasons = reasons_below asked.sheet asked.season asked.question [] cases is.0.1;
      };
      units = splits_below asked.sheet asked.season asked.question [] cases is.0.1;
      all_new = all_are_new cases;
      few = is.2;
    }
group_end_solved asked budget (Spent nodes) is =
    let cases = is.0.0 in
    let counts = spent_counts cases budget (subst (IsSpentAfter budget) (sym is.0.2) is.1) in
    record {
      cases = cases;
      listed = is.0.2;
      tree_spent = record {
        tree_spent = record {
          spent = counts.0;
          left = counts.1;
          reasons = reasons_below asked.sheet asked.season asked.question [] cases is.0.1;
        };
        units = splits_below asked.sheet asked.season asked.question [] cases is.0.1;
      };
      all_new = all_are_new cases;
    }
