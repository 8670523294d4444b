-- Trees of cases with wide reasons as wide trees. What does not depend on which reason a leaf has
-- is the same as with a plain reason in the place of a near one.
use Rattle.std.proofs.Common.{◌≡◌, ℕ, zero, suc, ◌+◌, true, false, ◌&&◌, ◌||◌, ◌==◌, List, []}
use Rattle.std.proofs.Common.{◌∷◌, ◌++◌, map, replicate, refl, sym, ap, ap₂, ◌∙◌, subst}
use Rattle.std.specs.List.{list_all}
use Rattle.std.proofs.lemmas.Bool.{and_from, eq-eqb}
use Rattle.std.proofs.lemmas.List.{map-append, length-map}
use Rattle.league_core.specs.declared.sheet.Sheet.{Sheet}
use Rattle.league_core.specs.declared.question.Question.{Question}
use Rattle.league_core.specs.declared.zone.Literal.{Literal}
use Rattle.league_core.specs.declared.zone.Reason.{Reason}
use Rattle.league_core.specs.declared.zone.Reason.TheVariants.{Count}
use Rattle.league_core.specs.game.Results.{Results, are_results}
use Rattle.league_core.specs.game.Seasons.{IsLeague}
use Rattle.league_core.specs.search.Splits.{IsProperNode}
use Rattle.league_core.specs.search.Trees as zone_tree
use Rattle.league_core.specs.search.Zones.{with_test}
use Rattle.cert_text.specs.TreeLines as plain_lines
use Rattle.cert_text.proofs.ProperLemmas.{proper_tests}
use Rattle.depth_search.specs.declared.kind.CaseNode.{CaseNode}
use Rattle.depth_search.specs.declared.kind.CaseNode.TheVariants as node
use Rattle.depth_search.specs.inside.Cases.{Cases, left_open, refuted, split, case_nodes}
use Rattle.depth_search.specs.inside.Cases.{HoldsBelow, is_made}
use Rattle.depth_search.specs.inside.Searches.{IsSpentAfter}
use Rattle.depth_search.specs.inside.ZoneTrees as zones
use Rattle.depth_search.proofs.ZoneTreeLemmas.{cases_spent, is_refuted-cases}
use Rattle.wide_lines.specs.declared.wide_node.WideNode.TheVariants as wide_node
use Rattle.wide_lines.specs.declared.wide_reason.WideReason.{WideReason}
use Rattle.wide_lines.specs.declared.wide_reason.WideReason.TheVariants.{Plain, Near}
use Rattle.wide_lines.specs.WideTrees as wide
use Rattle.wide_lines.specs.WideTreeLines.{are_wide_tests_for}
use Rattle.decide_run.specs.FairTrees.{IsUnitOrOpen, IsWideFairSplit}
use Rattle.decide_run.specs.inside.WideLooks.{IsReasonIn}
use Rattle.decide_run.specs.inside.WideTasks.{new_wide_tree, new_wide_node}

-- ---- nodes

-- the nodes of the wide tree are those of the cases
pub preorder-cases : (cases : Cases WideReason)
    → wide.wide_preorder (new_wide_tree cases) ≡ map new_wide_node (case_nodes cases)
preorder-cases left_open = refl
preorder-cases (refuted reason) = refl
preorder-cases (split test yes_half no_half) =
    ap (λ rest. wide_node.Split test true ∷ rest)
    (ap₂ (λ a b. a ++ b) (preorder-cases yes_half) (preorder-cases no_half)
    ∙ sym (map-append new_wide_node (case_nodes yes_half) (case_nodes no_half)))

-- ---- with plain reasons

-- the reason, or that of the marks in place of a near one
abbrev plain_reason : WideReason → Reason
plain_reason (Plain reason) = reason
plain_reason (Near rival) = Count

abbrev plain_cases : Cases WideReason → Cases Reason
plain_cases left_open = left_open
plain_cases (refuted reason) = refuted (plain_reason reason)
plain_cases (split test yes_half no_half) =
    split test (plain_cases yes_half) (plain_cases no_half)

abbrev plain_node : CaseNode WideReason → CaseNode Reason
plain_node (node.Split test) = node.Split test
plain_node (node.Refuted reason) = node.Refuted (plain_reason reason)
plain_node node.Open = node.Open

nodes_plain : (cases : Cases WideReason)
    → case_nodes (plain_cases cases) ≡ map plain_node (case_nodes cases)
nodes_plain left_open = refl
nodes_plain (refuted reason) = refl
nodes_plain (split test yes_half no_half) =
    ap (λ rest. node.Split test ∷ rest)
    (ap₂ (λ a b. a ++ b) (nodes_plain yes_half) (nodes_plain no_half)
    ∙ sym (map-append plain_node (case_nodes yes_half) (case_nodes no_half)))

made_plain : (nodes : List (CaseNode WideReason))
    → list_all is_made (map plain_node nodes) ≡ list_all is_made nodes
made_plain [] = refl
made_plain (node.Split test ∷ nodes) = made_plain nodes
made_plain (node.Refuted reason ∷ nodes) = made_plain nodes
made_plain (node.Open ∷ nodes) = refl

open_plain : (count : ℕ)
    → map plain_node (replicate count node.Open) ≡ replicate count node.Open
open_plain zero = refl
open_plain (suc count) = ap (λ rest. node.Open ∷ rest) (open_plain count)

spent_plain : (budget : ℕ) (nodes : List (CaseNode WideReason)) → IsSpentAfter budget nodes
    → IsSpentAfter budget (map plain_node nodes)
spent_plain budget nodes spent = (
  map plain_node spent.0,
  spent.1,
  ap (map plain_node) spent.2
      ∙ map-append plain_node spent.0 (replicate (1 + spent.1) node.Open)
      ∙ ap (λ rest. map plain_node spent.0 ++ rest) (open_plain (1 + spent.1)),
  length-map spent.0 plain_node ∙ spent.3,
  made_plain spent.0 ∙ spent.4,
)

-- ---- the same of both trees

count_same : (cases : Cases WideReason) → wide.wide_new_count (new_wide_tree cases)
    ≡ zone_tree.new_count (zones.new_tree (plain_cases cases))
count_same left_open = refl
count_same (refuted reason) = refl
count_same (split test yes_half no_half) =
    ap₂ (λ a b. 1 + a + b) (count_same yes_half) (count_same no_half)

open_same : (cases : Cases WideReason) → wide.has_wide_open (new_wide_tree cases)
    ≡ zone_tree.has_open (zones.new_tree (plain_cases cases))
open_same left_open = refl
open_same (refuted reason) = refl
open_same (split test yes_half no_half) =
    ap₂ (λ a b. a || b) (open_same yes_half) (open_same no_half)

refuted_same : (cases : Cases WideReason) → wide.is_wide_refuted (new_wide_tree cases)
    ≡ zone_tree.is_refuted (zones.new_tree (plain_cases cases))
refuted_same left_open = refl
refuted_same (refuted reason) = refl
refuted_same (split test yes_half no_half) =
    ap₂ (λ a b. a && b) (refuted_same yes_half) (refuted_same no_half)

tests_same : (sheet : Sheet) (question : Question) (cases : Cases WideReason)
    → are_wide_tests_for sheet question (new_wide_tree cases)
    ≡ plain_lines.are_tests_for sheet question (zones.new_tree (plain_cases cases))
tests_same sheet question left_open = refl
tests_same sheet question (refuted reason) = refl
tests_same sheet question (split test yes_half no_half) =
    ap₂ (λ a b. plain_lines.is_test_for sheet question test && a && b)
    (tests_same sheet question yes_half) (tests_same sheet question no_half)

-- ---- counts

-- if no leaf is open, each is refuted
pub wide_refuted : (cases : Cases WideReason) → list_all is_made (case_nodes cases) ≡ true
    → wide.is_wide_refuted (new_wide_tree cases) ≡ true
wide_refuted cases made =
    refuted_same cases ∙ is_refuted-cases (plain_cases cases)
    ∙ ap (list_all is_made) (nodes_plain cases) ∙ made_plain (case_nodes cases) ∙ made

-- if so many units were spent, so many nodes are new, and a leaf is open
pub wide_spent : (cases : Cases WideReason) (budget : ℕ) → IsSpentAfter budget (case_nodes cases)
    → wide.is_wide_spent budget (new_wide_tree cases) ≡ true
wide_spent cases budget spent =
    let counts = cases_spent (plain_cases cases) budget
    (subst (IsSpentAfter budget) (sym (nodes_plain cases))
    (spent_plain budget (case_nodes cases) spent)) in
    and_from (wide.wide_new_count (new_wide_tree cases) == budget) (wide.has_wide_open
    (new_wide_tree cases))
    (eq-eqb (wide.wide_new_count (new_wide_tree cases)) budget (count_same cases ∙ counts.0))
    (open_same cases ∙ counts.1)

-- ---- what holds below a zone

module _ (sheet : Sheet) (season : Results) (question : Question) where
  abbrev Holds : List Literal → Cases WideReason → Type 0
  Holds zone cases =
      HoldsBelow (IsReasonIn sheet season question) (IsWideFairSplit sheet season question) zone
      cases

  -- its splits are proper
  proper_below : (zone : List Literal) (cases : Cases WideReason) → Holds zone cases
      → zone_tree.NodesMeet (IsProperNode sheet season question) zone
      (zones.new_tree (plain_cases cases))
  proper_below zone left_open below = tt
  proper_below zone (refuted reason) below = tt
  proper_below zone (split test yes_half no_half) below = (
    below.0.fair.proper,
    proper_below (with_test zone test true) yes_half below.1,
    proper_below (with_test zone test false) no_half below.2,
  )

  -- so its tests are such as lines have
  pub wide_tests : (cases : Cases WideReason) → IsLeague sheet season → are_results season ≡ true
      → Holds [] cases → are_wide_tests_for sheet question (new_wide_tree cases) ≡ true
  wide_tests cases league results below =
      tests_same sheet question cases
      ∙ proper_tests sheet season question (zones.new_tree (plain_cases cases)) [] league results
      (proper_below [] cases below)

  -- its reasons hold
  pub wide_reasons : (zone : List Literal) (cases : Cases WideReason) → Holds zone cases
      → wide.WideNodesMeet (wide.IsWideReasonTrue sheet season question) zone (new_wide_tree cases)
  wide_reasons zone left_open below = tt
  wide_reasons zone (refuted reason) below = below
  wide_reasons zone (split test yes_half no_half) below = (
    tt,
    wide_reasons (with_test zone test true) yes_half below.1,
    wide_reasons (with_test zone test false) no_half below.2,
  )

  -- each node but open leaves is a unit of work
  pub wide_units : (zone : List Literal) (cases : Cases WideReason) → Holds zone cases
      → wide.WideNodesMeet (IsUnitOrOpen sheet season question) zone (new_wide_tree cases)
  wide_units zone left_open below = tt
  wide_units zone (refuted reason) below = (refl, below)
  wide_units zone (split test yes_half no_half) below = (
    (refl, below.0),
    wide_units (with_test zone test true) yes_half below.1,
    wide_units (with_test zone test false) no_half below.2,
  )
