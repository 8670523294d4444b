-- The way that a tree keeps: it leads where it led after the tree has changed, and is the zone of a
-- lent leaf.
use Rattle.std.proofs.Common.{◌≡◌, ℕ, ◌<◌, ◌==◌, Bool, List, [], ◌∷◌, ◌++◌, length, reverse, get_or}
use Rattle.std.proofs.Common.{set, Some, refl, sym, ap, ◌∙◌, subst, arith, inl, inr}
use Rattle.std.proofs.Common.{append_assoc, append-nil, get_or-set_same, get_or-set_other}
use Rattle.std.proofs.Common.{length-append}
use Rattle.std.proofs.lemmas.Bool.{cases_Bool, eqb-true, eqb-false}
use Rattle.std.proofs.lemmas.List.{get_or_append_left, length-set, reverse-append}
use Rattle.std.proofs.lemmas.List.{reverse-reverse}
use Rattle.league_core.specs.declared.zone.Test.{Test}
use Rattle.league_core.specs.declared.zone.Literal.{Literal}
use Rattle.league_core.specs.inside.Lending.{times_lent}
use Rattle.tree_arena.specs.declared.node.Kind.{Kind}
use Rattle.tree_arena.specs.declared.node.Kind.TheVariants.{Open, Lent, Refuted, Split}
use Rattle.tree_arena.specs.declared.node.Node.{Node}
use Rattle.tree_arena.specs.inside.Arena.{tree_below, with_kind, IsLeafKind, IsLinked, IsPathTo}
use Rattle.tree_arena.specs.inside.Arena.{IsLeafAt}
use Rattle.tree_arena.specs.inside.LastPaths.{split_test, IsStep, LeadsToNode, TakesInHand}
use Rattle.tree_arena.specs.inside.LastPaths.{AreClimbing}
use Rattle.tree_arena.proofs.LinkLemmas.{way_up, way_starts}
use Rattle.tree_arena.proofs.ArenaLemmas.{any_node}

-- a split with a test is a split by it
splits_by : (kind : Kind) (test : Test) → split_test kind ≡ Some test
    → (fresh : Bool) × (half : ℕ) × (kind ≡ Split test fresh half)
splits_by Open test is = cc
splits_by (Lent number) test is = cc
splits_by (Refuted reason fresh) test is = cc
splits_by (Split other fresh half) test is = (fresh, half, cc)

-- a leaf is no split
leaf_without_test : (kind : Kind) (test : Test) → IsLeafKind kind → split_test kind ≡ Some test
    → ⊥
leaf_without_test Open test leaf is = cc
leaf_without_test (Lent number) test leaf is = cc
leaf_without_test (Refuted reason fresh) test leaf is = cc
leaf_without_test (Split other fresh half) test leaf is = leaf

-- a step is one where something else stands in a leaf
step_set : (nodes : List Node) (leaf at parent : ℕ) (kind : Kind) (literal : Literal)
    → leaf < length nodes → IsLeafKind (get_or nodes leaf any_node).kind
    → IsStep nodes literal at parent
    → IsStep (set nodes leaf (with_kind kind (get_or nodes leaf any_node))) literal at parent
step_set nodes leaf at parent kind literal within is_leaf step =
    let written = with_kind kind (get_or nodes leaf any_node) in
    let long = length-set nodes leaf written in
    let in_list = step.within in
    record {
      above = step.above;
      within = omega arith;
      parent_is = λ default. elim (cases_Bool (at == leaf)) as (λ _.
          (get_or (set nodes leaf written) at default).parent ≡ parent) [
            | inl same ↦
                let is : at ≡ leaf = eqb-true at leaf same in
                subst (λ (k : ℕ). (get_or (set nodes leaf written) k default).parent ≡ parent)
                (sym is)
                (ap (λ (n : Node). n.parent) (get_or-set_same nodes leaf written default within)
                ∙ ap (λ (k : ℕ). (get_or nodes k any_node).parent) (sym is)
                ∙ step.parent_is any_node)
            | inr different ↦ ap (λ (n : Node). n.parent)
                (get_or-set_other nodes leaf at written default (eqb-false at leaf different))
                ∙ step.parent_is default
          ];
      side = λ default. elim (cases_Bool (at == leaf)) as (λ _.
          (get_or (set nodes leaf written) at default).yes ≡ literal.yes) [
            | inl same ↦
                let is : at ≡ leaf = eqb-true at leaf same in
                subst (λ (k : ℕ). (get_or (set nodes leaf written) k default).yes ≡ literal.yes)
                (sym is)
                (ap (λ (n : Node). n.yes) (get_or-set_same nodes leaf written default within)
                ∙ ap (λ (k : ℕ). (get_or nodes k any_node).yes) (sym is) ∙ step.side any_node)
            | inr different ↦ ap (λ (n : Node). n.yes)
                (get_or-set_other nodes leaf at written default (eqb-false at leaf different))
                ∙ step.side default
          ];
      splits = λ default. elim (cases_Bool (parent == leaf)) as (λ _.
          split_test (get_or (set nodes leaf written) parent default).kind ≡ Some literal.test) [
            | inl same ↦
                let is : parent ≡ leaf = eqb-true parent leaf same in
                absurd (leaf_without_test (get_or nodes leaf any_node).kind literal.test is_leaf
                (ap (λ (k : ℕ). split_test (get_or nodes k any_node).kind) (sym is)
                ∙ step.splits any_node))
            | inr different ↦ ap (λ (n : Node). split_test n.kind)
                (get_or-set_other nodes leaf parent written default
                (eqb-false parent leaf different))
                ∙ step.splits default
          ];
    }

-- what leads to a node leads to it then
pub leads-set : (nodes : List Node) (leaf : ℕ) (kind : Kind) (literals : List Literal) (at : ℕ)
    → leaf < length nodes → IsLeafKind (get_or nodes leaf any_node).kind
    → LeadsToNode nodes literals at
    → LeadsToNode (set nodes leaf (with_kind kind (get_or nodes leaf any_node))) literals at
leads-set nodes leaf kind [] at within is_leaf leads = leads
leads-set nodes leaf kind (literal ∷ before) at within is_leaf leads = (
  leads.0,
  step_set nodes leaf at leads.0 kind literal within is_leaf leads.1,
  leads-set nodes leaf kind before leads.0 within is_leaf leads.2,
)

-- so it is with more nodes after all others
step_more : (nodes more : List Node) (literal : Literal) (at parent : ℕ)
    → IsStep nodes literal at parent → IsStep (nodes ++ more) literal at parent
step_more nodes more literal at parent step =
    let within = step.within in
    let above = step.above in
    let long = length-append nodes more in
    record {
      above = step.above;
      within = omega arith;
      parent_is = λ default. ap (λ (n : Node). n.parent)
          (get_or_append_left nodes more default at step.within) ∙ step.parent_is default;
      side = λ default. ap (λ (n : Node). n.yes)
          (get_or_append_left nodes more default at step.within) ∙ step.side default;
      splits = λ default. ap (λ (n : Node). split_test n.kind)
          (get_or_append_left nodes more default parent (omega arith)) ∙ step.splits default;
    }

pub leads-more : (nodes more : List Node) (literals : List Literal) (at : ℕ)
    → LeadsToNode nodes literals at → LeadsToNode (nodes ++ more) literals at
leads-more nodes more [] at leads = leads
leads-more nodes more (literal ∷ before) at leads = (
  leads.0,
  step_more nodes more literal at leads.0 leads.1,
  leads-more nodes more before leads.0 leads.2,
)

-- when the second of two nodes that come up goes up
pub second_climbs : (nodes : List Node) (to one other up : ℕ) (zone_box hand more : List Literal)
    → AreClimbing nodes to one other zone_box hand → TakesInHand nodes other hand more up
    → AreClimbing nodes to one up zone_box more
second_climbs nodes to one other up zone_box hand more are takes =
    let within = are.within in
    let above = takes.step.above in
    record {
      leads = are.leads;
      within = omega arith;
      down = λ before leads. subst (λ (literals : List Literal). LeadsToNode nodes literals to)
          (sym (ap (λ ls. ls ++ before) takes.taken
          ∙ append_assoc hand (takes.literal ∷ []) before))
          (are.down (takes.literal ∷ before) (up, takes.step, leads));
    }

-- what leads to a node comes before the way from there to a lent leaf
leads_whole : (number : ℕ) (nodes : List Node) (literals : List Literal) (at : ℕ)
    (rest : List Literal) → IsLinked nodes → times_lent number (tree_below nodes 0) ≡ 1
    → LeadsToNode nodes literals at → IsPathTo number (tree_below nodes at) rest
    → IsPathTo number (tree_below nodes 0) (reverse literals ++ rest)
leads_whole number nodes [] at rest linked once leads to =
    subst (λ (k : ℕ). IsPathTo number (tree_below nodes k) rest) leads to
leads_whole number nodes (literal ∷ before) at rest linked once leads to =
    let step = leads.1 in
    let above = step.above in
    let parent_is = step.parent_is any_node in
    let parent = get_or nodes leads.0 any_node in
    let split = splits_by parent.kind literal.test (step.splits any_node) in
    let kind_is = ap (λ (k : ℕ). (get_or nodes k any_node).kind) parent_is ∙ split.2 in
    let up = way_up number nodes at any_node literal.test split.0 split.1 rest linked (omega arith)
    step.within kind_is once to in
    let beside = subst (λ (b : Bool). IsPathTo number
    (tree_below nodes (get_or nodes at any_node).parent)
    (record { test = literal.test; yes = b } ∷ rest)) (step.side any_node) up in
    let there = subst (λ (k : ℕ). IsPathTo number (tree_below nodes k) (literal ∷ rest)) parent_is
    beside in
    subst (λ (zone_box : List Literal). IsPathTo number (tree_below nodes 0) zone_box)
    (sym (ap (λ ls. ls ++ rest) (reverse-append (literal ∷ []) before)
    ∙ append_assoc (reverse before) (literal ∷ []) rest))
    (leads_whole number nodes before leads.0 (literal ∷ rest) linked once leads.2 there)

-- so what leads to a lent leaf is its zone
pub kept_way_is : (number : ℕ) (nodes : List Node) (lents : List ℕ) (place leaf : ℕ)
    (zone_box : List Literal) → IsLeafAt number nodes lents place leaf → IsLinked nodes
    → times_lent number (tree_below nodes 0) ≡ 1 → LeadsToNode nodes (reverse zone_box) leaf
    → IsPathTo number (tree_below nodes 0) zone_box
kept_way_is number nodes lents place leaf zone_box at linked once leads =
    subst (λ (literals : List Literal). IsPathTo number (tree_below nodes 0) literals)
    (append-nil (reverse (reverse zone_box)) ∙ reverse-reverse zone_box)
    (leads_whole number nodes (reverse zone_box) leaf [] linked once leads
    (way_starts number nodes lents place leaf any_node [] at refl))
