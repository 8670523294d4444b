use Rattle.std.proofs.Common.{◌-◌, ◌≤◌, false, get_or, refl, sym}
use Rattle.std.proofs.Common.{◌∙◌, arith}
use Rattle.league_core.specs.declared.tree.TreeNode.TheVariants.{Split}
use Rattle.league_core.specs.declared.zone.Test.TheVariants.{Home}
use Rattle.tree_arena.proofs.ListLemmas.{reads_leaf, reads_split, reads_none}
use Rattle.tree_arena.proofs.build.is_tree.Goals as goal
use Rattle.tree_arena.proofs.build.is_tree.Goals.{else-splits-via-then-splits+else-trees-lt2}
use Rattle.tree_arena.proofs.build.is_tree.Goals.{else-splits-via-else-splits}

pub returns-then-trees-lt2 : goal.returns-then-trees-lt2
returns-then-trees-lt2 c =
    let before = c.loop-at.invariant in
    let within = before.within in
    reads_none c.args.nodes.now (c.loop-at.at - 1) c.loop-at.at c.loop-at.trees
    (get_or c.args.nodes.now (c.loop-at.at - 1) (Split (Home 0) false)) (Split (Home 0) false)
    (omega arith) (omega arith) refl
    (sym c.is_split-splits.ensures ∙ c.if-splits.true) (omega arith) before.reads

pub loop-at-preserved-then-splits-2 : goal.loop-at-preserved-then-splits-2
loop-at-preserved-then-splits-2 c =
    let before = c.loop-at.invariant in
    let within = before.within in
    let two : 2 ≤ c.loop-at.trees = elim c.else-splits.branch [
      | else-splits-via-then-splits+else-trees-lt2 w ↦ omega arith
      | else-splits-via-else-splits w ↦ cc
    ] in
    record {
      within = omega arith;
      reads = reads_split c.args.nodes.now (c.loop-at.at - 1) c.loop-at.at c.loop-at.trees
          (get_or c.args.nodes.now (c.loop-at.at - 1) (Split (Home 0) false)) (Split (Home 0)
          false) (omega arith) (omega arith) refl
          (sym c.is_split-splits.ensures ∙ c.if-splits-2.true) two before.reads;
    }

pub loop-at-preserved : goal.loop-at-preserved
loop-at-preserved c =
    let before = c.loop-at.invariant in
    let within = before.within in
    record {
      within = omega arith;
      reads = reads_leaf c.args.nodes.now (c.loop-at.at - 1) c.loop-at.at c.loop-at.trees
          (get_or c.args.nodes.now (c.loop-at.at - 1) (Split (Home 0) false)) (Split (Home 0)
          false) (omega arith) (omega arith) refl
          (sym c.is_split-splits.ensures ∙ c.if-splits-2.false) before.reads;
    }
