use Rattle.std.proofs.Common.{◌≡◌, ◌<◌, ◌≤◌, ◌∙◌, [], length, ap, sym, arith}
use Rattle.league_core.specs.search.Trees.{preorder}
use Rattle.tree_reuse.specs.Retargets.{retargeted_from, most_kept}
use Rattle.tree_reuse.proofs.RetargetLemmas.{retargeted-many, retargeted-few}
use Rattle.reference_programs.proofs.carried.retarget_over.Goals as goal

pub returns-then-len : goal.returns-then-len
returns-then-len c =
    let played = c.args.played.now in
    let left : c.in_ok-kept.kept
    ≡ retargeted_from played.sheet played.season c.args.question.now [] c.args.tree.now =
    rw c.new-way.ensures at c.in_ok-kept.ensures.left in
    let many : most_kept < length c.in_ok-nodes.field-0.items = omega arith in
    rw (retargeted-many played.sheet played.season c.args.question.now c.args.tree.now
    c.in_ok-nodes.field-0.items (c.in_ok-nodes.ensures ∙ ap preorder left) many) at c.root.ensures

pub returns : goal.returns
returns c =
    let played = c.args.played.now in
    let left : c.in_ok-kept.kept
    ≡ retargeted_from played.sheet played.season c.args.question.now [] c.args.tree.now =
    rw c.new-way.ensures at c.in_ok-kept.ensures.left in
    let few : length c.in_ok-nodes.field-0.items ≤ most_kept = omega arith in
    retargeted-few played.sheet played.season c.args.question.now c.args.tree.now
    c.in_ok-kept.kept c.in_ok-nodes.field-0.items (c.in_ok-nodes.ensures ∙ ap preorder left) few
    (sym c.in_ok-nodes.ensures)
