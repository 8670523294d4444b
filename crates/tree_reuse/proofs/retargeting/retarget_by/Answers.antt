use Rattle.std.proofs.Common.{◌≡◌, ◌<◌, ◌≤◌, ◌∙◌, length, arith}
use Rattle.std.proofs.lemmas.Result.{IfOk-weaker}
use Rattle.league_core.specs.search.Trees.{preorder}
use Rattle.tree_reuse.proofs.RetargetLemmas.{retargeted-many, retargeted-few, retargeted-read}
use Rattle.tree_reuse.proofs.retargeting.retarget_by.Goals as goal
use Rattle.tree_reuse.specs.Retargets.{most_kept, retargeted}

pub returns-then-len-clause-tree : goal.returns-then-len-clause-tree
returns-then-len-clause-tree c =
    let zone_box = c.args.zone_box.now in
    let many : most_kept < length c.in_ok-found.found.items = omega arith in
    rw (retargeted-many zone_box.sheet zone_box.season c.args.question.now c.args.tree.now
    c.in_ok-found.found.items c.in_ok-found.ensures.found many) at c.root.ensures

pub of_preorder-requires-clause-some : goal.of_preorder-requires-clause-some
of_preorder-requires-clause-some c =
    let zone_box = c.args.zone_box.now in
    rw c.as_slice.ensures.value
    (retargeted-read zone_box.sheet zone_box.season c.args.question.now c.args.tree.now
    c.in_ok-found.found.items c.in_ok-found.ensures.found)

pub returns-clause-tree : goal.returns-clause-tree
returns-clause-tree c =
    let zone_box = c.args.zone_box.now in
    let found = c.in_ok-found.found.items in
    let few : length found ≤ most_kept = omega arith in
    IfOk-weaker c.of_preorder.result (λ tree. preorder tree ≡ c.as_slice.result.now)
    (λ tree. tree ≡ retargeted zone_box.sheet zone_box.season c.args.question.now c.args.tree.now)
    (λ tree same. retargeted-few zone_box.sheet zone_box.season c.args.question.now
    c.args.tree.now tree found c.in_ok-found.ensures.found few (same ∙ c.as_slice.ensures.value))
    c.of_preorder.ensures
