use Rattle.std.proofs.Common.{[], ap, reverse}
use Rattle.league_core.specs.search.Trees.{preorder}
use Rattle.tree_arena.specs.inside.Steps.{from_next}
use Rattle.tree_reuse.specs.Retargets.{retargeted_from}
use Rattle.tree_reuse.proofs.CarryLemmas.{walk_first, walk_on}
use Rattle.tree_reuse.proofs.carry.carry.Goals as goal

pub loop-next-preserved : goal.loop-next-preserved
loop-next-preserved c =
    let before = c.loop-next.invariant in
    let trees = c.subtrees-subtrees.result in
    let waiting = reverse c.loop-next.parts.items in
    let wanted = preorder (retargeted_from c.args.zone_box.now.sheet c.args.zone_box.now.season
    c.args.question.now [] c.args.tree.now) in
    let first = walk_first c.args.question.now trees c.loop-next.zone_box c.loop-next.next waiting
    c.in-Some.part c.loop-next.found.items wanted before.walk c.in-Some.is in
    let taken = c.in_ok-next.ensures in
    let on = walk_on c.args.question.now trees c.in-Some.part c.loop-next.zone_box
    c.take_part.new.zone_box waiting
    (from_next c.in_ok-next.next (reverse c.take_part.new.parts.items)) c.loop-next.found.items
    c.take_part.new.found.items wanted first taken in
    record {
      sheet_is = cc (ap (λ setting. setting.sheet) taken.box_is);
      season_is = cc (ap (λ setting. setting.season) taken.box_is);
      walk = on.0;
    }
