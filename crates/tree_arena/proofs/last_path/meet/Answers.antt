use Rattle.tree_arena.proofs.LastPathLemmas.{second_climbs}
use Rattle.tree_arena.proofs.last_path.meet.Goals as goal

pub loop-one-preserved : goal.loop-one-preserved
loop-one-preserved c =
    second_climbs c.args.nodes.now c.args.to c.loop-one.one c.loop-one.other c.in_ok-other.other
    c.loop-one.zone_box c.loop-one.hand c.take_in_hand.new.hand c.loop-one.invariant
    c.in_ok-other.ensures
