use Rattle.cup_rows.proofs.ClubTreeLemmas.{club_trees-step}
use Rattle.cup_rows.proofs.refuted.push_club_trees.Goals as goal

pub loop-club-preserved : goal.loop-club-preserved
loop-club-preserved c =
    club_trees-step _ _ _ c.args.start c.args.kind c.args.trees.now c.loop-club.club
    c.index-trees-club.result c.loop-club-test.true c.index-trees-club.is c.loop-club.invariant
    (rw c.as_slice-nodes.ensures.value at c.in_ok-push_refutation.ensures)
