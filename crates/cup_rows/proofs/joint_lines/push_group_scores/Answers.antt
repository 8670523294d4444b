use Rattle.std.proofs.Common.{ap, arith, length}
use Rattle.cup_rows.proofs.JointLineLemmas.{group_scores-step}
use Rattle.cup_rows.proofs.joint_lines.push_group_scores.Goals as goal

pub loop-fixture-preserved : goal.loop-fixture-preserved
loop-fixture-preserved c =
    group_scores-step _ _ _ c.args.first c.args.season.now.scores c.args.finish.now.scores
    c.loop-fixture.fixture
    (omega (arith, ap length c.scores.ensures.scores)) c.requires.same c.loop-fixture.invariant
    (rw (c.score-played.ensures.score, c.score-ended.ensures.score) at
    c.in_ok-push_score_if.ensures)
