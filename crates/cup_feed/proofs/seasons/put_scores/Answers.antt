use Rattle.std.proofs.Common.{arith}
use Rattle.cup_feed.proofs.CutLemmas.{score_written}
use Rattle.cup_feed.proofs.seasons.put_scores.Goals as goal

pub loop-score-preserved : goal.loop-score-preserved
loop-score-preserved c =
    let so_far = c.loop-score.invariant in (
      omega (arith, so_far.0),
      score_written c.args.scores.now c.loop-score.score-index c.loop-score.fixture
          c.args.season.now c.loop-score.season c.put_score.new.season c.requires.same
          c.loop-score-test.true so_far.0 so_far.1 c.put_score.ensures,
    )
