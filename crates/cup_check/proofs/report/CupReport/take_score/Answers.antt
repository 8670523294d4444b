-- The next line has the score of the fixture, or may not come there.
use Rattle.cup_check.proofs.report.CupReport.take_score.Goals as goal

pub score_line-requires-clause-unplayed : goal.score_line-requires-clause-unplayed
score_line-requires-clause-unplayed c = cc

pub returns-clause-goes : goal.returns-clause-goes
returns-clause-goes c = c.score_line.ensures.goes c.args.from c.in_ok-at.ensures
