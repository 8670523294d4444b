use Rattle.std.proofs.Common.{length, ◌-◌}
use Rattle.cup_feed.proofs.CutLemmas.{cut_next, results_left}
use Rattle.cup_feed.proofs.seasons.seasons_by_group.Goals as goal

pub group_season-requires-clause-results : goal.group_season-requires-clause-results
group_season-requires-clause-results c =
    results_left (record { scores = c.args.scores.now; deductions = c.args.deductions.now })
    (length c.args.scores.now - c.loop-group.fixture)
    (length c.args.deductions.now - c.loop-group.club) c.loop-group.fixture c.loop-group.club
    c.requires.results

pub loop-group-preserved : goal.loop-group-preserved
loop-group-preserved c =
    cut_next c.args.groups.now
    (record { scores = c.args.scores.now; deductions = c.args.deductions.now })
    c.loop-group.seasons c.push.new.self c.loop-group.group-index c.loop-group.fixture
    c.loop-group.club c.len-fixture.result c.len-club.result c.group-item.result
    c.in_ok-season.season c.loop-group.invariant c.loop-group-test.true c.group-item.is
    c.len-fixture.ensures c.len-club.ensures c.in_ok-season.ensures c.in_ok-push.ensures.ok
