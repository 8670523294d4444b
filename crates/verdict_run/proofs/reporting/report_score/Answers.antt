use Rattle.std.proofs.Common.{length, sym, arith}
use Rattle.std.proofs.lemmas.Result.{on_ok_weaker}
use Rattle.verdict_run.proofs.ReportedLemmas.{score_reported, score_none, reported_scores}
use Rattle.verdict_run.proofs.reporting.report_score.Goals as goal

pub change_with_room-requires-clause-may_be : goal.change_with_room-requires-clause-may_be
change_with_room-requires-clause-may_be c =
    let whole = c.args.season.now in
    let same = reported_scores whole (length whole.deductions) c.args.fixture c.args.pool.now
    c.requires.reported in
    let inside = c.requires.in_range in
    (omega (arith, same, inside), c.in-Some.ensures.within)

pub change_with_room-requires-clause-room : goal.change_with_room-requires-clause-room
change_with_room-requires-clause-room c =
    let few = c.requires.reported.events in
    let clubs = c.requires.clubs in
    let fits = c.ranges.fixture in
    omega (arith, few, clubs, fits)

pub returns-in-None-clause-reported : goal.returns-in-None-clause-reported
returns-in-None-clause-reported c =
    let whole = c.args.season.now in
    score_none whole (length whole.deductions) c.args.fixture c.args.pool.now c.requires.in_range
    (sym c.in-None.ensures.score) c.requires.reported

pub returns-in-Some-clause-reported : goal.returns-in-Some-clause-reported
returns-in-Some-clause-reported c =
    let whole = c.args.season.now in
    on_ok_weaker c.change_with_room.result
    (score_reported whole (length whole.deductions) c.args.fixture c.in-Some.score c.args.pool.now _
    c.requires.in_range
    (sym c.in-Some.ensures.score) c.requires.reported) c.change_with_room.ensures.ok
