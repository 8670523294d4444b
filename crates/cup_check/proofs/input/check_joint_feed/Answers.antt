use Rattle.std.proofs.Common.{Bool, List, subst, true}
use Rattle.league_core.specs.declared.sheet.Sheet.{Sheet}
use Rattle.port_core.specs.Readers.{contents_to_come}
use Rattle.port_core.proofs.TakingLemmas.{TakesInput-more}
use Rattle.result_log.specs.declared.entry.Entry.{Entry}
use Rattle.result_log.specs.declared.fault.FeedStop.TheVariants as feed_stop
use Rattle.cert_check.specs.inside.InputCalls.{ChecksBy, EndsFeed, IfRead, StopsFeed}
use Rattle.cert_check.proofs.InputLemmas.{feed-proofs, feed-fault, feed-stop}
use Rattle.cert_check.proofs.InputLemmas.{stop-leaves, feed-stop-counts}
use Rattle.cup_sheet.specs.CupFeeds.{joint_sheet}
use Rattle.cup_check.specs.CupOutcomes.{judged_cup_lines}
use Rattle.cup_check.specs.inside.CupInputCalls.{outcome_after_cup_feed}
use Rattle.cup_check.proofs.input.check_joint_feed.Goals as goal

pub returns-in-Err-Fault-clause-outcome : goal.returns-in-Err-Fault-clause-outcome
returns-in-Err-Fault-clause-outcome g c = λ contents is.
    let reads = rw c.in-Err-Fault.field-0-is at c.in-Err-Fault.ensures.reads in
    let stops = reads contents is in
    let after = contents_to_come c.read_feed.new.reader (g.S.Source.left c.read_feed.new.source) in
    let P : Sheet → Type 0 = λ s. StopsFeed s contents after stops.0
    (feed_stop.Fault c.in-Err-Fault.number c.in-Err-Fault.fault) in
    rw c.in-Err-Fault.field-0-is (feed-fault (judged_cup_lines c.args.cup.now)
    (joint_sheet c.args.cup.now)
    (contents_to_come c.args.reader.now (g.S.Source.left c.args.source.now))
    after stops.0 c.in-Err-Fault.number c.in-Err-Fault.fault contents
    (subst P c.requires.of_cup stops.1))

pub returns-in-Err-Read-clause-outcome : goal.returns-in-Err-Read-clause-outcome
returns-in-Err-Read-clause-outcome g c = λ contents is.
    let answers = rw c.in-Err-Read.field-0-is at c.stopped.ensures in
    let reads = rw c.in-Err-Read.field-0-is at c.in-Err-Read.ensures.reads in
    let stops = reads contents is in
    let after = contents_to_come c.read_feed.new.reader (g.S.Source.left c.read_feed.new.source) in
    let P : Sheet → Type 0 = λ s. StopsFeed s contents after stops.0
    (feed_stop.Read c.in-Err-Read.stop) in
    feed-stop (judged_cup_lines c.args.cup.now) (joint_sheet c.args.cup.now)
    (contents_to_come c.args.reader.now (g.S.Source.left c.args.source.now))
    after stops.0 c.in-Err-Read.stop c.stopped.result contents answers
    (subst P c.requires.of_cup stops.1)

pub returns-in-Err-Read-clause-leaves : goal.returns-in-Err-Read-clause-leaves
returns-in-Err-Read-clause-leaves g c =
    let answers = rw c.in-Err-Read.field-0-is at c.stopped.ensures in
    let leaves = rw c.in-Err-Read.field-0-is at c.in-Err-Read.ensures.leaves in
    stop-leaves c.read_feed.new.reader (g.S.Source.left c.read_feed.new.source)
    c.in-Err-Read.stop c.stopped.result answers leaves

pub returns-in-Err-Read-clause-cause : goal.returns-in-Err-Read-clause-cause
returns-in-Err-Read-clause-cause g c =
    let answers = rw c.in-Err-Read.field-0-is at c.stopped.ensures in
    let counts = rw c.in-Err-Read.field-0-is at c.in-Err-Read.ensures.cause in
    feed-stop-counts (g.S.Source.faults c.args.source.now)
    (g.S.Source.faults c.read_feed.new.source) c.in-Err-Read.stop c.stopped.result
    answers counts

pub returns-then-feed-clause-outcome : goal.returns-then-feed-clause-outcome
returns-then-feed-clause-outcome g c =
    let mid = contents_to_come c.read_feed.new.reader (g.S.Source.left c.read_feed.new.source) in
    let after =
    contents_to_come c.check_cup_report.new.reader (g.S.Source.left c.check_cup_report.new.source)
    in
    let P : List Entry → Type 0 = λ entries. IfRead mid (λ rest.
    ChecksBy (outcome_after_cup_feed c.args.cup.now entries) rest after
    c.check_cup_report.result) in
    feed-proofs (judged_cup_lines c.args.cup.now) (joint_sheet c.args.cup.now)
    (contents_to_come c.args.reader.now (g.S.Source.left c.args.source.now)) after mid
    c.in-Ok.feed.entries.items c.check_cup_report.result
    (λ contents is.
    let Q : Bool → Type 0 =
    λ proofs. EndsFeed c.args.sheet.now contents mid c.in-Ok.feed.entries.items proofs in
    let R : Sheet → Type 0 =
    λ s. EndsFeed s contents mid c.in-Ok.feed.entries.items true in
    subst R c.requires.of_cup
    (subst Q c.if-feed.true (c.in-Ok.ensures.reads contents is)))
    (subst P c.as_slice-entries.ensures.value c.check_cup_report.ensures.outcome)

pub returns-then-feed-clause-takes : goal.returns-then-feed-clause-takes
returns-then-feed-clause-takes g c =
    TakesInput-more c.args.reader.now c.read_feed.new.reader c.check_cup_report.new.reader _ _ _
    c.read_feed.ensures.takes c.check_cup_report.ensures.takes
