use Rattle.std.proofs.Common.{Bool, List, subst}
use Rattle.port_core.specs.Readers.{contents_to_come}
use Rattle.port_core.proofs.TakingLemmas.{TakesInput-more}
use Rattle.result_log.specs.declared.entry.Entry.{Entry}
use Rattle.cert_check.specs.Outcomes.{judged_lines}
use Rattle.cert_check.specs.inside.InputCalls.{ChecksBy, EndsFeed, IfRead, outcome_after_feed}
use Rattle.cert_check.proofs.InputLemmas.{feed-proofs, feed-fault, feed-stop}
use Rattle.cert_check.proofs.InputLemmas.{stop-leaves, feed-stop-counts}
use Rattle.par_check.proofs.input.check_feed.Goals as goal

pub returns-in-Err-Fault-clause-outcome : goal.returns-in-Err-Fault-clause-outcome
returns-in-Err-Fault-clause-outcome g c = λ contents is.
    let reads = rw c.in-Err-Fault.field-0-is at c.in-Err-Fault.ensures.reads in
    let stops = reads contents is in
    rw c.in-Err-Fault.field-0-is (feed-fault
    (judged_lines c.args.kind c.args.sheet.now) c.args.sheet.now
    (contents_to_come c.args.reader.now (g.S.Source.left c.args.source.now))
    (contents_to_come c.read_feed.new.reader (g.S.Source.left c.read_feed.new.source))
    stops.0 c.in-Err-Fault.number c.in-Err-Fault.fault contents stops.1)

pub returns-in-Err-Read-clause-outcome : goal.returns-in-Err-Read-clause-outcome
returns-in-Err-Read-clause-outcome g c = λ contents is.
    let answers = rw c.in-Err-Read.field-0-is at c.stopped.ensures in
    let reads = rw c.in-Err-Read.field-0-is at c.in-Err-Read.ensures.reads in
    let stops = reads contents is in
    feed-stop (judged_lines c.args.kind c.args.sheet.now) c.args.sheet.now
    (contents_to_come c.args.reader.now (g.S.Source.left c.args.source.now))
    (contents_to_come c.read_feed.new.reader (g.S.Source.left c.read_feed.new.source))
    stops.0 c.in-Err-Read.stop c.stopped.result contents answers stops.1

pub returns-in-Err-Read-clause-leaves : goal.returns-in-Err-Read-clause-leaves
returns-in-Err-Read-clause-leaves g c =
    let answers = rw c.in-Err-Read.field-0-is at c.stopped.ensures in
    let leaves = rw c.in-Err-Read.field-0-is at c.in-Err-Read.ensures.leaves in
    stop-leaves c.read_feed.new.reader (g.S.Source.left c.read_feed.new.source)
    c.in-Err-Read.stop c.stopped.result answers leaves

pub returns-in-Err-Read-clause-cause : goal.returns-in-Err-Read-clause-cause
returns-in-Err-Read-clause-cause g c =
    let answers = rw c.in-Err-Read.field-0-is at c.stopped.ensures in
    let counts = rw c.in-Err-Read.field-0-is at c.in-Err-Read.ensures.cause in
    feed-stop-counts (g.S.Source.faults c.args.source.now)
    (g.S.Source.faults c.read_feed.new.source) c.in-Err-Read.stop c.stopped.result
    answers counts

pub returns-then-feed-clause-outcome : goal.returns-then-feed-clause-outcome
returns-then-feed-clause-outcome g c =
    let mid = contents_to_come c.read_feed.new.reader (g.S.Source.left c.read_feed.new.source) in
    let after =
    contents_to_come c.check_report.new.reader (g.S.Source.left c.check_report.new.source) in
    let P : List Entry → Type 0 = λ entries. IfRead mid (λ rest.
    ChecksBy (outcome_after_feed c.args.kind c.args.sheet.now entries) rest after
    c.check_report.result) in
    feed-proofs (judged_lines c.args.kind c.args.sheet.now) c.args.sheet.now
    (contents_to_come c.args.reader.now (g.S.Source.left c.args.source.now)) after mid
    c.in-Ok.feed.entries.items c.check_report.result
    (λ contents is.
    let Q : Bool → Type 0 =
    λ proofs. EndsFeed c.args.sheet.now contents mid c.in-Ok.feed.entries.items proofs in
    subst Q c.if-feed.true (c.in-Ok.ensures.reads contents is))
    (subst P c.as_slice-entries.ensures.value c.check_report.ensures.outcome)

pub returns-then-feed-clause-takes : goal.returns-then-feed-clause-takes
returns-then-feed-clause-takes g c =
    TakesInput-more c.args.reader.now c.read_feed.new.reader c.check_report.new.reader _ _ _
    c.read_feed.ensures.takes c.check_report.ensures.takes
