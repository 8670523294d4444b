use Rattle.port_core.specs.Readers.{contents_to_come}
use Rattle.cert_check.specs.Outcomes.{first_progress, judged_lines, parted}
use Rattle.cert_check.specs.inside.InputCalls.{report_read}
use Rattle.cert_check.proofs.InputLemmas.{report-told, report-leaves, report-stop}
use Rattle.cert_check.proofs.InputLemmas.{stop-leaves, lines-stop-counts}
use Rattle.par_check.proofs.input.check_report.Goals as goal

pub returns-in-Ok-report_outcome-clause-outcome : goal.returns-in-Ok-report_outcome-clause-outcome
returns-in-Ok-report_outcome-clause-outcome g c = λ contents is.
    report-told (judged_lines c.args.course.kind c.args.course.sheet.now c.args.course.entries.now)
    c.in-Ok.told c.in-Ok-report_outcome.outcome
    contents
    (contents_to_come c.read_lines.new.reader (g.S.Source.left c.read_lines.new.source))
    (contents_to_come c.read_lines.new.reader (g.S.Source.left c.read_lines.new.source))
    (c.in-Ok.ensures.reads contents is) c.in-Ok-report_outcome.ensures

pub returns-in-Ok-report_outcome-clause-leaves : goal.returns-in-Ok-report_outcome-clause-leaves
returns-in-Ok-report_outcome-clause-leaves g c =
    report-leaves (parted (report_read c.args.course.kind c.args.course.sheet.now c.in-Ok.told))
    c.args.course.entries.now (first_progress c.args.course.sheet.now)
    c.in-Ok-report_outcome.outcome
    c.read_lines.new.reader (g.S.Source.left c.read_lines.new.source) c.in-Ok.ensures.leaves
    c.in-Ok-report_outcome.ensures

pub returns-in-Err-Read-clause-outcome : goal.returns-in-Err-Read-clause-outcome
returns-in-Err-Read-clause-outcome g c = λ contents is.
    let answers = rw c.in-Err-Read.field-0-is at c.stopped.ensures in
    let reads = rw c.in-Err-Read.field-0-is at c.in-Err-Read.ensures.reads in
    report-stop (judged_lines c.args.course.kind c.args.course.sheet.now c.args.course.entries.now)
    c.in-Err-Read.stop c.stopped.result contents
    (contents_to_come c.read_lines.new.reader (g.S.Source.left c.read_lines.new.source))
    answers (reads contents is)

pub returns-in-Err-Read-clause-leaves : goal.returns-in-Err-Read-clause-leaves
returns-in-Err-Read-clause-leaves g c =
    let answers = rw c.in-Err-Read.field-0-is at c.stopped.ensures in
    let leaves = rw c.in-Err-Read.field-0-is at c.in-Err-Read.ensures.leaves in
    stop-leaves c.read_lines.new.reader (g.S.Source.left c.read_lines.new.source)
    c.in-Err-Read.stop c.stopped.result answers leaves

pub returns-in-Err-Read-clause-cause : goal.returns-in-Err-Read-clause-cause
returns-in-Err-Read-clause-cause g c =
    let answers = rw c.in-Err-Read.field-0-is at c.stopped.ensures in
    let counts = rw c.in-Err-Read.field-0-is at c.in-Err-Read.ensures.cause in
    lines-stop-counts (g.S.Source.faults c.args.source.now)
    (g.S.Source.faults c.read_lines.new.source) c.in-Err-Read.stop c.stopped.result
    answers counts
