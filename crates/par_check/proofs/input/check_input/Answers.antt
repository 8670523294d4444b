use Rattle.port_core.specs.Readers.{contents_to_come}
use Rattle.port_core.proofs.TakingLemmas.{TakesInput-more}
use Rattle.cert_check.proofs.InputLemmas.{input-sheet, input-sheet_fault, input-sheet_stop}
use Rattle.cert_check.proofs.InputLemmas.{stop-leaves, sheet-stop-counts}
use Rattle.par_check.proofs.input.check_input.Goals as goal

pub returns-in-Ok-clause-outcome : goal.returns-in-Ok-clause-outcome
returns-in-Ok-clause-outcome g c =
    input-sheet c.args.kind (contents_to_come c.args.reader.now (g.S.Source.left c.args.source.now))
    (contents_to_come c.read_sheet.new.reader (g.S.Source.left c.read_sheet.new.source))
    (contents_to_come c.check_feed.new.reader (g.S.Source.left c.check_feed.new.source))
    c.in-Ok.sheet c.check_feed.result c.in-Ok.ensures.reads c.check_feed.ensures.outcome

pub returns-in-Ok-clause-takes : goal.returns-in-Ok-clause-takes
returns-in-Ok-clause-takes g c =
    TakesInput-more c.args.reader.now c.read_sheet.new.reader c.check_feed.new.reader _ _ _
    c.read_sheet.ensures.takes c.check_feed.ensures.takes

pub returns-in-Err-Fault-clause-outcome : goal.returns-in-Err-Fault-clause-outcome
returns-in-Err-Fault-clause-outcome g c =
    let reads = rw c.in-Err-Fault.field-0-is at c.in-Err-Fault.ensures.reads in
    rw c.in-Err-Fault.field-0-is
    (input-sheet_fault c.args.kind (contents_to_come c.args.reader.now (g.S.Source.left
    c.args.source.now))
    (contents_to_come c.read_sheet.new.reader (g.S.Source.left c.read_sheet.new.source))
    c.in-Err-Fault.number c.in-Err-Fault.fault reads)

pub returns-in-Err-Read-clause-outcome : goal.returns-in-Err-Read-clause-outcome
returns-in-Err-Read-clause-outcome g c =
    let answers = rw c.in-Err-Read.field-0-is at c.stopped.ensures in
    let reads = rw c.in-Err-Read.field-0-is at c.in-Err-Read.ensures.reads in
    input-sheet_stop c.args.kind (contents_to_come c.args.reader.now (g.S.Source.left
    c.args.source.now))
    (contents_to_come c.read_sheet.new.reader (g.S.Source.left c.read_sheet.new.source))
    c.in-Err-Read.stop c.stopped.result answers reads

pub returns-in-Err-Read-clause-leaves : goal.returns-in-Err-Read-clause-leaves
returns-in-Err-Read-clause-leaves g c =
    let answers = rw c.in-Err-Read.field-0-is at c.stopped.ensures in
    let leaves = rw c.in-Err-Read.field-0-is at c.in-Err-Read.ensures.leaves in
    stop-leaves c.read_sheet.new.reader (g.S.Source.left c.read_sheet.new.source)
    c.in-Err-Read.stop c.stopped.result answers leaves

pub returns-in-Err-Read-clause-cause : goal.returns-in-Err-Read-clause-cause
returns-in-Err-Read-clause-cause g c =
    let answers = rw c.in-Err-Read.field-0-is at c.stopped.ensures in
    let counts = rw c.in-Err-Read.field-0-is at c.in-Err-Read.ensures.cause in
    sheet-stop-counts (g.S.Source.faults c.args.source.now)
    (g.S.Source.faults c.read_sheet.new.source) c.in-Err-Read.stop c.stopped.result
    answers counts
