use Rattle.std.proofs.Common.{Ok, sym, ap, ◌∙◌}
use Rattle.port_core.specs.declared.line.Line.TheVariants.{Text, End}
use Rattle.fixture_sheet.specs.Readings.{content_taken_by}
use Rattle.fixture_sheet.specs.inside.Calls.{refused_before}
use Rattle.fixture_sheet.proofs.LastReadLemmas.{line-stops}
use Rattle.fixture_sheet.proofs.PassedLemmas.{leaves-as, passes-as, refused-end, refused-line}
use Rattle.fixture_sheet.proofs.ReadingLemmas.{line-taken, line-steps, line-refused, stop-reads}
use Rattle.fixture_sheet.proofs.reader.next_record.Goals as goal

pub returns-in-Ok-clause-reads : goal.returns-in-Ok-clause-reads
returns-in-Ok-clause-reads g c = λ start leads.
    let gives = rw c.in-Ok-Text.field-0-is at c.in-Ok-Text.ensures.gives in
    line-steps g.D.SheetSoFar.rules start _ _ c.args.draft c.in-Ok-Text.number c.next.new.self.text
    leads gives
    c.in-Ok.progress
    (ap (content_taken_by g.D.SheetSoFar.rules c.args.draft) (sym c.text.ensures)
    ∙ c.in-Ok.ensures.answer)

pub returns-in-Err-Fault-clause-reads : goal.returns-in-Err-Fault-clause-reads
returns-in-Err-Fault-clause-reads g c = λ start leads.
    let gives = rw c.in-Ok-Text.field-0-is at c.in-Ok-Text.ensures.gives in
    let answer = rw c.in-Err-Fault.field-0-is at c.in-Err-Fault.ensures.answer in
    line-refused g.D.SheetSoFar.rules start _ _ c.args.draft c.in-Ok-Text.number
    c.next.new.self.text leads gives
    c.in-Err-Fault.fault
    (ap (content_taken_by g.D.SheetSoFar.rules c.args.draft) (sym c.text.ensures) ∙ answer)

pub returns-in-Err-OutOfMemory-clause-reads : goal.returns-in-Err-OutOfMemory-clause-reads
returns-in-Err-OutOfMemory-clause-reads g c = λ start leads.
    let gives = rw c.in-Ok-Text.field-0-is at c.in-Ok-Text.ensures.gives in
    line-taken g.D.SheetSoFar.rules start _ _ c.args.draft c.in-Ok-Text.number c.next.new.self.text
    leads gives

pub returns-in-Err-clause-reads : goal.returns-in-Err-clause-reads
returns-in-Err-clause-reads g c = λ start leads.
    stop-reads g.D.SheetSoFar.rules start _ _ c.args.draft c.next.new.self.text c.in-Err.stop leads
    c.in-Err.ensures.gives

pub returns-in-Ok-clause-passes : goal.returns-in-Ok-clause-passes
returns-in-Ok-clause-passes g c =
    let passes = rw c.in-Ok-Text.field-0-is at c.in-Ok-Text.ensures.passes in
    let leaves = rw c.in-Ok-Text.field-0-is at c.in-Ok-Text.ensures.leaves in
    passes-as c.args.reader.now c.next.new.self _ _ _ _ (Ok (Text c.in-Ok-Text.number))
    (Ok (Text c.next.new.self.position.lines))
    (ap (λ n. Ok (Text n)) (sym leaves.0)) passes

pub returns-in-Err-Fault-clause-passes : goal.returns-in-Err-Fault-clause-passes
returns-in-Err-Fault-clause-passes g c =
    let passes = rw c.in-Ok-Text.field-0-is at c.in-Ok-Text.ensures.passes in
    let leaves = rw c.in-Ok-Text.field-0-is at c.in-Ok-Text.ensures.leaves in
    passes-as c.args.reader.now c.next.new.self _ _ _ _ (Ok (Text c.in-Ok-Text.number))
    (Ok (refused_before c.next.new.self.position c.in-Ok-Text.number))
    (ap Ok (refused-line c.next.new.self.position c.in-Ok-Text.number leaves.0)) passes

pub returns-in-Err-Fault-clause-leaves : goal.returns-in-Err-Fault-clause-leaves
returns-in-Err-Fault-clause-leaves g c =
    let leaves = rw c.in-Ok-Text.field-0-is at c.in-Ok-Text.ensures.leaves in
    leaves-as c.next.new.self _ (Ok (Text c.in-Ok-Text.number))
    (Ok (refused_before c.next.new.self.position c.in-Ok-Text.number))
    (ap Ok (refused-line c.next.new.self.position c.in-Ok-Text.number leaves.0)) leaves

pub returns-in-Err-OutOfMemory-clause-passes : goal.returns-in-Err-OutOfMemory-clause-passes
returns-in-Err-OutOfMemory-clause-passes g c =
    let passes = rw c.in-Ok-Text.field-0-is at c.in-Ok-Text.ensures.passes in
    let leaves = rw c.in-Ok-Text.field-0-is at c.in-Ok-Text.ensures.leaves in
    passes-as c.args.reader.now c.next.new.self _ _ _ _ (Ok (Text c.in-Ok-Text.number))
    (Ok (Text c.next.new.self.position.lines))
    (ap (λ n. Ok (Text n)) (sym leaves.0)) passes

pub returns-in-Ok-End-clause-passes : goal.returns-in-Ok-End-clause-passes
returns-in-Ok-End-clause-passes g c =
    let passes = rw c.in-Ok-End.field-0-is at c.in-Ok-End.ensures.passes in
    let leaves = rw c.in-Ok-End.field-0-is at c.in-Ok-End.ensures.leaves in
    passes-as c.args.reader.now c.next.new.self _ _ _ _ (Ok (End c.in-Ok-End.number))
    (Ok (refused_before c.next.new.self.position c.in-Ok-End.number))
    (ap Ok (refused-end c.next.new.self.position c.in-Ok-End.number leaves.0)) passes

pub returns-in-Ok-End-clause-leaves : goal.returns-in-Ok-End-clause-leaves
returns-in-Ok-End-clause-leaves g c =
    let leaves = rw c.in-Ok-End.field-0-is at c.in-Ok-End.ensures.leaves in
    leaves-as c.next.new.self _ (Ok (End c.in-Ok-End.number))
    (Ok (refused_before c.next.new.self.position c.in-Ok-End.number))
    (ap Ok (refused-end c.next.new.self.position c.in-Ok-End.number leaves.0)) leaves

pub returns-in-Err-clause-last : goal.returns-in-Err-clause-last
returns-in-Err-clause-last g c =
    line-stops g.D.SheetSoFar.rules _ _ c.args.reader.now c.next.new.self _ _ c.in-Err.stop
    c.in-Err.ensures.last
