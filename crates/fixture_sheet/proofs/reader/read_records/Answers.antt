use Rattle.std.proofs.Common.{ℕ, Ok, Err, inl, refl, ◌∙◌}
use Rattle.port_core.specs.declared.line.Line.TheVariants.{Text}
use Rattle.port_core.specs.Readers.{contents_to_come}
use Rattle.port_core.proofs.TakingLemmas.{TakesInput-more, TakesInput-none}
use Rattle.fixture_sheet.specs.inside.Calls.{sheet_answer_after}
use Rattle.fixture_sheet.proofs.LastReadLemmas.{sheet-further, sheet-stops}
use Rattle.fixture_sheet.proofs.ReadingLemmas.{leads-nothing}
use Rattle.fixture_sheet.proofs.PassedLemmas.{PassesLines-more, PassesLines-none, PassesUpTo-behind}
use Rattle.fixture_sheet.proofs.reader.read_records.Goals as goal

pub records-init : goal.records-init
records-init g c = record {
  leads = leads-nothing g.D.SheetSoFar.rules
      (contents_to_come c.args.reader.now (g.S.Source.left c.args.source.now));
  passes = PassesLines-none c.args.reader.now (g.S.Source.left c.args.source.now) _;
  takes = TakesInput-none c.args.reader.now (g.S.Source.left c.args.source.now);
  last = inl (refl, refl);
  sound = tt;
  counts = refl;
}

pub records-preserved : goal.records-preserved
records-preserved g c =
    let reads = rw c.in-Ok-SoFar.field-0-is at c.in-Ok-SoFar.ensures.reads in
    record {
      leads = reads _ c.records.invariant.leads;
      passes = PassesLines-more c.args.reader.now c.records.reader c.next_record.new.reader _ _ _ _
          _ _ _
          c.records.invariant.passes c.in-Ok-SoFar.ensures.passes;
      takes = TakesInput-more c.args.reader.now c.records.reader c.next_record.new.reader _ _ _
          c.records.invariant.takes c.next_record.ensures.takes;
      last = sheet-further g.D.SheetSoFar.rules _ _ c.args.reader.now c.records.reader
          c.next_record.new.reader _ _ _
          c.records.draft c.records.invariant.leads c.records.invariant.takes
          c.records.invariant.last c.in-Ok-SoFar.ensures.last;
      sound = rw c.in-Ok-SoFar.field-0-is at c.in-Ok-SoFar.ensures.limits;
      counts = c.in-Ok-SoFar.ensures.cause ∙ c.records.invariant.counts;
    }

pub returns-in-Ok-Whole-clause-reads : goal.returns-in-Ok-Whole-clause-reads
returns-in-Ok-Whole-clause-reads g c =
    let reads = rw c.in-Ok-Whole.field-0-is at c.in-Ok-Whole.ensures.reads in
    reads _ c.records.invariant.leads

pub returns-in-Ok-Whole-clause-passes : goal.returns-in-Ok-Whole-clause-passes
returns-in-Ok-Whole-clause-passes g c =
    PassesUpTo-behind c.args.reader.now c.records.reader c.next_record.new.reader _ _ _ _ _ _
    (Ok (Text c.next_record.new.reader.position.lines))
    c.records.invariant.passes c.in-Ok-Whole.ensures.passes

pub returns-in-Ok-Whole-clause-takes : goal.returns-in-Ok-Whole-clause-takes
returns-in-Ok-Whole-clause-takes g c =
    TakesInput-more c.args.reader.now c.records.reader c.next_record.new.reader _ _ _
    c.records.invariant.takes c.next_record.ensures.takes

pub returns-in-Err-clause-reads : goal.returns-in-Err-clause-reads
returns-in-Err-clause-reads g c = c.in-Err.ensures.reads _ c.records.invariant.leads

pub returns-in-Err-clause-passes : goal.returns-in-Err-clause-passes
returns-in-Err-clause-passes g c =
    PassesUpTo-behind c.args.reader.now c.records.reader c.next_record.new.reader _ _ _ _ _ _
    (sheet_answer_after {A = ℕ} c.next_record.new.reader (Err c.in-Err.stop))
    c.records.invariant.passes c.in-Err.ensures.passes

pub returns-in-Err-clause-takes : goal.returns-in-Err-clause-takes
returns-in-Err-clause-takes g c =
    TakesInput-more c.args.reader.now c.records.reader c.next_record.new.reader _ _ _
    c.records.invariant.takes c.next_record.ensures.takes

pub returns-in-Ok-Whole-clause-last : goal.returns-in-Ok-Whole-clause-last
returns-in-Ok-Whole-clause-last g c =
    sheet-further g.D.SheetSoFar.rules _ _ c.args.reader.now c.records.reader
    c.next_record.new.reader _ _ _
    c.records.draft c.records.invariant.leads c.records.invariant.takes c.records.invariant.last
    c.in-Ok-Whole.ensures.last

pub returns-in-Err-clause-last : goal.returns-in-Err-clause-last
returns-in-Err-clause-last g c =
    sheet-stops g.D.SheetSoFar.rules _ _ c.args.reader.now c.records.reader c.next_record.new.reader
    _ _ _
    c.records.draft c.in-Err.stop c.records.invariant.leads c.records.invariant.takes
    c.records.invariant.last c.in-Err.ensures.last
