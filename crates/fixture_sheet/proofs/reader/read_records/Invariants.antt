use Rattle.std.proofs.Common.{◌≡◌, ◌-◌, IfSome}
use Rattle.port_core.specs.Contents.{input_limit}
use Rattle.port_core.specs.Readers.{TakesInput, contents_to_come}
use Rattle.fixture_sheet.specs.inside.Calls.{Leads, PassesLines}
use Rattle.fixture_sheet.specs.LastReads.{ReadsOnWay}
use Rattle.fixture_sheet.specs.inside.SheetReads.{LeadsToDraft}
use Rattle.fixture_sheet.proofs.reader.read_records.Given as goal

-- the lines so far led to this draft, they were passed whole, the last read came on the way to it,
-- it is sound, and the count of faults stayed
abbrev pub invariant-records : goal.invariant-records
invariant-records g l = record {
  leads : Leads g.D.SheetSoFar.rules
      (contents_to_come l.fn.reader (g.S.Source.left l.fn.source))
      (contents_to_come l.reader (g.S.Source.left l.source)) l.draft;
  passes : PassesLines l.fn.reader l.reader (g.S.Source.left l.fn.source)
      (g.S.Source.left l.source) (g.S.Source.ended l.fn.source) (g.S.Source.ended l.source);
  takes : TakesInput l.fn.reader l.reader (g.S.Source.left l.fn.source) (g.S.Source.left l.source);
  last : ReadsOnWay g.S.Source.left g.S.Source.reads
      (LeadsToDraft g.D.SheetSoFar.rules) l.fn.reader l.reader
      l.fn.source l.source;
  sound : IfSome l.draft g.D.SheetSoFar.is_sound;
  counts : g.S.Source.faults l.source ≡ g.S.Source.faults l.fn.source;
}

-- the bytes that may still be passed
abbrev pub decreases-records : goal.decreases-records
decreases-records g l = input_limit - l.reader.position.bytes
