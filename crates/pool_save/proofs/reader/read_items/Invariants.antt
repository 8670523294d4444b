use Rattle.std.proofs.Common.{◌≡◌, ◌-◌, ◌≤◌, length}
use Rattle.port_core.specs.Contents.{input_limit}
use Rattle.port_core.specs.Readers.{TakesInput, contents_to_come}
use Rattle.fixture_sheet.specs.LastReads.{ReadsOnWay}
use Rattle.fixture_sheet.specs.inside.Calls.{PassesLines}
use Rattle.pool_save.specs.inside.SoFar.{IsSaveState}
use Rattle.pool_save.specs.inside.Calls.{LeadsSaved, LeadsToState}
use Rattle.pool_save.proofs.reader.read_items.Given as goal

-- the lines so far led to what is read, which is sound and has no more nodes than bytes were
-- passed; they were passed whole, the last read came on the way to it, and the count of faults
-- stayed
abbrev pub invariant-lines : goal.invariant-lines
invariant-lines g l = record {
  leads : LeadsSaved l.sheet l.asked (contents_to_come l.fn.reader (g.S.Source.left l.fn.source))
      (contents_to_come l.reader (g.S.Source.left l.source)) l.held;
  sound : IsSaveState l.sheet l.asked l.held;
  few : length l.held.nodes ≤ l.reader.position.bytes;
  within : length l.held.nodes ≤ input_limit;
  passes : PassesLines l.fn.reader l.reader (g.S.Source.left l.fn.source)
      (g.S.Source.left l.source) (g.S.Source.ended l.fn.source) (g.S.Source.ended l.source);
  takes : TakesInput l.fn.reader l.reader (g.S.Source.left l.fn.source) (g.S.Source.left l.source);
  last : ReadsOnWay g.S.Source.left g.S.Source.reads (LeadsToState l.sheet l.asked) l.fn.reader
      l.reader l.fn.source l.source;
  counts : g.S.Source.faults l.source ≡ g.S.Source.faults l.fn.source;
}

-- the bytes that may still be passed
abbrev pub decreases-lines : goal.decreases-lines
decreases-lines g l = input_limit - l.reader.position.bytes
