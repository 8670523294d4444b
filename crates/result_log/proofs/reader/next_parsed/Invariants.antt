use Rattle.std.proofs.Common.{◌≡◌, ◌-◌, ◌≤◌}
use Rattle.port_core.specs.Contents.{input_limit}
use Rattle.port_core.specs.Readers.{TakesInput, contents_to_come}
use Rattle.result_log.specs.inside.Calls.{PassesBareLines, PassesBlank}
use Rattle.fixture_sheet.specs.LastReads.{ReadsOnWay}
use Rattle.result_log.specs.Feeds.{line_as}
use Rattle.result_log.specs.inside.LastReads.{GivesBlank}
use Rattle.result_log.proofs.reader.next_parsed.Given as goal

-- the lines so far held no record, they were passed whole, and the last read came on the way
-- over them
abbrev pub invariant-records : goal.invariant-records
invariant-records g l = record {
  reads : PassesBareLines (line_as g.R.Reading.entry (g.R.Reading.tells l.reading l.at.sheet.now
      l.at.season.now l.at.events))
      (contents_to_come l.fn.reader (g.S.Source.left l.fn.source))
      (contents_to_come l.reader (g.S.Source.left l.source));
  passes : PassesBlank (line_as g.R.Reading.entry (g.R.Reading.tells l.reading l.at.sheet.now
      l.at.season.now l.at.events)) l.fn.reader l.reader
      (g.S.Source.left l.fn.source) (g.S.Source.left l.source) (g.S.Source.ended l.fn.source)
      (g.S.Source.ended l.source);
  takes : TakesInput l.fn.reader l.reader (g.S.Source.left l.fn.source) (g.S.Source.left l.source);
  passed : l.fn.reader.position.bytes ≤ l.reader.position.bytes;
  last : ReadsOnWay g.S.Source.left g.S.Source.reads
      (GivesBlank (line_as g.R.Reading.entry (g.R.Reading.tells l.reading l.at.sheet.now
      l.at.season.now l.at.events))) l.fn.reader l.reader
      l.fn.source l.source;
  counts : g.S.Source.faults l.source ≡ g.S.Source.faults l.fn.source;
}

-- the bytes that may still be passed
abbrev pub decreases-records : goal.decreases-records
decreases-records g l = input_limit - l.reader.position.bytes
