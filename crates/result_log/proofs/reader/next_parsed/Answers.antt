-- A line more held no record, or the answer came after those that held none.
use Rattle.std.proofs.Common.{arith, inl, refl, ◌∙◌}
use Rattle.port_core.specs.Readers.{contents_to_come}
use Rattle.port_core.proofs.TakingLemmas.{TakesInput-more, TakesInput-none}
use Rattle.result_log.proofs.CallLemmas.{blank-none, blank-more, entry-behind, MovesToEntry-from}
use Rattle.result_log.proofs.CallLemmas.{PassesBareLines-more, PassesBareLines-none}
use Rattle.result_log.proofs.CallLemmas.{ReadsEntry-behind}
use Rattle.result_log.proofs.LastReadLemmas.{blank-further, entry-stops}
use Rattle.result_log.specs.Feeds.{line_as}
use Rattle.result_log.specs.inside.Readings.{answer_as}
use Rattle.result_log.proofs.reader.next_parsed.Goals as goal

pub records-init : goal.records-init
records-init g c =
    let at = c.args.at.now in
    let found = line_as g.R.Reading.entry
    (g.R.Reading.tells c.args.reading.now at.sheet.now at.season.now at.events) in
    record {
      reads = PassesBareLines-none
          found
          (contents_to_come c.args.reader.now (g.S.Source.left c.args.source.now));
      passes = blank-none
          found
          c.args.reader.now _ _;
      takes = TakesInput-none c.args.reader.now (g.S.Source.left c.args.source.now);
      passed = omega arith;
      last = inl (refl, refl);
      counts = refl;
    }

pub records-preserved : goal.records-preserved
records-preserved g c =
    let at = c.args.at.now in
    let found = line_as g.R.Reading.entry
    (g.R.Reading.tells c.args.reading.now at.sheet.now at.season.now at.events) in
    record {
      reads = PassesBareLines-more
          found
          (contents_to_come c.args.reader.now (g.S.Source.left c.args.source.now))
          (contents_to_come c.records.reader (g.S.Source.left c.records.source))
          (contents_to_come c.take_line.new.reader (g.S.Source.left c.take_line.new.source))
          c.records.invariant.reads c.in_default.ensures.reads;
      passes = blank-more
          found
          c.args.reader.now c.records.reader c.take_line.new.reader _ _ _ _ _ _
          c.records.invariant.passes
          c.in_default.ensures.passes c.in_default.ensures.comes;
      takes = TakesInput-more c.args.reader.now c.records.reader c.take_line.new.reader _ _ _
          c.records.invariant.takes c.take_line.ensures.takes;
      passed = omega (arith, c.records.invariant.passed, c.in_default.ensures.moves);
      last = blank-further _ _
          found
          c.args.reader.now c.records.reader c.take_line.new.reader _ _ _ _ _
          c.records.invariant.passes c.records.invariant.takes c.records.invariant.last
          c.in_default.ensures.last;
      counts = c.in_default.ensures.cause ∙ c.records.invariant.counts;
    }

pub returns-in-Some-clause-reads : goal.returns-in-Some-clause-reads
returns-in-Some-clause-reads g c =
    let at = c.args.at.now in
    let found = line_as g.R.Reading.entry
    (g.R.Reading.tells c.args.reading.now at.sheet.now at.season.now at.events) in
    ReadsEntry-behind found
    (contents_to_come c.args.reader.now (g.S.Source.left c.args.source.now))
    (contents_to_come c.records.reader (g.S.Source.left c.records.source))
    (contents_to_come c.take_line.new.reader (g.S.Source.left c.take_line.new.source))
    (answer_as g.R.Reading.entry c.in-Some.result)
    c.records.invariant.reads c.in-Some.ensures.reads

pub returns-in-Some-clause-passes : goal.returns-in-Some-clause-passes
returns-in-Some-clause-passes g c =
    let at = c.args.at.now in
    let found = line_as g.R.Reading.entry
    (g.R.Reading.tells c.args.reading.now at.sheet.now at.season.now at.events) in
    entry-behind
    found
    c.args.reader.now c.records.reader c.take_line.new.reader _ _ _ _ _ _
    (answer_as g.R.Reading.entry c.in-Some.result)
    c.records.invariant.passes c.in-Some.ensures.passes
    c.in-Some.ensures.comes

pub returns-in-Some-clause-takes : goal.returns-in-Some-clause-takes
returns-in-Some-clause-takes g c =
    TakesInput-more c.args.reader.now c.records.reader c.take_line.new.reader _ _ _
    c.records.invariant.takes c.take_line.ensures.takes

pub returns-in-Some-clause-moves : goal.returns-in-Some-clause-moves
returns-in-Some-clause-moves g c =
    MovesToEntry-from c.args.reader.now c.records.reader c.take_line.new.reader
    (answer_as g.R.Reading.entry c.in-Some.result)
    c.records.invariant.passed c.in-Some.ensures.moves

pub returns-in-Some-clause-last : goal.returns-in-Some-clause-last
returns-in-Some-clause-last g c =
    let at = c.args.at.now in
    let found = line_as g.R.Reading.entry
    (g.R.Reading.tells c.args.reading.now at.sheet.now at.season.now at.events) in
    entry-stops _ _ found
    c.args.reader.now c.records.reader c.take_line.new.reader _ _ _ _ _
    (answer_as g.R.Reading.entry c.in-Some.result)
    c.records.invariant.passes c.records.invariant.takes
    c.records.invariant.last c.in-Some.ensures.last
