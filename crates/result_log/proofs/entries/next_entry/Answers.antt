-- What is told is an entry, and said of it as such.
use Rattle.port_core.specs.Readers.{contents_to_come}
use Rattle.result_log.specs.Records.{entry_of}
use Rattle.result_log.specs.inside.Calls.{PassesToEntry, ReadsEntry}
use Rattle.result_log.specs.inside.LastReads.{StopsAtEntry}
use Rattle.result_log.proofs.FeedLemmas.{there_may_come}
use Rattle.result_log.proofs.PassedLemmas.{as-entries}
use Rattle.result_log.proofs.entries.next_entry.Goals as goal

pub returns-clause-reads : goal.returns-clause-reads
returns-clause-reads g c =
    as-entries (λ found answer. ReadsEntry found
    (contents_to_come c.args.reader.now (g.S.Source.left c.args.source.now))
    (contents_to_come c.next_parsed.new.reader (g.S.Source.left c.next_parsed.new.source)) answer)
    (entry_of c.args.sheet.now c.args.season.now c.args.events c.args.proofs) c.next_parsed.result
    c.next_parsed.ensures.reads

pub returns-clause-is_entry : goal.returns-clause-is_entry
returns-clause-is_entry g c =
    there_may_come c.args.sheet.now c.args.season.now c.args.events c.args.proofs
    c.next_parsed.new.reader.text c.next_parsed.result c.requires.of_sheet
    c.next_parsed.ensures.there

pub returns-clause-passes : goal.returns-clause-passes
returns-clause-passes g c =
    as-entries (λ found answer. PassesToEntry found c.args.reader.now c.next_parsed.new.reader
    (g.S.Source.left c.args.source.now) (g.S.Source.left c.next_parsed.new.source)
    (g.S.Source.ended c.args.source.now) (g.S.Source.ended c.next_parsed.new.source) answer)
    (entry_of c.args.sheet.now c.args.season.now c.args.events c.args.proofs) c.next_parsed.result
    c.next_parsed.ensures.passes

pub returns-clause-last : goal.returns-clause-last
returns-clause-last g c =
    as-entries (λ found answer. StopsAtEntry g.S.Source.left g.S.Source.reads found
    c.args.reader.now c.next_parsed.new.reader c.args.source.now c.next_parsed.new.source answer)
    (entry_of c.args.sheet.now c.args.season.now c.args.events c.args.proofs) c.next_parsed.result
    c.next_parsed.ensures.last
