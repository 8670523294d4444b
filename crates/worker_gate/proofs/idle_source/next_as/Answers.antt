-- What the source round the source says, that source says.
use Rattle.std.proofs.Common.{false}
use Rattle.result_log.specs.Feeds.{entry_in}
use Rattle.plain_rounds.proofs.FeedingLemmas.{live-as, next-read, next-read-as, reported-of-sheet}
use Rattle.result_log.proofs.LastReadLemmas.{entry-within}
use Rattle.worker_gate.proofs.idle_source.next_as.Goals as goal

pub next_entry-next-requires-clause-of_sheet : goal.next_entry-next-requires-clause-of_sheet
next_entry-next-requires-clause-of_sheet g c =
    reported-of-sheet c.args.crew.now.sheet.now g.J.Job.sheet c.args.feeder.now.front
    c.args.feeder.now.season c.args.feeder.now.events c.requires.crew.0 c.requires.reported

pub returns-clause-next : goal.returns-clause-next
returns-clause-next g c =
    let ensures = c.next_entry-next.ensures in
    next-read-as
    (live-as c.args.crew.now.sheet.now g.J.Job.sheet c.args.feeder.now.front
    c.args.feeder.now.season c.args.feeder.now.events c.requires.crew.0 c.requires.reported)
    (next-read ensures.passes ensures.leaves ensures.reads ensures.takes ensures.moves ensures.cause
    (entry-within (λ idle. idle.source.now) g.S.Source.left g.S.Source.reads c.args.reader.now
    c.next_entry-next.new.reader _ _
    (entry_in c.args.crew.now.sheet.now c.args.feeder.now.season c.args.feeder.now.events false)
    c.next_entry-next.result ensures.last))
