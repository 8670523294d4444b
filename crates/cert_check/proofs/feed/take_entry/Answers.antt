use Rattle.std.proofs.Common.{true, Ok, Err, subst, sym}
use Rattle.league_core.specs.game.Seasons.{IsSeasonOf}
use Rattle.port_core.specs.Readers.{contents_to_come}
use Rattle.result_log.specs.declared.entry.Entry.TheVariants.{Change, Ask, Proofs, End}
use Rattle.result_log.specs.Feeds.{entry_in}
use Rattle.result_log.specs.Records.{IsEntryAt}
use Rattle.result_log.specs.inside.Calls.{ReadsEntry}
use Rattle.cert_check.specs.inside.InputCalls.{FeedSoFarView, IsStateOf}
use Rattle.cert_check.proofs.FeedLemmas.{state-season, state-more, step-change, step-ask}
use Rattle.cert_check.proofs.FeedLemmas.{step-proofs, step-end, step-stop}
use Rattle.cert_check.proofs.feed.take_entry.Goals as goal

pub next_entry-requires-clause-of_sheet : goal.next_entry-requires-clause-of_sheet
next_entry-requires-clause-of_sheet g c =
    let P : FeedSoFarView → Type 0 = λ s. IsSeasonOf c.args.sheet.now s.season in
    subst P (sym c.feed.view_is) (state-season c.args.sheet.now c.args.feed.now c.requires.state)

pub returns-in-Ok-clause-reads : goal.returns-in-Ok-clause-reads
returns-in-Ok-clause-reads g c = λ start leads.
    let reads = rw c.in-Ok-Change.field-0-is at c.in-Ok-Change.ensures.reads in
    let P : FeedSoFarView → Type 0 =
    λ s. ReadsEntry (entry_in c.args.sheet.now s.season s.events true)
    (contents_to_come c.args.reader.now (g.S.Source.left c.args.source.now))
    (contents_to_come c.next_entry.new.reader (g.S.Source.left c.next_entry.new.source))
    (Ok (Change c.in-Ok-Change.event)) in
    step-change c.args.sheet.now start
    (contents_to_come c.args.reader.now (g.S.Source.left c.args.source.now))
    (contents_to_come c.next_entry.new.reader (g.S.Source.left c.next_entry.new.source))
    c.args.feed.now c.requires.state leads c.add.new.self c.in-Ok-Change.event
    (subst P c.feed.view_is reads) c.in-Ok.ensures

pub returns-in-Ok-clause-state : goal.returns-in-Ok-clause-state
returns-in-Ok-clause-state g c =
    let told = rw c.in-Ok-Change.field-0-is at c.in-Ok-Change.ensures.is_entry in
    let P : FeedSoFarView → Type 0 =
    λ s. IsEntryAt s.season s.events true (Change c.in-Ok-Change.event) in
    subst (IsStateOf c.args.sheet.now) (sym c.in-Ok.ensures)
    (state-more c.args.sheet.now c.args.feed.now (Change c.in-Ok-Change.event) c.requires.state
    (subst P c.feed.view_is told))

pub returns-in-Ok-add-clause-reads : goal.returns-in-Ok-add-clause-reads
returns-in-Ok-add-clause-reads g c = λ start leads.
    let reads = rw c.in-Ok-Ask.field-0-is at c.in-Ok-Ask.ensures.reads in
    let P : FeedSoFarView → Type 0 =
    λ s. ReadsEntry (entry_in c.args.sheet.now s.season s.events true)
    (contents_to_come c.args.reader.now (g.S.Source.left c.args.source.now))
    (contents_to_come c.next_entry.new.reader (g.S.Source.left c.next_entry.new.source)) (Ok Ask) in
    step-ask c.args.sheet.now start
    (contents_to_come c.args.reader.now (g.S.Source.left c.args.source.now))
    (contents_to_come c.next_entry.new.reader (g.S.Source.left c.next_entry.new.source))
    c.args.feed.now c.requires.state leads c.add-in-Ok-Ask.new.self
    (subst P c.feed.view_is reads) c.in-Ok-add.ensures

pub returns-in-Ok-add-clause-state : goal.returns-in-Ok-add-clause-state
returns-in-Ok-add-clause-state g c =
    subst (IsStateOf c.args.sheet.now) (sym c.in-Ok-add.ensures)
    (state-more c.args.sheet.now c.args.feed.now Ask c.requires.state tt)

pub returns-in-Ok-Proofs-clause-reads : goal.returns-in-Ok-Proofs-clause-reads
returns-in-Ok-Proofs-clause-reads g c = λ start leads.
    let reads = rw c.in-Ok-Proofs.field-0-is at c.in-Ok-Proofs.ensures.reads in
    let P : FeedSoFarView → Type 0 =
    λ s. ReadsEntry (entry_in c.args.sheet.now s.season s.events true)
    (contents_to_come c.args.reader.now (g.S.Source.left c.args.source.now))
    (contents_to_come c.next_entry.new.reader (g.S.Source.left c.next_entry.new.source))
    (Ok Proofs) in
    step-proofs c.args.sheet.now start
    (contents_to_come c.args.reader.now (g.S.Source.left c.args.source.now))
    (contents_to_come c.next_entry.new.reader (g.S.Source.left c.next_entry.new.source))
    c.args.feed.now c.requires.state leads (subst P c.feed.view_is reads)

pub returns-in-Ok-End-clause-reads : goal.returns-in-Ok-End-clause-reads
returns-in-Ok-End-clause-reads g c = λ start leads.
    let reads = rw c.in-Ok-End.field-0-is at c.in-Ok-End.ensures.reads in
    let P : FeedSoFarView → Type 0 =
    λ s. ReadsEntry (entry_in c.args.sheet.now s.season s.events true)
    (contents_to_come c.args.reader.now (g.S.Source.left c.args.source.now))
    (contents_to_come c.next_entry.new.reader (g.S.Source.left c.next_entry.new.source)) (Ok End) in
    step-end c.args.sheet.now start
    (contents_to_come c.args.reader.now (g.S.Source.left c.args.source.now))
    (contents_to_come c.next_entry.new.reader (g.S.Source.left c.next_entry.new.source))
    c.args.feed.now c.requires.state leads (subst P c.feed.view_is reads)

pub returns-in-Err-clause-reads : goal.returns-in-Err-clause-reads
returns-in-Err-clause-reads g c = λ start leads.
    let P : FeedSoFarView → Type 0 =
    λ s. ReadsEntry (entry_in c.args.sheet.now s.season s.events true)
    (contents_to_come c.args.reader.now (g.S.Source.left c.args.source.now))
    (contents_to_come c.next_entry.new.reader (g.S.Source.left c.next_entry.new.source))
    (Err c.in-Err.stop) in
    step-stop c.args.sheet.now start
    (contents_to_come c.args.reader.now (g.S.Source.left c.args.source.now))
    (contents_to_come c.next_entry.new.reader (g.S.Source.left c.next_entry.new.source))
    c.args.feed.now c.requires.state leads c.in-Err.stop
    (subst P c.feed.view_is c.in-Err.ensures.reads)
