use Rattle.std.proofs.Common.{ℕ, List, subst, sym}
use Rattle.league_core.specs.declared.season.Event.{Event}
use Rattle.result_log.specs.declared.entry.Entry.TheVariants.{Change, Ask}
use Rattle.par_check.specs.FeedAsks.{TakesEntry}
use Rattle.par_check.proofs.AsksOfLemmas.{event_taken, ask_taken, proofs_taken, end_taken}
use Rattle.par_check.proofs.feed_asks.add_entry.Goals as goal

pub returns-in_ok-add_event-in-Change-clause-takes :
    goal.returns-in_ok-add_event-in-Change-clause-takes
returns-in_ok-add_event-in-Change-clause-takes c =
    let log = c.args.asks.now.log.items in
    let epochs = c.args.asks.now.epochs.items in
    let new = c.add_event.new.asks.log.items in
    let P : List ℕ → Type 0 = λ it. TakesEntry (Change c.in-Change.event) log epochs new it in
    rw c.in-Change.is (subst P (sym (c.in_ok-add_event-in-Change.ensures {u = tt}).epochs)
    (event_taken c.in-Change.event log new epochs
    (c.in_ok-add_event-in-Change.ensures {u = tt}).log))

pub returns-in_ok-add_ask-in-Ask-clause-takes : goal.returns-in_ok-add_ask-in-Ask-clause-takes
returns-in_ok-add_ask-in-Ask-clause-takes c =
    let log = c.args.asks.now.log.items in
    let epochs = c.args.asks.now.epochs.items in
    let new = c.add_ask.new.asks.epochs.items in
    let P : List Event → Type 0 = λ it. TakesEntry Ask log epochs it new in
    rw c.in-Ask.is (subst P (sym (c.in_ok-add_ask-in-Ask.ensures {u = tt}).log)
    (ask_taken log epochs new (c.in_ok-add_ask-in-Ask.ensures {u = tt}).epochs))

pub returns-in-Proofs-clause-takes : goal.returns-in-Proofs-clause-takes
returns-in-Proofs-clause-takes c =
    rw c.in-Proofs.is (proofs_taken c.args.asks.now.log.items c.args.asks.now.epochs.items)

pub returns-in-End-clause-takes : goal.returns-in-End-clause-takes
returns-in-End-clause-takes c =
    rw c.in-End.is (end_taken c.args.asks.now.log.items c.args.asks.now.epochs.items)
