-- One event more was reported, or the round is over.
use Rattle.std.proofs.Common.{sym, ◌∙◌, ◌++◌, ◌∷◌, [], ◌≡◌, List, Ok, Err, subst}
use Rattle.league_core.specs.declared.season.Event.{Event}
use Rattle.result_log.specs.declared.entry.Entry.TheVariants.{Ask, End}
use Rattle.result_log.specs.inside.Rounds.{live_entry}
use Rattle.plain_rounds.specs.inside.Feeding.{HasComeOn, IsSeasonReported}
use Rattle.plain_rounds.proofs.FeedingLemmas.{come-further, come-nowhere, come-off, come-over}
use Rattle.worker_gate.proofs.feeder.feed_open.Goals as goal
use Rattle.league_core.proofs.plain.Options.{ok-holds}

pub entries-init : goal.entries-init
entries-init g c = record {
  reported = c.requires.reported;
  come = come-nowhere (live_entry g.J.Job.sheet) c.args.feeder.now.front _ _;
}

pub entries-preserved : goal.entries-preserved
entries-preserved g c =
    let fine = sym c.is_err.ensures.value ∙ c.if-is_err.false in
    let log = ok-holds c.report.result
    (c.report.new.self.front ≡ c.entries.feeder.front ++ c.in-Ok-Change.event ∷ []) fine
    c.report.ensures.front in
    let P : List Event → Type 0 =
    λ all. HasComeOn g.S.Source.left g.S.Source.ended g.S.Source.faults g.S.Source.reads
    (live_entry g.J.Job.sheet) c.args.feeder.now.front all c.args.reader.now
    c.await_next.new.reader c.args.source.now c.await_next.new.source in
    record {
      reported = ok-holds c.report.result (IsSeasonReported g.J.Job.sheet
          c.report.new.self.front c.report.new.self.season c.report.new.self.events) fine
          c.report.ensures.reported;
      come = subst P (sym log) (come-further c.entries.invariant.come c.in-Ok-Change.event
          (rw c.in-Ok-Change.field-0-is at c.in-Ok-Change.ensures.next));
    }

pub returns-then-is_err : goal.returns-then-is_err
returns-then-is_err g c = record {
  feeds = come-off c.entries.invariant.come c.in-Ok-Change.event
      (rw c.in-Ok-Change.field-0-is at c.in-Ok-Change.ensures.next);
}

pub returns-in-Ok-Ask : goal.returns-in-Ok-Ask
returns-in-Ok-Ask g c = record {
  feeds = come-over c.entries.invariant.come (Ok Ask)
      (rw c.in-Ok-Ask.field-0-is at c.in-Ok-Ask.ensures.next);
}

pub returns-in-Ok-End : goal.returns-in-Ok-End
returns-in-Ok-End g c = record {
  feeds = come-over c.entries.invariant.come (Ok End)
      (rw c.in-Ok-End.field-0-is at c.in-Ok-End.ensures.next);
}

pub returns-in-Err : goal.returns-in-Err
returns-in-Err g c = record {
  feeds = come-over c.entries.invariant.come (Err c.in-Err.stop) c.in-Err.ensures.next;
}
