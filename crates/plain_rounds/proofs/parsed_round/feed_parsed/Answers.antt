-- One event more was told, or the round is over.
use Rattle.std.proofs.Common.{ap, refl, sym, ◌∙◌, ◌++◌, ◌∷◌, [], ◌≡◌, List, Ok, Err, subst}
use Rattle.league_core.specs.declared.season.Event.{Event}
use Rattle.branch_pool.specs.inside.States.{out_count}
use Rattle.result_log.specs.inside.Readings.{answer_as, live_as}
use Rattle.branch_pool.specs.inside.Steps.{Changes}
use Rattle.plain_rounds.specs.inside.Feeding.{HasComeOn}
use Rattle.plain_rounds.specs.inside.Reports.{ReportsTo, nothing_reported, one_report_more}
use Rattle.plain_rounds.proofs.FeedingLemmas.{come-further, come-nowhere, come-off, come-over}
use Rattle.plain_rounds.proofs.FeedingLemmas.{next-read-as}
use Rattle.plain_rounds.proofs.parsed_round.feed_parsed.Goals as goal
use Rattle.league_core.proofs.plain.Options.{ok-holds}

pub records-init : goal.records-init
records-init g c = record {
  sheet = refl;
  questions = refl;
  home = refl;
  reported = nothing_reported c.args.pool.now;
  come = come-nowhere
      (live_as g.R.Reading.entry (g.R.Reading.tells c.args.reading.now) c.args.pool.now.sheet)
      c.args.pool.now.log _ _;
}

pub change_with_room-requires-clause-may_be : goal.change_with_room-requires-clause-may_be
change_with_room-requires-clause-may_be g c =
    (rw (sym c.in-Change.ensures) at c.in-Ok.ensures.may_come).0

pub change_with_room-requires-clause-room : goal.change_with_room-requires-clause-room
change_with_room-requires-clause-room g c =
    (rw (sym c.in-Change.ensures) at c.in-Ok.ensures.may_come).1

pub records-preserved : goal.records-preserved
records-preserved g c =
    let before = c.records.invariant in
    let entry = g.R.Reading.entry in
    let tells = g.R.Reading.tells c.args.reading.now in
    let log = ok-holds c.change_with_room.result
    (c.change_with_room.new.self.log ≡ c.records.pool.log ++ c.in-Change.event ∷ [])
    (sym c.is_err.ensures.value ∙ c.if-is_err.false) c.change_with_room.ensures.log in
    let changed = ok-holds c.change_with_room.result
    (Changes c.records.pool c.in-Change.event c.change_with_room.new.self)
    (sym c.is_err.ensures.value ∙ c.if-is_err.false) c.change_with_room.ensures.ok in
    let P : List Event → Type 0 =
    λ all. HasComeOn g.S.Source.left g.S.Source.ended g.S.Source.faults g.S.Source.reads
    (live_as entry tells c.args.pool.now.sheet) c.args.pool.now.log all c.args.reader.now
    c.next_in.new.reader c.args.source.now c.next_in.new.source in
    record {
      sheet = c.change_with_room.ensures.sheet ∙ before.sheet;
      questions = c.change_with_room.ensures.questions ∙ before.questions;
      home = ap out_count c.change_with_room.ensures.home ∙ before.home;
      reported = one_report_more c.args.pool.now c.records.pool c.change_with_room.new.self
          c.in-Change.event before.reported changed;
      come = subst P (sym log) (come-further before.come c.in-Change.event
          (next-read-as (ap (λ sheet. live_as entry tells sheet c.records.pool.log) before.sheet)
          (rw (sym c.in-Change.ensures) at c.in-Ok.ensures.next)));
    }

pub returns-then-is_err-clause-err : goal.returns-then-is_err-clause-err
returns-then-is_err-clause-err g c =
    let before = c.records.invariant in
    let entry = g.R.Reading.entry in
    let tells = g.R.Reading.tells c.args.reading.now in
    (come-off before.come c.in-Change.event
    (next-read-as (ap (λ sheet. live_as entry tells sheet c.records.pool.log) before.sheet)
    (rw (sym c.in-Change.ensures) at c.in-Ok.ensures.next))).0

pub returns-then-is_err-clause-err_last : goal.returns-then-is_err-clause-err_last
returns-then-is_err-clause-err_last g c =
    let before = c.records.invariant in
    let entry = g.R.Reading.entry in
    let tells = g.R.Reading.tells c.args.reading.now in
    (come-off before.come c.in-Change.event
    (next-read-as (ap (λ sheet. live_as entry tells sheet c.records.pool.log) before.sheet)
    (rw (sym c.in-Change.ensures) at c.in-Ok.ensures.next))).1

pub returns-in-Ask-clause-ends : goal.returns-in-Ask-clause-ends
returns-in-Ask-clause-ends g c =
    let before = c.records.invariant in
    let entry = g.R.Reading.entry in
    let tells = g.R.Reading.tells c.args.reading.now in
    (come-over before.come (answer_as entry (Ok c.in-Ok.told))
    (next-read-as (ap (λ sheet. live_as entry tells sheet c.records.pool.log) before.sheet)
    c.in-Ok.ensures.next)).0

pub returns-in-Ask-clause-last : goal.returns-in-Ask-clause-last
returns-in-Ask-clause-last g c =
    let before = c.records.invariant in
    let entry = g.R.Reading.entry in
    let tells = g.R.Reading.tells c.args.reading.now in
    (come-over before.come (answer_as entry (Ok c.in-Ok.told))
    (next-read-as (ap (λ sheet. live_as entry tells sheet c.records.pool.log) before.sheet)
    c.in-Ok.ensures.next)).1

pub returns-in-Err-clause-ends : goal.returns-in-Err-clause-ends
returns-in-Err-clause-ends g c =
    let before = c.records.invariant in
    let entry = g.R.Reading.entry in
    let tells = g.R.Reading.tells c.args.reading.now in
    (come-over before.come (Err c.in-Err.stop)
    (next-read-as (ap (λ sheet. live_as entry tells sheet c.records.pool.log) before.sheet)
    c.in-Err.ensures.next)).0

pub returns-in-Err-clause-last : goal.returns-in-Err-clause-last
returns-in-Err-clause-last g c =
    let before = c.records.invariant in
    let entry = g.R.Reading.entry in
    let tells = g.R.Reading.tells c.args.reading.now in
    (come-over before.come (Err c.in-Err.stop)
    (next-read-as (ap (λ sheet. live_as entry tells sheet c.records.pool.log) before.sheet)
    c.in-Err.ensures.next)).1
