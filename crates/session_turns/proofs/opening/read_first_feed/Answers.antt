-- Round by round, up to the record `proofs`.
use Rattle.std.proofs.Common.{true, false, Ok, Err, refl, sym, ◌∙◌, subst}
use Rattle.league_core.specs.declared.sheet.Sheet.{Sheet}
use Rattle.port_core.specs.Readers.{stream_of}
use Rattle.fixture_sheet.specs.LastReads.{ReadsOnWay}
use Rattle.result_log.specs.declared.entry.Entry.TheVariants.{Ask, Proofs, End}
use Rattle.result_log.specs.inside.LastReads.{GivesEvents, StopsAtClose}
use Rattle.result_log.specs.inside.Rounds.{EndsRound, spot_of}
use Rattle.plain_rounds.proofs.FeedingLemmas.{as-rounds}
use Rattle.command_words.specs.declared.command.Mode.TheVariants.{Resume}
use Rattle.session_turns.specs.Courses.{course_from, course_from_saved, first_origin}
use Rattle.pool_save.specs.SavedReadings.{nothing_saved}
use Rattle.session_turns.specs.inside.TurnReads.{HasComeTo, HasComeToSaved}
use Rattle.session_turns.proofs.HaltLemmas.{round-live}
use Rattle.session_turns.proofs.LastReadLemmas.{feed-stops, round-come, round-stops}
use Rattle.session_turns.proofs.OpeningLemmas.{ends-before, opening-ask}
use Rattle.session_turns.proofs.OpeningLemmas.{opening-end}
use Rattle.session_turns.proofs.OpeningLemmas.{opening-proofs, opening-starved, opening-stop}
use Rattle.session_turns.proofs.OpeningLemmas.{proofs-come, stopped-as, told-as}
use Rattle.session_turns.proofs.OriginLemmas.{reports-unworked}
use Rattle.session_turns.proofs.opening.read_first_feed.Goals as goal
use Rattle.run_ends.specs.inside.Ways.{Path}
use Rattle.session_turns.specs.Texts.{session_kind}

pub returns-in_default-clause-way : goal.returns-in_default-clause-way
returns-in_default-clause-way g c = λ proofs input ended old now path.
    let from = spot_of c.rounds.reader (g.S.Source.left c.rounds.source)
    (g.S.Source.ended c.rounds.source) (g.S.Source.faults c.rounds.source) in
    let to = spot_of c.read_parsed.new.reader (g.S.Source.left c.read_parsed.new.source)
    (g.S.Source.ended c.read_parsed.new.source) (g.S.Source.faults c.read_parsed.new.source) in
    opening-starved proofs input ended c.rounds.live.sheet c.rounds.live.log c.rounds.live.log from
    to
    old now (c.rounds.invariant.way proofs input ended old now path)

pub returns-in_default-clause-last : goal.returns-in_default-clause-last
returns-in_default-clause-last g c = λ proofs first come old new status ends.
    let ways = as-rounds true (λ live close. ReadsOnWay g.S.Source.left g.S.Source.reads
    (GivesEvents live c.rounds.live.log) c.rounds.reader c.read_parsed.new.reader c.rounds.source
    c.read_parsed.new.source) c.rounds.live.sheet (Ok End) (Ok End) refl
    c.in_default.ensures.err_last in
    round-stops g.S.Source.left g.S.Source.reads first c.rounds.reader c.read_parsed.new.reader
    c.rounds.source c.read_parsed.new.source (Resume proofs) (first_origin c.rounds.live.sheet)
    c.rounds.live.log (c.rounds.invariant.come proofs first come) ways status

pub rounds-preserved : goal.rounds-preserved
rounds-preserved g c =
    let before = c.rounds.invariant in
    let from = spot_of c.rounds.reader (g.S.Source.left c.rounds.source)
    (g.S.Source.ended c.rounds.source) (g.S.Source.faults c.rounds.source) in
    let to = spot_of c.read_parsed.new.reader (g.S.Source.left c.read_parsed.new.source)
    (g.S.Source.ended c.read_parsed.new.source) (g.S.Source.faults c.read_parsed.new.source) in
    let ends = as-rounds true (λ live close. EndsRound live c.rounds.live.log
    c.in-Ok.round.pool.log from to close) c.rounds.live.sheet (Ok Ask) c.in-Ok.round.last
    (told-as c.in-Ok.round.last c.in-Ok-Ask.field-0 Ask c.in-Ok-Ask.is
    (rw c.in-Ok-Ask.is at c.in-Ok-Ask.field-0-is)) c.in-Ok.ensures.ends in
    let ways = as-rounds true (λ live close. StopsAtClose g.S.Source.left g.S.Source.reads live
    c.rounds.live.log c.rounds.reader c.read_parsed.new.reader c.rounds.source
    c.read_parsed.new.source close) c.rounds.live.sheet (Ok Ask) c.in-Ok.round.last
    (told-as c.in-Ok.round.last c.in-Ok-Ask.field-0 Ask c.in-Ok-Ask.is
    (rw c.in-Ok-Ask.is at c.in-Ok-Ask.field-0-is)) c.in-Ok.ensures.last in
    let same = c.in-Ok.ensures.sheet in
    let next = c.in-Ok.round.pool in
    record {
      live = round-live (Resume false) c.rounds.live next before.live same c.in-Ok.ensures.questions
          c.in-Ok.ensures.season c.in-Ok.ensures.home c.in-Ok.ensures.reported;
      unworked = reports-unworked c.rounds.live next c.in-Ok.ensures.reported before.unworked;
      way = λ proofs input ended old now path.
          let P : Sheet → Type 0 = λ s. Path (session_kind (Resume proofs)) input ended
          (stream_of to.reader to.left) to.ended to.reader.position
          (course_from (Resume proofs) (first_origin s) next.log) old now in
          subst P (sym same) (opening-ask proofs input ended c.rounds.live.sheet c.rounds.live.log
          next.log from to old now (before.way proofs input ended old now path) ends);
      come = λ proofs first come.
          let P : Sheet → Type 0 = λ s. HasComeTo g.S.Source.left g.S.Source.reads (Resume proofs)
          first c.read_parsed.new.reader c.read_parsed.new.source (first_origin s) next.log in
          subst P (sym same) (round-come g.S.Source.left g.S.Source.reads first c.rounds.reader
          c.read_parsed.new.reader c.rounds.source c.read_parsed.new.source (Resume proofs)
          (first_origin c.rounds.live.sheet) c.rounds.live.log (before.come proofs first come) ways
          next.log _ _ _ _ ends);
      counts = ends.cause ∙ before.counts;
    }

pub returns-in-Ok-Proofs-clause-way : goal.returns-in-Ok-Proofs-clause-way
returns-in-Ok-Proofs-clause-way g c = λ proofs input ended old now path.
    let from = spot_of c.rounds.reader (g.S.Source.left c.rounds.source)
    (g.S.Source.ended c.rounds.source) (g.S.Source.faults c.rounds.source) in
    let to = spot_of c.read_parsed.new.reader (g.S.Source.left c.read_parsed.new.source)
    (g.S.Source.ended c.read_parsed.new.source) (g.S.Source.faults c.read_parsed.new.source) in
    let ends = as-rounds true (λ live close. EndsRound live c.rounds.live.log
    c.in-Ok.round.pool.log from to close) c.rounds.live.sheet (Ok Proofs) c.in-Ok.round.last
    (told-as c.in-Ok.round.last c.in-Ok-Proofs.field-0 Proofs c.in-Ok-Proofs.is
    (rw c.in-Ok-Proofs.is at c.in-Ok-Proofs.field-0-is)) c.in-Ok.ensures.ends in
    let P : Sheet → Type 0 = λ s. Path (session_kind (Resume proofs)) input ended (stream_of
    to.reader to.left)
    to.ended to.reader.position
    (course_from_saved (Resume proofs) s c.in-Ok.round.pool.log nothing_saved) old now in
    subst P (sym c.in-Ok.ensures.sheet) (opening-proofs proofs input ended c.rounds.live.sheet
    c.rounds.live.log c.in-Ok.round.pool.log from to old now
    (c.rounds.invariant.way proofs input ended old now path) ends)

pub returns-in-Ok-Proofs-clause-last : goal.returns-in-Ok-Proofs-clause-last
returns-in-Ok-Proofs-clause-last g c = λ proofs first come.
    let from = spot_of c.rounds.reader (g.S.Source.left c.rounds.source)
    (g.S.Source.ended c.rounds.source) (g.S.Source.faults c.rounds.source) in
    let to = spot_of c.read_parsed.new.reader (g.S.Source.left c.read_parsed.new.source)
    (g.S.Source.ended c.read_parsed.new.source) (g.S.Source.faults c.read_parsed.new.source) in
    let ends = as-rounds true (λ live close. EndsRound live c.rounds.live.log
    c.in-Ok.round.pool.log from to close) c.rounds.live.sheet (Ok Proofs) c.in-Ok.round.last
    (told-as c.in-Ok.round.last c.in-Ok-Proofs.field-0 Proofs c.in-Ok-Proofs.is
    (rw c.in-Ok-Proofs.is at c.in-Ok-Proofs.field-0-is)) c.in-Ok.ensures.ends in
    let ways = as-rounds true (λ live close. StopsAtClose g.S.Source.left g.S.Source.reads live
    c.rounds.live.log c.rounds.reader c.read_parsed.new.reader c.rounds.source
    c.read_parsed.new.source close) c.rounds.live.sheet (Ok Proofs) c.in-Ok.round.last
    (told-as c.in-Ok.round.last c.in-Ok-Proofs.field-0 Proofs c.in-Ok-Proofs.is
    (rw c.in-Ok-Proofs.is at c.in-Ok-Proofs.field-0-is)) c.in-Ok.ensures.last in
    let P : Sheet → Type 0 = λ s. HasComeToSaved g.S.Source.left g.S.Source.reads (Resume proofs)
    first c.read_parsed.new.reader c.read_parsed.new.source s c.in-Ok.round.pool.log in
    subst P (sym c.in-Ok.ensures.sheet) (proofs-come g.S.Source.left g.S.Source.reads proofs first
    c.rounds.reader c.read_parsed.new.reader c.rounds.source c.read_parsed.new.source
    c.rounds.live.sheet c.rounds.live.log (c.rounds.invariant.come proofs first come) ways
    c.in-Ok.round.pool.log _ _ _ _ ends)

pub returns-in-Ok-Proofs-clause-unworked : goal.returns-in-Ok-Proofs-clause-unworked
returns-in-Ok-Proofs-clause-unworked g c =
    reports-unworked c.rounds.live c.in-Ok.round.pool c.in-Ok.ensures.reported
    c.rounds.invariant.unworked

pub returns-in-Ok-End-clause-way : goal.returns-in-Ok-End-clause-way
returns-in-Ok-End-clause-way g c = λ proofs input ended old now path.
    let from = spot_of c.rounds.reader (g.S.Source.left c.rounds.source)
    (g.S.Source.ended c.rounds.source) (g.S.Source.faults c.rounds.source) in
    let to = spot_of c.read_parsed.new.reader (g.S.Source.left c.read_parsed.new.source)
    (g.S.Source.ended c.read_parsed.new.source) (g.S.Source.faults c.read_parsed.new.source) in
    let ends = as-rounds true (λ live close. EndsRound live c.rounds.live.log
    c.in-Ok.round.pool.log from to close) c.rounds.live.sheet (Ok End) c.in-Ok.round.last
    (told-as c.in-Ok.round.last c.in-Ok-End.field-0 End c.in-Ok-End.is
    (rw c.in-Ok-End.is at c.in-Ok-End.field-0-is)) c.in-Ok.ensures.ends in
    let there = c.rounds.invariant.way proofs input ended old now path in
    ends-before (Resume proofs) input to.left to.ended old now to.reader.position
    c.end_before.result c.end_before.ensures
    (opening-end proofs input ended c.rounds.live.sheet c.rounds.live.log c.in-Ok.round.pool.log
    from
    to old now there ends)
    (opening-starved proofs input ended c.rounds.live.sheet c.rounds.live.log
    c.in-Ok.round.pool.log from to old now there)

pub returns-in-Ok-End-clause-last : goal.returns-in-Ok-End-clause-last
returns-in-Ok-End-clause-last g c = λ proofs first come old new status ends.
    let ways = as-rounds true (λ live close. StopsAtClose g.S.Source.left g.S.Source.reads live
    c.rounds.live.log c.rounds.reader c.read_parsed.new.reader c.rounds.source
    c.read_parsed.new.source close) c.rounds.live.sheet (Ok End) c.in-Ok.round.last
    (told-as c.in-Ok.round.last c.in-Ok-End.field-0 End c.in-Ok-End.is
    (rw c.in-Ok-End.is at c.in-Ok-End.field-0-is)) c.in-Ok.ensures.last in
    round-stops g.S.Source.left g.S.Source.reads first c.rounds.reader c.read_parsed.new.reader
    c.rounds.source c.read_parsed.new.source (Resume proofs) (first_origin c.rounds.live.sheet)
    c.rounds.live.log (c.rounds.invariant.come proofs first come) ways status

pub returns-in-Err-clause-way : goal.returns-in-Err-clause-way
returns-in-Err-clause-way g c = λ proofs input ended old now path.
    let from = spot_of c.rounds.reader (g.S.Source.left c.rounds.source)
    (g.S.Source.ended c.rounds.source) (g.S.Source.faults c.rounds.source) in
    let to = spot_of c.read_parsed.new.reader (g.S.Source.left c.read_parsed.new.source)
    (g.S.Source.ended c.read_parsed.new.source) (g.S.Source.faults c.read_parsed.new.source) in
    let ends = as-rounds true (λ live close. EndsRound live c.rounds.live.log
    c.in-Ok.round.pool.log from to close) c.rounds.live.sheet (Err c.in-Err.stop) c.in-Ok.round.last
    (stopped-as c.in-Ok.round.last c.in-Err.stop c.in-Err.is) c.in-Ok.ensures.ends in
    rw c.stop_of_feed.ensures (opening-stop proofs input ended c.rounds.live.sheet c.rounds.live.log
    c.in-Ok.round.pool.log from to old now
    (c.rounds.invariant.way proofs input ended old now path) c.in-Err.stop ends)

pub returns-in-Err-clause-last : goal.returns-in-Err-clause-last
returns-in-Err-clause-last g c = λ proofs first come.
    let ways = as-rounds true (λ live close. StopsAtClose g.S.Source.left g.S.Source.reads live
    c.rounds.live.log c.rounds.reader c.read_parsed.new.reader c.rounds.source
    c.read_parsed.new.source close) c.rounds.live.sheet (Err c.in-Err.stop) c.in-Ok.round.last
    (stopped-as c.in-Ok.round.last c.in-Err.stop c.in-Err.is) c.in-Ok.ensures.last in
    rw c.stop_of_feed.ensures (feed-stops g.S.Source.left g.S.Source.reads first c.rounds.reader
    c.read_parsed.new.reader c.rounds.source c.read_parsed.new.source (Resume proofs)
    (first_origin c.rounds.live.sheet) c.rounds.live.log
    (c.rounds.invariant.come proofs first come) c.in-Err.stop ways)
