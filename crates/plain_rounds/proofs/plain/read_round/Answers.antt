-- A round of entries, as what it is.
use Rattle.std.proofs.Common.{Ok, false, refl}
use Rattle.fixture_sheet.specs.LastReads.{ReadsOnWay}
use Rattle.result_log.specs.declared.entry.Entry.TheVariants.{End}
use Rattle.result_log.specs.inside.LastReads.{GivesEvents, StopsAtClose}
use Rattle.result_log.specs.inside.Rounds.{BreaksOff, EndsRound, spot_of}
use Rattle.plain_rounds.proofs.FeedingLemmas.{as-rounds, no-proofs}
use Rattle.plain_rounds.proofs.plain.read_round.Goals as goal
use Rattle.league_core.proofs.plain.Options.{err-holds}

pub end_of-end-requires-clause-proofs : goal.end_of-end-requires-clause-proofs
end_of-end-requires-clause-proofs g c =
    let round = c.in_ok-round.round in
    no-proofs round.pool.sheet round.pool.season round.pool.log c.read_parsed.new.reader.text
    round.last c.in_ok-round.ensures.season c.in_ok-round.ensures.there

pub returns-clause-ends : goal.returns-clause-ends
returns-clause-ends g c =
    let round = c.in_ok-round.round in
    as-rounds false (λ live close. EndsRound live c.args.pool.log round.pool.log
    (spot_of c.args.reader.now (g.S.Source.left c.args.source.now)
    (g.S.Source.ended c.args.source.now) (g.S.Source.faults c.args.source.now))
    (spot_of c.read_parsed.new.reader (g.S.Source.left c.read_parsed.new.source)
    (g.S.Source.ended c.read_parsed.new.source) (g.S.Source.faults c.read_parsed.new.source)) close)
    c.args.pool.sheet _ round.last c.end_of-end.ensures c.in_ok-round.ensures.ends

pub returns-clause-last : goal.returns-clause-last
returns-clause-last g c =
    as-rounds false (λ live close. StopsAtClose g.S.Source.left g.S.Source.reads live
    c.args.pool.log
    c.args.reader.now c.read_parsed.new.reader c.args.source.now c.read_parsed.new.source close)
    c.args.pool.sheet _ c.in_ok-round.round.last c.end_of-end.ensures c.in_ok-round.ensures.last

pub returns-in_err-round-clause-err : goal.returns-in_err-round-clause-err
returns-in_err-round-clause-err g c =
    err-holds c.from_residual.result _ (as-rounds false (λ live close. BreaksOff live
    c.args.pool.log
    (spot_of c.args.reader.now (g.S.Source.left c.args.source.now)
    (g.S.Source.ended c.args.source.now) (g.S.Source.faults c.args.source.now))
    (spot_of c.read_parsed.new.reader (g.S.Source.left c.read_parsed.new.source)
    (g.S.Source.ended c.read_parsed.new.source) (g.S.Source.faults c.read_parsed.new.source)))
    c.args.pool.sheet (Ok End) (Ok End) refl c.in_err-round.ensures.err)

pub returns-in_err-round-clause-err_last : goal.returns-in_err-round-clause-err_last
returns-in_err-round-clause-err_last g c =
    err-holds c.from_residual.result _ (as-rounds false (λ live close. ReadsOnWay g.S.Source.left
    g.S.Source.reads (GivesEvents live c.args.pool.log) c.args.reader.now c.read_parsed.new.reader
    c.args.source.now c.read_parsed.new.source)
    c.args.pool.sheet (Ok End) (Ok End) refl c.in_err-round.ensures.err_last)
