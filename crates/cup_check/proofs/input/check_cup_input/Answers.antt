use Rattle.std.proofs.Common.{Result, subst, sym}
use Rattle.port_core.specs.Readers.{contents_to_come}
use Rattle.port_core.proofs.TakingLemmas.{TakesInput-more}
use Rattle.cert_check.specs.inside.InputCalls.{ChecksBy, IfRead}
use Rattle.cert_check.specs.declared.outcome.CheckFailure.{CheckFailure}
use Rattle.cup_check.specs.declared.outcome.CupOutcome.{CupOutcome}
use Rattle.cup_check.specs.CupOutcomes.{cup_outcome_of}
use Rattle.cup_check.proofs.CupInputLemmas.{input-cup, input-cup_stop}
use Rattle.cup_check.proofs.input.check_cup_input.Goals as goal

pub returns-in-Ok-clause-outcome : goal.returns-in-Ok-clause-outcome
returns-in-Ok-clause-outcome g c =
    let after =
    contents_to_come c.check_cup_feed.new.reader (g.S.Source.left c.check_cup_feed.new.source) in
    let P : Result CupOutcome CheckFailure → Type 0 = λ found.
    IfRead (contents_to_come c.args.reader.now (g.S.Source.left c.args.source.now))
    (λ contents. ChecksBy cup_outcome_of contents after found) in
    subst P (sym c.judged.ensures)
    (input-cup (contents_to_come c.args.reader.now (g.S.Source.left c.args.source.now))
    (contents_to_come c.read_cup.new.reader (g.S.Source.left c.read_cup.new.source))
    after c.in-Ok.cup c.check_cup_feed.result c.in-Ok.ensures.reads
    c.check_cup_feed.ensures.outcome)

pub returns-in-Ok-clause-takes : goal.returns-in-Ok-clause-takes
returns-in-Ok-clause-takes g c =
    TakesInput-more c.args.reader.now c.read_cup.new.reader c.check_cup_feed.new.reader _ _ _
    c.read_cup.ensures.takes c.check_cup_feed.ensures.takes

pub returns-in-Err-Read-clause-outcome : goal.returns-in-Err-Read-clause-outcome
returns-in-Err-Read-clause-outcome g c =
    let answers = rw c.in-Err-Read.field-0-is at c.stopped.ensures in
    let reads = rw c.in-Err-Read.field-0-is at c.in-Err-Read.ensures.reads in
    let after = contents_to_come c.read_cup.new.reader (g.S.Source.left c.read_cup.new.source) in
    let P : Result CupOutcome CheckFailure → Type 0 = λ found.
    IfRead (contents_to_come c.args.reader.now (g.S.Source.left c.args.source.now))
    (λ contents. ChecksBy cup_outcome_of contents after found) in
    subst P (sym c.judged-in-Err-Read.ensures)
    (input-cup_stop (contents_to_come c.args.reader.now (g.S.Source.left c.args.source.now))
    after c.in-Err-Read.stop c.stopped.result answers reads)
