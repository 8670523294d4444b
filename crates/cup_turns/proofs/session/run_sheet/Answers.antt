use Rattle.cup_turns.proofs.CupAnsweredLemmas.{cup-answered}
use Rattle.cup_turns.proofs.CupBeginLemmas.{cup-come, cup-comes, cup-counts, cup-last, cup-refuses}
use Rattle.cup_turns.proofs.session.run_sheet.Goals as goal

pub returns-in-Ok-clause-serves : goal.returns-in-Ok-clause-serves
returns-in-Ok-clause-serves g c =
    let IsAnswer = g.A.CupAnswers.answers c.args.answers.now in
    let answered = cup-answered IsAnswer (g.met.A.CupAnswers.answered c.args.answers.now) in
    c.run_feed.ensures.serves (g.S.Source.left c.args.source.now)
    (g.S.Source.ended c.args.source.now) (g.K.Sink.holds c.args.sink.now)
    (cup-comes IsAnswer answered c.args.reader.now c.read_cup.new.reader
    (g.S.Source.left c.args.source.now) (g.S.Source.left c.read_cup.new.source) _ _ c.requires
    c.in-Ok.cup _ c.in-Ok.ensures.reads c.in-Ok.ensures.passes)

pub returns-in-Err-clause-serves : goal.returns-in-Err-clause-serves
returns-in-Err-clause-serves g c =
    let IsAnswer = g.A.CupAnswers.answers c.args.answers.now in
    let answered = cup-answered IsAnswer (g.met.A.CupAnswers.answered c.args.answers.now) in
    cup-refuses IsAnswer answered c.args.reader.now c.read_cup.new.reader
    (g.S.Source.left c.args.source.now) (g.S.Source.left c.read_cup.new.source) _ _ c.requires
    c.in-Err.stop _ _ c.end_at_stop.result c.in-Err.ensures.reads c.in-Err.ensures.passes
    c.in-Err.ensures.leaves (rw c.stop_of_cup.ensures at c.end_at_stop.ensures.ends)

pub returns-in-Ok-clause-last : goal.returns-in-Ok-clause-last
returns-in-Ok-clause-last g c =
    c.run_feed.ensures.last c.args.source.now
    (cup-come g.S.Source.left g.S.Source.reads c.args.reader.now c.read_cup.new.reader
    c.args.source.now c.read_cup.new.source c.requires _ _ _ c.in-Ok.cup
    c.read_cup.ensures.takes c.in-Ok.ensures.passes.1 c.in-Ok.ensures.reads c.in-Ok.ensures.last)

pub returns-in-Ok-clause-counts : goal.returns-in-Ok-clause-counts
returns-in-Ok-clause-counts g c = rw c.in-Ok.ensures.cause at c.run_feed.ensures.counts

pub returns-in-Err-clause-last : goal.returns-in-Err-clause-last
returns-in-Err-clause-last g c =
    cup-last g.S.Source.left g.S.Source.reads c.args.reader.now c.read_cup.new.reader
    c.args.source.now c.read_cup.new.source c.requires c.in-Err.stop _ _ c.end_at_stop.result
    c.in-Err.ensures.last (rw c.stop_of_cup.ensures at c.end_at_stop.ensures.ends)

pub returns-in-Err-clause-counts : goal.returns-in-Err-clause-counts
returns-in-Err-clause-counts g c =
    (cup-counts _ _ _ _ c.in-Err.stop c.end_at_stop.result c.in-Err.ensures.cause
    (rw c.stop_of_cup.ensures at c.end_at_stop.ensures.counts)).0

pub returns-in-Err-clause-status : goal.returns-in-Err-clause-status
returns-in-Err-clause-status g c =
    (cup-counts _ _ _ _ c.in-Err.stop c.end_at_stop.result c.in-Err.ensures.cause
    (rw c.stop_of_cup.ensures at c.end_at_stop.ensures.counts)).1
