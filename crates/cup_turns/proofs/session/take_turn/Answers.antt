use Rattle.std.proofs.Common.{Ok, Err}
use Rattle.result_log.specs.declared.entry.Entry.TheVariants.{Ask, End}
use Rattle.run_ends.specs.declared.status.Status.TheVariants.{Done}
use Rattle.cup_sheet.specs.CupFeeds.{joint_sheet}
use Rattle.run_ends.proofs.RunEndLemmas.{counts-feed}
use Rattle.cup_turns.proofs.CupAnsweredLemmas.{cup-answered}
use Rattle.cup_turns.proofs.CupRoundLemmas.{joint-clubs, joint-fixtures, round-as}
use Rattle.cup_turns.proofs.CupTurnLemmas.{ask-gives, ask-stops, asked-counts, end-gives, end-stops}
use Rattle.cup_turns.proofs.CupTurnLemmas.{stop-gives, stop-stops}
use Rattle.cup_turns.proofs.session.take_turn.Goals as goal

pub read_on-requires-clause-clubs : goal.read_on-requires-clause-clubs
read_on-requires-clause-clubs g c =
    joint-clubs c.args.run.now.cup.now c.args.run.now.sheet.now c.requires.cup c.requires.of_cup

pub read_on-requires-clause-numbers : goal.read_on-requires-clause-numbers
read_on-requires-clause-numbers g c =
    joint-fixtures c.args.run.now.cup.now c.args.run.now.sheet.now c.requires.cup c.requires.of_cup

pub returns-in-Ok-Ask-clause-way : goal.returns-in-Ok-Ask-clause-way
returns-in-Ok-Ask-clause-way g c = λ input ended old path.
    let IsAnswer = g.A.CupAnswers.answers c.args.run.now.answers.now in
    ask-gives g.S.Source.left g.S.Source.ended g.S.Source.faults g.S.Source.reads IsAnswer
    (cup-answered IsAnswer (g.met.A.CupAnswers.answered c.args.run.now.answers.now))
    c.args.run.now.cup.now c.args.so_far.now c.read_on.new.so_far c.args.reader.now
    c.read_on.new.reader c.args.source.now c.read_on.new.source
    (round-as g.S.Source.left g.S.Source.ended g.S.Source.faults g.S.Source.reads
    c.args.run.now.sheet.now (joint_sheet c.args.run.now.cup.now) c.args.so_far.now
    c.read_on.new.so_far c.args.reader.now c.read_on.new.reader c.args.source.now
    c.read_on.new.source (Ok Ask) c.requires.of_cup (rw c.in-Ok-Ask.field-0-is at
    c.in-Ok-Ask.ensures.round))
    input ended old _ _ c.put_ask.result c.put_ask.ensures.answer path

pub returns-in-Ok-Ask-clause-last : goal.returns-in-Ok-Ask-clause-last
returns-in-Ok-Ask-clause-last g c = λ first come.
    let IsAnswer = g.A.CupAnswers.answers c.args.run.now.answers.now in
    ask-stops g.S.Source.left g.S.Source.ended g.S.Source.faults g.S.Source.reads IsAnswer
    (cup-answered IsAnswer (g.met.A.CupAnswers.answered c.args.run.now.answers.now))
    c.args.run.now.cup.now c.args.so_far.now c.read_on.new.so_far c.args.reader.now
    c.read_on.new.reader c.args.source.now c.read_on.new.source
    (round-as g.S.Source.left g.S.Source.ended g.S.Source.faults g.S.Source.reads
    c.args.run.now.sheet.now (joint_sheet c.args.run.now.cup.now) c.args.so_far.now
    c.read_on.new.so_far c.args.reader.now c.read_on.new.reader c.args.source.now
    c.read_on.new.source (Ok Ask) c.requires.of_cup (rw c.in-Ok-Ask.field-0-is at
    c.in-Ok-Ask.ensures.round))
    first c.put_ask.result come

pub returns-in-Ok-Ask-clause-counts : goal.returns-in-Ok-Ask-clause-counts
returns-in-Ok-Ask-clause-counts g c =
    asked-counts _ _ _ _ c.put_ask.result (rw c.in-Ok-Ask.field-0-is at c.in-Ok-Ask.ensures.cause)
    c.put_ask.ensures.counts

pub returns-in-Ok-End-clause-way : goal.returns-in-Ok-End-clause-way
returns-in-Ok-End-clause-way g c = λ input ended old path.
    let IsAnswer = g.A.CupAnswers.answers c.args.run.now.answers.now in
    end-gives g.S.Source.left g.S.Source.ended g.S.Source.faults g.S.Source.reads IsAnswer
    (cup-answered IsAnswer (g.met.A.CupAnswers.answered c.args.run.now.answers.now))
    c.args.run.now.cup.now c.args.so_far.now c.read_on.new.so_far c.args.reader.now
    c.read_on.new.reader c.args.source.now c.read_on.new.source
    (round-as g.S.Source.left g.S.Source.ended g.S.Source.faults g.S.Source.reads
    c.args.run.now.sheet.now (joint_sheet c.args.run.now.cup.now) c.args.so_far.now
    c.read_on.new.so_far c.args.reader.now c.read_on.new.reader c.args.source.now
    c.read_on.new.source (Ok End) c.requires.of_cup (rw c.in-Ok-End.field-0-is at
    c.in-Ok-End.ensures.round))
    input ended old _ path

pub returns-in-Ok-End-clause-last : goal.returns-in-Ok-End-clause-last
returns-in-Ok-End-clause-last g c = λ first come.
    let IsAnswer = g.A.CupAnswers.answers c.args.run.now.answers.now in
    end-stops g.S.Source.left g.S.Source.ended g.S.Source.faults g.S.Source.reads IsAnswer
    (cup-answered IsAnswer (g.met.A.CupAnswers.answered c.args.run.now.answers.now))
    c.args.run.now.cup.now c.args.so_far.now c.read_on.new.so_far c.args.reader.now
    c.read_on.new.reader c.args.source.now c.read_on.new.source
    (round-as g.S.Source.left g.S.Source.ended g.S.Source.faults g.S.Source.reads
    c.args.run.now.sheet.now (joint_sheet c.args.run.now.cup.now) c.args.so_far.now
    c.read_on.new.so_far c.args.reader.now c.read_on.new.reader c.args.source.now
    c.read_on.new.source (Ok End) c.requires.of_cup (rw c.in-Ok-End.field-0-is at
    c.in-Ok-End.ensures.round))
    first Done come

pub returns-in-Err-clause-way : goal.returns-in-Err-clause-way
returns-in-Err-clause-way g c = λ input ended old path.
    let IsAnswer = g.A.CupAnswers.answers c.args.run.now.answers.now in
    stop-gives g.S.Source.left g.S.Source.ended g.S.Source.faults g.S.Source.reads IsAnswer
    (cup-answered IsAnswer (g.met.A.CupAnswers.answered c.args.run.now.answers.now))
    c.args.run.now.cup.now c.args.so_far.now c.read_on.new.so_far c.args.reader.now
    c.read_on.new.reader c.args.source.now c.read_on.new.source c.in-Err.stop
    (round-as g.S.Source.left g.S.Source.ended g.S.Source.faults g.S.Source.reads
    c.args.run.now.sheet.now (joint_sheet c.args.run.now.cup.now) c.args.so_far.now
    c.read_on.new.so_far c.args.reader.now c.read_on.new.reader c.args.source.now
    c.read_on.new.source (Err c.in-Err.stop) c.requires.of_cup c.in-Err.ensures.round)
    input ended old _ _ c.end_at_stop.result path
    (rw c.stop_of_feed.ensures at c.end_at_stop.ensures.ends)

pub returns-in-Err-clause-last : goal.returns-in-Err-clause-last
returns-in-Err-clause-last g c = λ first come.
    let IsAnswer = g.A.CupAnswers.answers c.args.run.now.answers.now in
    stop-stops g.S.Source.left g.S.Source.ended g.S.Source.faults g.S.Source.reads IsAnswer
    (cup-answered IsAnswer (g.met.A.CupAnswers.answered c.args.run.now.answers.now))
    c.args.run.now.cup.now c.args.so_far.now c.read_on.new.so_far c.args.reader.now
    c.read_on.new.reader c.args.source.now c.read_on.new.source c.in-Err.stop
    (round-as g.S.Source.left g.S.Source.ended g.S.Source.faults g.S.Source.reads
    c.args.run.now.sheet.now (joint_sheet c.args.run.now.cup.now) c.args.so_far.now
    c.read_on.new.so_far c.args.reader.now c.read_on.new.reader c.args.source.now
    c.read_on.new.source (Err c.in-Err.stop) c.requires.of_cup c.in-Err.ensures.round)
    first _ _ c.end_at_stop.result come
    (rw c.stop_of_feed.ensures at c.end_at_stop.ensures.ends)

pub returns-in-Err-clause-counts : goal.returns-in-Err-clause-counts
returns-in-Err-clause-counts g c =
    counts-feed _ _ _ _ c.in-Err.stop c.end_at_stop.result c.in-Err.ensures.cause
    (rw c.stop_of_feed.ensures at c.end_at_stop.ensures.counts)
