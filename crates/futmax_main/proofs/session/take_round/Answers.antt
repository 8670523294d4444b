use Rattle.run_ends.specs.declared.status.Status.TheVariants.{OutOfMemory}
use Rattle.session_turns.proofs.CloseLemmas.{close-counts, close-gives, close-goes_on, close-last}
use Rattle.session_turns.proofs.CloseLemmas.{starved-last}
use Rattle.futmax_main.proofs.session.take_round.Goals as goal
use Rattle.run_ends.proofs.RunRoundLemmas.{turn-starved}
use Rattle.session_turns.proofs.AnsweredLemmas.{session-answered}
use Rattle.session_turns.specs.Texts.{session_kind}

pub returns-in-Ok-clause-way : goal.returns-in-Ok-clause-way
returns-in-Ok-clause-way g c = λ input ended old path.
    close-gives c.args.setup.now.mode input ended c.args.pool c.in-Ok.field-0.pool
    c.in-Ok.field-0.about _ _ old _ _ path c.in-Ok.field-0.end c.close_round.result
    c.in-Ok.ensures.ok.ends c.in-Ok.ensures.ok.sheet c.in-Ok.ensures.ok.reported
    c.in-Ok.ensures.ok.about c.close_round.ensures.gives

pub returns-in-Ok-clause-last : goal.returns-in-Ok-clause-last
returns-in-Ok-clause-last g c = λ first come.
    close-last g.S.Source.left g.S.Source.reads first c.args.reader.now c.next_round.new.reader
    c.args.source.now c.next_round.new.source c.args.setup.now.mode c.args.pool come
    c.in-Ok.field-0.pool c.in-Ok.field-0.about c.in-Ok.field-0.end _ _
    c.close_round.result _ _ _ _ c.in-Ok.ensures.ok.ends c.in-Ok.ensures.ok.last
    c.in-Ok.ensures.ok.sheet c.in-Ok.ensures.ok.reported c.close_round.ensures.gives

pub returns-in-Ok-clause-goes_on : goal.returns-in-Ok-clause-goes_on
returns-in-Ok-clause-goes_on g c =
    close-goes_on c.args.setup.now.mode c.in-Ok.field-0.pool c.in-Ok.field-0.about
    c.in-Ok.field-0.end _ _
    c.close_round.result c.args.reader.now c.next_round.new.reader c.args.pool.sheet
    c.in-Ok.ensures.ok.sheet c.in-Ok.ensures.ok.ends.moves c.close_round.ensures.live
    c.close_round.ensures.gives

pub returns-in-Ok-clause-counts : goal.returns-in-Ok-clause-counts
returns-in-Ok-clause-counts g c =
    close-counts _ _ _ _ c.in-Ok.field-0.end c.close_round.result c.in-Ok.ensures.ok.ends.cause
    c.close_round.ensures.counts

pub returns-in-Err-clause-way : goal.returns-in-Err-clause-way
returns-in-Err-clause-way g c = λ input ended old path.
    turn-starved (session_kind c.args.setup.now.mode)
    (session-answered c.args.setup.now.mode) input ended _ _ _ _ _ _ old _ path.2

pub returns-in-Err-clause-last : goal.returns-in-Err-clause-last
returns-in-Err-clause-last g c = λ first come.
    starved-last g.S.Source.left g.S.Source.reads first c.args.reader.now
    c.next_round.new.reader c.args.source.now c.next_round.new.source c.args.setup.now.mode
    c.args.pool come c.in-Err.ensures.err.last OutOfMemory
