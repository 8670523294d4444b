use Rattle.std.proofs.Common.{inl, refl}
use Rattle.futmax_main.proofs.session.run_session.Goals as goal
use Rattle.run_ends.proofs.RunEndLemmas.{serves-nothing}
use Rattle.run_ends.specs.LastReads.{fresh_reader}
use Rattle.session_turns.proofs.AnsweredLemmas.{session-answered}
use Rattle.session_turns.specs.Texts.{session_kind}

pub returns-in_default-clause-serves : goal.returns-in_default-clause-serves
returns-in_default-clause-serves g c = serves-nothing (session_kind c.args.setup.now.mode)
    (session-answered c.args.setup.now.mode) _ _ _ _

pub returns-in_default-clause-last : goal.returns-in_default-clause-last
returns-in_default-clause-last g c = (fresh_reader, inl (refl, refl))

pub returns-in-GoesOn-clause-serves : goal.returns-in-GoesOn-clause-serves
returns-in-GoesOn-clause-serves g c =
    c.run_rounds.ensures.serves (g.S.Source.left c.args.source.now)
    (g.S.Source.ended c.args.source.now) (g.K.Sink.holds c.args.sink.now) c.in-GoesOn.ensures.way

pub returns-in-GoesOn-clause-last : goal.returns-in-GoesOn-clause-last
returns-in-GoesOn-clause-last g c =
    c.run_rounds.ensures.last c.args.source.now c.in-GoesOn.ensures.last
