use Rattle.std.proofs.Common.{sym, ◌∙◌}
use Rattle.futmax_main.proofs.session.run_rounds.Goals as goal
use Rattle.run_ends.proofs.RunRoundLemmas.{turn-starved}
use Rattle.session_turns.proofs.AnsweredLemmas.{session-answered}
use Rattle.session_turns.specs.Texts.{session_kind}

pub returns-in_default-clause-serves : goal.returns-in_default-clause-serves
returns-in_default-clause-serves g c = λ input ended old path.
    turn-starved (session_kind c.args.setup.now.mode)
    (session-answered c.args.setup.now.mode) input ended _ _ _ _ _ _ old _ path.2

pub returns-in_default-clause-last : goal.returns-in_default-clause-last
returns-in_default-clause-last g c = λ first come. (c.args.reader.now, come.2.last)

pub returns-in-Ends-clause-serves : goal.returns-in-Ends-clause-serves
returns-in-Ends-clause-serves g c = λ input ended old path.
    c.in-Ends.ensures.way input ended old (c.rounds.invariant.2 input ended old path)

pub returns-in-Ends-clause-last : goal.returns-in-Ends-clause-last
returns-in-Ends-clause-last g c = λ first come.
    c.in-Ends.ensures.last first (c.rounds.invariant.3 first come)

pub rounds-preserved : goal.rounds-preserved
rounds-preserved g c =
    let before = c.rounds.invariant in
    let turn = c.in-GoesOn.ensures in (
      turn.goes_on.0,
      before.1 ∙ sym turn.goes_on.1,
      λ input ended old path. turn.way input ended old (before.2 input ended old path),
      λ first come. turn.last first (before.3 first come),
      turn.counts.0 ∙ before.4,
      turn.counts.1 ∙ before.5,
    )
