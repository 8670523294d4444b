use Rattle.futmax_main.proofs.ModeLemmas.{session-ends, session-reads, session-serves}
use Rattle.futmax_main.proofs.ModeLemmas.{session-stops}
use Rattle.futmax_main.proofs.command.run_mode.Goals as goal

pub returns-in-Verdicts : goal.returns-in-Verdicts
returns-in-Verdicts g c = record {
  serves = session-serves c.args.setup.now.mode _ _ _ _ _ c.run_session.result c.in-Verdicts.is
      c.run_session.ensures.serves;
  last = session-stops g.S.Source.left g.S.Source.reads c.args.setup.now.mode
      c.args.source.now _ c.run_session.result c.in-Verdicts.is c.run_session.ensures.last;
  counts = c.run_session.ensures.counts;
  status = session-ends c.args.setup.now.mode c.run_session.result c.in-Verdicts.is
      c.run_session.ensures.status;
  unread = λ none. absurd (session-reads c.args.setup.now.mode c.in-Verdicts.is none);
}
