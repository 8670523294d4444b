-- Where asks are answered: right after the sheet, or after a saved text.
use Rattle.std.proofs.Common.{sym, ◌∙◌}
use Rattle.session_turns.proofs.OpeningLemmas.{begun-gives, begun-stops, live-opened, opened-gives}
use Rattle.session_turns.proofs.OpeningLemmas.{opened-live, opened-stops}
use Rattle.session_turns.proofs.begin.begin_feed.Goals as goal
use Rattle.run_ends.proofs.RunRoundLemmas.{turn-starved}
use Rattle.session_turns.proofs.AnsweredLemmas.{session-answered}
use Rattle.session_turns.specs.Texts.{session_kind}

pub returns-in_default-clause-way : goal.returns-in_default-clause-way
returns-in_default-clause-way g c = λ input ended old path.
    turn-starved (session_kind c.args.mode) (session-answered c.args.mode) input ended _ _ _ _ _ _
    old _ path

pub returns-in_default-clause-last : goal.returns-in_default-clause-last
returns-in_default-clause-last g c = λ first come. (c.args.reader.now, come.last)

pub resume_feed-requires-clause-live : goal.resume_feed-requires-clause-live
resume_feed-requires-clause-live g c =
    opened-live c.args.mode c.in-Ok.pool (sym c.awaits_saved.ensures ∙ c.if-awaits_saved.true)
    c.in-Ok.ensures.live

pub returns-then-awaits_saved-clause-way : goal.returns-then-awaits_saved-clause-way
returns-then-awaits_saved-clause-way g c = λ input ended old path.
    opened-gives c.args.mode input ended _ _ _ _ old _ _ c.args.sheet c.in-Ok.pool
    c.resume_feed.result (sym c.awaits_saved.ensures ∙ c.if-awaits_saved.true)
    c.in-Ok.ensures.sheet c.in-Ok.ensures.log _ _ _
    (λ proofs from. c.resume_feed.ensures.way proofs input ended old from) path

pub returns-then-awaits_saved-clause-last : goal.returns-then-awaits_saved-clause-last
returns-then-awaits_saved-clause-last g c = λ first come.
    opened-stops g.S.Source.left g.S.Source.reads c.args.mode first c.args.reader.now
    c.resume_feed.new.reader c.args.source.now c.resume_feed.new.source c.args.sheet
    c.in-Ok.pool c.resume_feed.result (sym c.awaits_saved.ensures ∙ c.if-awaits_saved.true)
    c.in-Ok.ensures.sheet c.in-Ok.ensures.log
    (λ proofs from. c.resume_feed.ensures.last proofs first from) come

pub returns-then-awaits_saved-clause-live : goal.returns-then-awaits_saved-clause-live
returns-then-awaits_saved-clause-live g c =
    live-opened c.args.mode c.resume_feed.result
    (sym c.awaits_saved.ensures ∙ c.if-awaits_saved.true) c.resume_feed.ensures.live

pub returns-clause-way : goal.returns-clause-way
returns-clause-way g c = λ input ended old path.
    begun-gives c.args.mode input ended _ _ _ (g.S.Source.left c.args.source.now) old _
    c.args.sheet c.in-Ok.pool
    (sym c.awaits_saved.ensures ∙ c.if-awaits_saved.false) c.in-Ok.ensures.sheet
    c.in-Ok.ensures.log path

pub returns-clause-last : goal.returns-clause-last
returns-clause-last g c = λ first come.
    begun-stops g.S.Source.left g.S.Source.reads c.args.mode first c.args.reader.now
    c.args.source.now c.args.sheet c.in-Ok.pool
    (sym c.awaits_saved.ensures ∙ c.if-awaits_saved.false) c.in-Ok.ensures.sheet
    c.in-Ok.ensures.log come
