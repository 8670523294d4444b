use Rattle.std.proofs.Common.{◌∙◌, sym, subst}
use Rattle.std.proofs.lemmas.Option.{same_Some}
use Rattle.std.proofs.lemmas.Result.{IfOk-weaker}
use Rattle.branch_pool.specs.declared.question_state.QuestionState.{QuestionState}
use Rattle.verdict_run.specs.inside.Kept.{IsFoundIfRefuted}
use Rattle.verdict_run.proofs.PartLemmas.{done_at, refuted_there, some_weaker}
use Rattle.verdict_run.proofs.part.refuted_at.Goals as goal

pub refuted_seat-requires : goal.refuted_seat-requires
refuted_seat-requires c =
    done_at c.args.pool.now c.args.place c.seat.result.now c.sheet.result.now c.season.result.now
    c.recall_invariant.ensures.sound c.requires.settled c.seat.ensures.seat c.sheet.ensures.sheet
    c.season.ensures.season

pub returns-clause-part : goal.returns-clause-part
returns-clause-part c =
    IfOk-weaker c.refuted_seat.result _ _
    (λ found. some_weaker found _ _ (λ part. refuted_there c.args.pool.now c.args.place
    c.seat.result.now c.sheet.result.now c.season.result.now part c.recall_invariant.ensures.sound
    c.seat.ensures.seat c.sheet.ensures.sheet c.season.ensures.season)) c.refuted_seat.ensures.part

pub returns-clause-of_pool : goal.returns-clause-of_pool
returns-clause-of_pool c =
    IfOk-weaker c.refuted_seat.result _ _
    (λ found fact seat there. subst (λ (s : QuestionState). IsFoundIfRefuted s found)
    (same_Some c.seat.result.now seat (sym c.seat.ensures.seat ∙ there)) fact)
    c.refuted_seat.ensures.of_seat
