use Rattle.std.proofs.Common.{◌∙◌, arith}
use Rattle.answer_rows.proofs.OutputLemmas.{due-more, due-front, text-next}
use Rattle.answer_rows.specs.ScoreTexts.{score_item}
use Rattle.answer_rows.proofs.scores.put_items.Goals as goal

pub loop-found-preserved : goal.loop-found-preserved
loop-found-preserved g c =
    let all = c.args.scores.now in
    let i = c.loop-found.found-index in (
      due-more _ _ _ _ _ _ _ c.loop-found.invariant.0
          (text-next (score_item c.args.sheet.now) all i _ c.found-item.result (omega arith)
          c.found-item.is)
          c.in-Ok.ensures.text,
      c.in-Ok.ensures.counts ∙ c.loop-found.invariant.1,
    )

pub returns-in-Err-clause-text : goal.returns-in-Err-clause-text
returns-in-Err-clause-text g c =
    let all = c.args.scores.now in
    let i = c.loop-found.found-index in
    due-front _ _ _ _ _ _ _ c.loop-found.invariant.0
    (text-next (score_item c.args.sheet.now) all i _ c.found-item.result (omega arith)
    c.found-item.is) c.in-Err.ensures.text
