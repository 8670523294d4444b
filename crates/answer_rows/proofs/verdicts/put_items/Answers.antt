use Rattle.std.proofs.Common.{◌∙◌, arith}
use Rattle.answer_rows.proofs.OutputLemmas.{due-more, due-front, text-next}
use Rattle.answer_rows.specs.inside.Verdicts.{item_text}
use Rattle.answer_rows.proofs.verdicts.put_items.Goals as goal

pub loop-verdict-preserved : goal.loop-verdict-preserved
loop-verdict-preserved g c =
    let all = c.args.verdicts.now in
    let i = c.loop-verdict.verdict-index in (
      due-more _ _ _ _ _ _ _ c.loop-verdict.invariant.0
          (text-next (item_text g.L.LineText.text c.args.proofs c.args.sheet.now)
          all i _ c.verdict-item.result (omega arith) c.verdict-item.is)
          c.in-Ok.ensures.text,
      c.in-Ok.ensures.counts ∙ c.loop-verdict.invariant.1,
    )

pub returns-in-Err-clause-text : goal.returns-in-Err-clause-text
returns-in-Err-clause-text g c =
    let all = c.args.verdicts.now in
    let i = c.loop-verdict.verdict-index in
    due-front _ _ _ _ _ _ _ c.loop-verdict.invariant.0
    (text-next (item_text g.L.LineText.text c.args.proofs c.args.sheet.now)
    all i _ c.verdict-item.result (omega arith) c.verdict-item.is) c.in-Err.ensures.text
