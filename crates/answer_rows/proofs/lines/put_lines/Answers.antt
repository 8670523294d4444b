use Rattle.std.proofs.Common.{◌∙◌, arith}
use Rattle.answer_rows.proofs.OutputLemmas.{due-more, due-front, text-next}
use Rattle.answer_rows.specs.Rows.{line_row}
use Rattle.answer_rows.proofs.lines.put_lines.Goals as goal

pub loop-line-preserved : goal.loop-line-preserved
loop-line-preserved g c =
    let all = c.args.lines.now in
    let i = c.loop-line.line-index in (
      due-more _ _ _ _ _ _ _ c.loop-line.invariant.0
          (text-next (line_row g.L.LineText.text) all i _ c.line-item.result (omega arith)
          c.line-item.is)
          c.in-Ok.ensures.text,
      c.in-Ok.ensures.counts ∙ c.loop-line.invariant.1,
    )

pub returns-in-Err-clause-text : goal.returns-in-Err-clause-text
returns-in-Err-clause-text g c =
    let all = c.args.lines.now in
    let i = c.loop-line.line-index in
    due-front _ _ _ _ _ _ _ c.loop-line.invariant.0
    (text-next (line_row g.L.LineText.text) all i _ c.line-item.result (omega arith) c.line-item.is)
    c.in-Err.ensures.text
