use Rattle.std.proofs.Common.{◌∙◌, arith}
use Rattle.answer_rows.proofs.RowItemLemmas.{line_added}
use Rattle.answer_rows.specs.Items.{answer_row}
use Rattle.decide_run.specs.inside.WideParts.{IsRightDecided}
use Rattle.decide_run.proofs.answer.decide_lines.Goals as goal

pub loop-line-preserved : goal.loop-line-preserved
loop-line-preserved c =
    let played = c.args.played.now in (
      line_added answer_row (IsRightDecided played.sheet played.season) _
          c.as_slice-line-items.result.now c.loop-line.line-index _ c.loop-line.found.items
          c.push_line.new.found.items (omega arith) c.loop-line.invariant.0
          c.in_ok-push_line.ensures.adds,
      c.in_ok-push_line.ensures.same_sheet ∙ c.loop-line.invariant.1,
      c.in_ok-push_line.ensures.same_season ∙ c.loop-line.invariant.2,
    )
