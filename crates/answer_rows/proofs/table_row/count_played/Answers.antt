use Rattle.std.proofs.Common.{◌∙◌, ◌+◌, ap, arith, length}
use Rattle.answer_rows.proofs.TableLemmas.{count-step}
use Rattle.answer_rows.proofs.table_row.count_played.Goals as goal

pub loop-i-preserved : goal.loop-i-preserved
loop-i-preserved c =
    let counted = rw (c.as_slice-matches.ensures, c.scores-scores.ensures.scores)
    at c.count_if_played-count.ensures.value in (
      ap (λ n. c.loop-i.count + n) counted
          ∙ count-step c.args.club c.loop-i.count c.args.sheet.now.fixtures
          c.args.season.now.scores _ c.loop-i.i
          (omega (arith, ap length c.as_slice-matches.ensures)) c.requires.of_sheet
          c.loop-i.invariant.0,
      omega (arith, c.loop-i.invariant.1, c.count_if_played-count.ensures.within),
    )
