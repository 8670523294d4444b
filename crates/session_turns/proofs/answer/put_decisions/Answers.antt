use Rattle.std.proofs.Common.{None}
use Rattle.command_words.specs.declared.command.Mode.TheVariants.{Decide}
use Rattle.wide_lines.specs.WideTexts.{text_of_wide_line}
use Rattle.answer_rows.specs.inside.Verdicts.{text_of_verdicts}
use Rattle.session_turns.proofs.AnswerLemmas.{decided-answer, puts-answer}
use Rattle.session_turns.proofs.answer.put_decisions.Goals as goal

pub returns-clause-answer : goal.returns-clause-answer
returns-clause-answer g c =
    let all = c.in-Ok.all.items in
    λ saved.
    puts-answer (Decide c.args.proofs) c.args.pool.now None saved _ _
    (text_of_verdicts text_of_wide_line c.args.proofs c.sheet-2.result.now c.epoch.result all)
    c.put_verdicts.result
    (decided-answer c.args.proofs c.args.pool.now all _ _ _ _ c.requires c.sheet-2.ensures.sheet
    c.sheet.ensures.sheet c.season.ensures.season c.epoch.ensures c.in-Ok.ensures.answer
    saved)
    (rw c.as_slice.ensures.value at c.put_verdicts.ensures.text)
