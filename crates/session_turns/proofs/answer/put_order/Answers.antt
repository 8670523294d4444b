use Rattle.std.proofs.Common.{None}
use Rattle.answer_rows.specs.inside.Places.{text_of_table}
use Rattle.command_words.specs.declared.command.Mode.TheVariants.{Table}
use Rattle.session_turns.proofs.AnswerLemmas.{puts-answer, rows-answer}
use Rattle.session_turns.proofs.answer.put_order.Goals as goal

pub returns-clause-answer : goal.returns-clause-answer
returns-clause-answer g c =
    let rows = c.in-Ok.rows.items in
    λ saved.
    puts-answer Table c.args.pool.now None saved _ _
    (text_of_table c.sheet-2.result.now c.epoch.result rows) c.put_table.result
    (rows-answer c.args.pool.now rows _ _ _ _ c.requires c.sheet-2.ensures.sheet
    c.sheet.ensures.sheet c.season.ensures.season c.epoch.ensures c.in-Ok.ensures saved)
    (rw c.as_slice.ensures.value at c.put_table.ensures.text)
