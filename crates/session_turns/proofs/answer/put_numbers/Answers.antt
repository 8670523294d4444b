use Rattle.std.proofs.Common.{None}
use Rattle.answer_rows.specs.ScoreTexts.{text_of_scores}
use Rattle.command_words.specs.declared.command.Mode.TheVariants.{Scores}
use Rattle.session_turns.proofs.AnswerLemmas.{puts-answer, scores-answer}
use Rattle.session_turns.proofs.answer.put_numbers.Goals as goal

pub returns-clause-answer : goal.returns-clause-answer
returns-clause-answer g c =
    let found = c.in-Ok.found.items in
    λ saved.
    puts-answer Scores c.args.pool.now None saved _ _
    (text_of_scores c.sheet-2.result.now c.epoch.result found) c.put_scores.result
    (scores-answer c.args.pool.now found _ _ _ _ c.requires c.sheet-2.ensures.sheet
    c.sheet.ensures.sheet c.season.ensures.season c.epoch.ensures c.in-Ok.ensures.right
    saved)
    (rw c.as_slice.ensures.value at c.put_scores.ensures.text)
