use Rattle.answer_rows.specs.Rows.{ask_row}
use Rattle.answer_rows.specs.ScoreTexts.{text_of_score_items}
use Rattle.answer_rows.proofs.OutputLemmas.{front-more, puts-behind}
use Rattle.answer_rows.proofs.scores.put_scores.Goals as goal

pub returns-in-Ok-clause-text : goal.returns-in-Ok-clause-text
returns-in-Ok-clause-text g c =
    puts-behind (ask_row c.args.epoch) (text_of_score_items c.args.sheet.now c.args.scores.now)
    _ _ _ c.put_items.result c.in-Ok.ensures.text c.put_items.ensures.text

pub returns-in-Err-clause-text : goal.returns-in-Err-clause-text
returns-in-Err-clause-text g c =
    front-more (ask_row c.args.epoch) (text_of_score_items c.args.sheet.now c.args.scores.now) _ _
    c.in-Err.ensures.text
