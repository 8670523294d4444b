use Rattle.answer_rows.specs.Rows.{ask_row}
use Rattle.answer_rows.specs.inside.Places.{text_of_places}
use Rattle.answer_rows.proofs.OutputLemmas.{front-more, puts-behind}
use Rattle.answer_rows.proofs.places.put_table.Goals as goal

pub returns-in-Ok-clause-text : goal.returns-in-Ok-clause-text
returns-in-Ok-clause-text g c =
    puts-behind (ask_row c.args.epoch) (text_of_places c.args.sheet.now c.args.rows.now) _ _ _
    c.put_places.result c.in-Ok.ensures.text c.put_places.ensures.text

pub returns-in-Err-clause-text : goal.returns-in-Err-clause-text
returns-in-Err-clause-text g c =
    front-more (ask_row c.args.epoch) (text_of_places c.args.sheet.now c.args.rows.now) _ _
    c.in-Err.ensures.text
