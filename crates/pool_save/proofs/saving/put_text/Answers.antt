use Rattle.cert_text.specs.Rows.{text_of_row}
use Rattle.answer_rows.proofs.OutputLemmas.{front-more, puts-behind}
use Rattle.pool_save.specs.SavedTexts.{end_fields}
use Rattle.pool_save.specs.inside.WrittenPools.{items_of_seats}
use Rattle.pool_save.proofs.saving.put_text.Goals as goal

pub returns-in-Ok-clause-text : goal.returns-in-Ok-clause-text
returns-in-Ok-clause-text g c =
    puts-behind (items_of_seats c.args.pool.now.sheet c.args.pool.now.seats)
    (text_of_row end_fields) _ _ _ c.put_end.result c.in-Ok.ensures.text c.put_end.ensures.text

pub returns-in-Err-clause-text : goal.returns-in-Err-clause-text
returns-in-Err-clause-text g c =
    front-more (items_of_seats c.args.pool.now.sheet c.args.pool.now.seats)
    (text_of_row end_fields) _ _ c.in-Err.ensures.text
