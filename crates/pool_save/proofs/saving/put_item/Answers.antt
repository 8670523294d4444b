use Rattle.cert_text.specs.TreeLines.{marked_lines}
use Rattle.cert_text.specs.ExampleLines.{text_of_proof_lines}
use Rattle.answer_rows.proofs.OutputLemmas.{front-more, puts-behind}
use Rattle.pool_save.specs.SavedItems.{item_row}
use Rattle.pool_save.proofs.saving.put_item.Goals as goal

pub returns-in-Ok-clause-text : goal.returns-in-Ok-clause-text
returns-in-Ok-clause-text g c =
    puts-behind (item_row c.args.sheet.now c.args.seat.now.question)
    (text_of_proof_lines (marked_lines c.args.seat.now.tree)) _ _ _ c.put_tree.result
    c.in-Ok.ensures.text c.put_tree.ensures.text

pub returns-in-Err-clause-text : goal.returns-in-Err-clause-text
returns-in-Err-clause-text g c =
    front-more (item_row c.args.sheet.now c.args.seat.now.question)
    (text_of_proof_lines (marked_lines c.args.seat.now.tree)) _ _ c.in-Err.ensures.text
