use Rattle.answer_rows.specs.Parts.{club_name}
use Rattle.answer_rows.specs.Rows.{score_row}
use Rattle.answer_rows.specs.ScoreTexts.{trees_text}
use Rattle.answer_rows.proofs.OutputLemmas.{front-more, puts-behind}
use Rattle.answer_rows.proofs.scores.put_item.Goals as goal

pub returns-in-Ok-clause-text : goal.returns-in-Ok-clause-text
returns-in-Ok-clause-text g c =
    let found = c.args.found.now in
    puts-behind (score_row found.line (club_name c.args.sheet.now found.club) found.scores)
    (trees_text found.scores) _ _ _ c.put_trees.result
    (rw c.club_name-name.ensures at c.in-Ok.ensures.text) c.put_trees.ensures.text

pub returns-in-Err-clause-text : goal.returns-in-Err-clause-text
returns-in-Err-clause-text g c =
    let found = c.args.found.now in
    front-more (score_row found.line (club_name c.args.sheet.now found.club) found.scores)
    (trees_text found.scores) _ _ (rw c.club_name-name.ensures at c.in-Err.ensures.text)
