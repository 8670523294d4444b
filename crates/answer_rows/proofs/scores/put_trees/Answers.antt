use Rattle.cert_text.specs.ExampleLines.{text_of_proof_lines}
use Rattle.answer_rows.specs.ScoreTexts.{tree_lines}
use Rattle.answer_rows.proofs.OutputLemmas.{front-more, puts-behind}
use Rattle.answer_rows.proofs.scores.put_trees.Goals as goal

pub returns-in-Ok-clause-text : goal.returns-in-Ok-clause-text
returns-in-Ok-clause-text g c =
    let scores = c.args.scores.now in
    puts-behind (text_of_proof_lines (tree_lines scores.pqs))
    (text_of_proof_lines (tree_lines scores.gqs)) _ _ _ c.put_tree-in-Ok.result
    c.in-Ok.ensures.text c.put_tree-in-Ok.ensures.text

pub returns-in-Err-clause-text : goal.returns-in-Err-clause-text
returns-in-Err-clause-text g c =
    let scores = c.args.scores.now in
    front-more (text_of_proof_lines (tree_lines scores.pqs))
    (text_of_proof_lines (tree_lines scores.gqs)) _ _ c.in-Err.ensures.text
