use Rattle.answer_rows.specs.Parts.{club_name}
use Rattle.answer_rows.specs.Rows.{text_of_lines, verdict_row}
use Rattle.answer_rows.specs.inside.ItemRanges.{lines_shown}
use Rattle.answer_rows.proofs.OutputLemmas.{front-more, puts-behind}
use Rattle.answer_rows.proofs.verdicts.put_item.Goals as goal

pub returns-in-Ok-clause-text : goal.returns-in-Ok-clause-text
returns-in-Ok-clause-text g c =
    let verdict = c.args.verdict.now in
    puts-behind (verdict_row verdict.line (club_name c.args.sheet.now verdict.club) verdict.word)
    (text_of_lines g.L.LineText.text (lines_shown c.args.proofs verdict.word verdict.proof.items))
    _ _ _ c.put_shown.result (rw c.club_name-name.ensures at c.in-Ok.ensures.text)
    c.put_shown.ensures.text

pub returns-in-Err-clause-text : goal.returns-in-Err-clause-text
returns-in-Err-clause-text g c =
    let verdict = c.args.verdict.now in
    front-more (verdict_row verdict.line (club_name c.args.sheet.now verdict.club) verdict.word)
    (text_of_lines g.L.LineText.text (lines_shown c.args.proofs verdict.word verdict.proof.items))
    _ _ (rw c.club_name-name.ensures at c.in-Err.ensures.text)
