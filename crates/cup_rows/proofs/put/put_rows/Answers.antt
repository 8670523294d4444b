use Rattle.cup_rows.proofs.CupPutLemmas.{rows_put, rows_front}
use Rattle.cup_rows.proofs.put.put_rows.Goals as goal

pub returns-in-Ok-clause-text : goal.returns-in-Ok-clause-text
returns-in-Ok-clause-text g c =
    rows_put c.args.cup.now c.args.found.now.club _ _ _ c.args.lines.now _ _ _
    c.put_lines.result c.name_in_cup-name.ensures c.word_of_finding.ensures
    c.in-Ok.ensures.text c.put_lines.ensures.text

pub returns-in-Err-clause-text : goal.returns-in-Err-clause-text
returns-in-Err-clause-text g c =
    rows_front c.args.cup.now c.args.found.now.club _ _ _ c.args.lines.now _ _
    c.name_in_cup-name.ensures c.word_of_finding.ensures c.in-Err.ensures.text
