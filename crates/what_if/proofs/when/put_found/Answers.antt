use Rattle.std.proofs.Common.{false}
use Rattle.cert_text.specs.Lines.{text_of_proof_line}
use Rattle.answer_rows.specs.inside.Verdicts.{text_of_items}
use Rattle.answer_rows.proofs.OutputLemmas.{front-more, puts-behind}
use Rattle.what_if.specs.WhenTexts.{when_row}
use Rattle.what_if.proofs.when.put_found.Goals as goal

pub returns-in-Ok-clause-text : goal.returns-in-Ok-clause-text
returns-in-Ok-clause-text g c =
    puts-behind (when_row c.args.about.epoch c.args.about.fixture c.args.outcome)
    (text_of_items text_of_proof_line false c.args.sheet.now c.args.verdicts.now)
    _ _ _ c.put_items.result
    c.in-Ok.ensures.text c.put_items.ensures.text

pub returns-in-Err-clause-text : goal.returns-in-Err-clause-text
returns-in-Err-clause-text g c =
    front-more (when_row c.args.about.epoch c.args.about.fixture c.args.outcome)
    (text_of_items text_of_proof_line false c.args.sheet.now c.args.verdicts.now)
    _ _ c.in-Err.ensures.text
