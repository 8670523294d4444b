use Rattle.cup_rows.specs.inside.VerdictLines.{word_of_finding}
use Rattle.cup_rows.proofs.CupPutLemmas.{item_puts}
use Rattle.cup_rows.proofs.put.put_cup_item.Goals as goal

pub returns-in-Ok-clause-text : goal.returns-in-Ok-clause-text
returns-in-Ok-clause-text g c =
    item_puts c.args.proofs c.args.cup.now c.args.seasons.now c.args.found.now.club
    (word_of_finding c.args.found.now.finding) c.in-Ok.lines.items _ _ c.put_rows.result
    c.in-Ok.ensures.shown (rw c.as_slice.ensures.value at c.put_rows.ensures.text)
