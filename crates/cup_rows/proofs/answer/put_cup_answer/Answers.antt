use Rattle.cup_rows.proofs.CupMadeLemmas.{answer_puts, answer_stops}
use Rattle.cup_rows.proofs.answer.put_cup_answer.Goals as goal

pub returns-in-Ok-clause-text : goal.returns-in-Ok-clause-text
returns-in-Ok-clause-text g c =
    answer_puts c.args.proofs c.args.cup.now c.args.seasons.now c.requires.cup
    c.args.answer.now.epoch c.args.answer.now.clubs.items _ _ _ c.put_items.result
    c.requires.found c.in-Ok.ensures.text (rw c.as_slice.ensures.value at c.put_items.ensures.text)

pub returns-in-Err-clause-text : goal.returns-in-Err-clause-text
returns-in-Err-clause-text g c =
    answer_stops c.args.proofs c.args.cup.now c.args.seasons.now c.requires.cup
    c.args.answer.now.epoch c.args.answer.now.clubs.items _ _ c.put_ask.result c.in-Err.stop
    c.requires.found
    c.in-Err.ensures.text
