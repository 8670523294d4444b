use Rattle.std.proofs.Common.{◌∙◌, arith}
use Rattle.cup_rows.proofs.CupMadeLemmas.{items_more, items_stop}
use Rattle.cup_rows.proofs.answer.put_items.Goals as goal

pub loop-found-preserved : goal.loop-found-preserved
loop-found-preserved g c = (
  items_more c.args.proofs c.args.cup.now c.args.seasons.now c.requires.cup c.args.clubs.now
      c.loop-found.found-index c.found-item.result _ _ _ (omega arith) c.found-item.is
      c.loop-found.invariant.0 c.in-Ok.ensures.text,
  c.in-Ok.ensures.counts ∙ c.loop-found.invariant.1,
)

pub returns-in-Err-clause-text : goal.returns-in-Err-clause-text
returns-in-Err-clause-text g c =
    items_stop c.args.proofs c.args.cup.now c.args.seasons.now c.requires.cup c.args.clubs.now
    c.loop-found.found-index c.found-item.result _ _ _ c.put_cup_item.result c.in-Err.stop
    c.requires.found (omega arith) c.found-item.is c.in-Err.is c.loop-found.invariant.0
    c.put_cup_item.ensures.text
