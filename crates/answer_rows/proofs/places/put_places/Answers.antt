use Rattle.std.proofs.Common.{◌∙◌, arith, refl}
use Rattle.answer_rows.proofs.OutputLemmas.{due-more, due-front, text-next}
use Rattle.answer_rows.specs.inside.Places.{text_of_place}
use Rattle.answer_rows.proofs.places.put_places.Goals as goal

pub loop-found-preserved : goal.loop-found-preserved
loop-found-preserved g c =
    let all = c.args.rows.now in
    let i = c.loop-found.found-index in (
      due-more _ _ _ _ _ _ _ c.loop-found.invariant.0
          (text-next (text_of_place c.args.sheet.now) all i _ _ (omega arith) refl)
          c.in-Ok.ensures.text,
      c.in-Ok.ensures.counts ∙ c.loop-found.invariant.1,
    )

pub returns-in-Err-clause-text : goal.returns-in-Err-clause-text
returns-in-Err-clause-text g c =
    let all = c.args.rows.now in
    let i = c.loop-found.found-index in
    due-front _ _ _ _ _ _ _ c.loop-found.invariant.0
    (text-next (text_of_place c.args.sheet.now) all i _ _ (omega arith) refl) c.in-Err.ensures.text
