use Rattle.what_if.proofs.OutcomeTextLemmas.{outcome_put}
use Rattle.what_if.proofs.when.put_outcome.Goals as goal

pub put_found-requires : goal.put_found-requires
put_found-requires g c =
    rw (c.sheet.ensures.sheet, c.as_slice.ensures.value) c.in-Ok.ensures.in_range

pub returns-in-Ok-clause-text : goal.returns-in-Ok-clause-text
returns-in-Ok-clause-text g c =
    outcome_put c.args.stage.now.sheet c.args.stage.now.season c.args.about.epoch
    c.args.about.fixture c.args.outcome c.in-Ok.found.items _ _ c.put_found.result
    c.in-Ok.ensures.answer
    (rw (c.sheet.ensures.sheet, c.as_slice.ensures.value) at c.put_found.ensures.text)
