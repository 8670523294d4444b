use Rattle.session_turns.proofs.AnswerLemmas.{outcomes-answer}
use Rattle.session_turns.proofs.answer.put_outcomes.Goals as goal

pub returns-in-Some-clause-answer : goal.returns-in-Some-clause-answer
returns-in-Some-clause-answer g c =
    λ saved.
    rw c.in-Some.is (outcomes-answer c.args.pool.now c.in-Some.fixture saved _ _ _ _ _
    c.put_when.result c.requires.live c.sheet-sheet.ensures.sheet c.season-season.ensures.season
    c.epoch.ensures c.put_when.ensures.text)
