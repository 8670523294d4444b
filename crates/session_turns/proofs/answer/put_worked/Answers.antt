use Rattle.command_words.specs.declared.command.Mode.TheVariants.{Table, Scores, WhatIf}
use Rattle.command_words.specs.declared.command.Mode.TheVariants.{Decide}
use Rattle.session_turns.proofs.AnswerLemmas.{as-mode, found-answer, found-settled, resumed-live}
use Rattle.session_turns.proofs.answer.put_worked.Goals as goal

pub put_found-requires-clause-live : goal.put_found-requires-clause-live
put_found-requires-clause-live g c =
    resumed-live c.args.mode c.in-Verdicts.proofs c.args.pool.now c.in-Verdicts.is c.requires.live

pub put_found-requires-clause-settled : goal.put_found-requires-clause-settled
put_found-requires-clause-settled g c =
    found-settled c.args.mode c.in-Verdicts.proofs c.args.pool.now c.in-Verdicts.is
    c.requires.worked

pub returns-in-Verdicts-clause-answer : goal.returns-in-Verdicts-clause-answer
returns-in-Verdicts-clause-answer g c = λ saved kept.
    found-answer c.args.mode c.in-Verdicts.proofs c.args.pool.now c.args.about saved _ _
    c.put_found.result c.in-Verdicts.is kept c.put_found.ensures.answer

pub returns-in-Table-clause-answer : goal.returns-in-Table-clause-answer
returns-in-Table-clause-answer g c = λ saved kept.
    as-mode c.args.mode Table c.args.pool.now c.args.about saved _ _ c.put_order.result
    c.in-Table.is
    (c.put_order.ensures.answer saved)

pub returns-in-Scores-clause-answer : goal.returns-in-Scores-clause-answer
returns-in-Scores-clause-answer g c = λ saved kept.
    as-mode c.args.mode Scores c.args.pool.now c.args.about saved _ _ c.put_numbers.result
    c.in-Scores.is
    (c.put_numbers.ensures.answer saved)

pub returns-in-WhatIf-clause-answer : goal.returns-in-WhatIf-clause-answer
returns-in-WhatIf-clause-answer g c = λ saved kept.
    as-mode c.args.mode WhatIf c.args.pool.now c.args.about saved _ _ c.put_outcomes.result
    c.in-WhatIf.is
    (c.put_outcomes.ensures.answer saved)

pub returns-in-Decide-clause-answer : goal.returns-in-Decide-clause-answer
returns-in-Decide-clause-answer g c = λ saved kept.
    as-mode c.args.mode (Decide c.in-Decide.proofs) c.args.pool.now c.args.about saved _ _
    c.put_decisions.result c.in-Decide.is
    (c.put_decisions.ensures.answer saved)
