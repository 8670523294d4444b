use Rattle.std.proofs.Common.{None}
use Rattle.cert_text.specs.Lines.{text_of_proof_line}
use Rattle.answer_rows.specs.inside.Verdicts.{text_of_verdicts}
use Rattle.command_words.specs.declared.command.Mode.TheVariants.{Resume}
use Rattle.session_turns.proofs.AnswerLemmas.{puts-answer, verdicts-answer}
use Rattle.session_turns.proofs.answer.put_found.Goals as goal

pub returns-clause-answer : goal.returns-clause-answer
returns-clause-answer g c =
    let found = c.in-Ok.found.items in
    λ saved kept.
    puts-answer (Resume c.args.proofs) c.args.pool.now None saved _ _
    (text_of_verdicts text_of_proof_line c.args.proofs c.sheet.result.now c.epoch.result found)
    c.put_verdicts.result
    (verdicts-answer c.args.proofs c.args.pool.now found saved _ _ c.requires.live
    c.recall_invariant.ensures.sound c.requires.settled kept
    c.sheet.ensures.sheet c.epoch.ensures c.in-Ok.ensures.answer c.in-Ok.ensures.of_pool)
    (rw c.as_slice.ensures.value at c.put_verdicts.ensures.text)
