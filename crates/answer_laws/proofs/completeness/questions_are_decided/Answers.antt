use Rattle.answer_laws.proofs.DecidedLemmas.{question_decided, question_refuted}
use Rattle.answer_laws.proofs.completeness.questions_are_decided.Goals as goal

pub returns-clause-decided : goal.returns-clause-decided
returns-clause-decided c = question_decided

pub returns-clause-refuted : goal.returns-clause-refuted
returns-clause-refuted c = question_refuted
