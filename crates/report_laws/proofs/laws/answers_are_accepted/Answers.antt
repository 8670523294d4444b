use Rattle.report_laws.proofs.AcceptedTextLemmas.{texts_accepted}
use Rattle.report_laws.proofs.ByteLemmas.{bytes_of_answers}
use Rattle.report_laws.proofs.ItemLemmas.{answer_of_findings}
use Rattle.report_laws.proofs.ReportLemmas.{report_of_answers}
use Rattle.report_laws.proofs.laws.answers_are_accepted.Goals as goal

pub returns-clause-answers : goal.returns-clause-answers
returns-clause-answers c = answer_of_findings

pub returns-clause-reports : goal.returns-clause-reports
returns-clause-reports c = report_of_answers

pub returns-clause-bytes : goal.returns-clause-bytes
returns-clause-bytes c = bytes_of_answers

pub returns-clause-texts : goal.returns-clause-texts
returns-clause-texts c = texts_accepted
