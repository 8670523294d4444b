use Rattle.report_laws.proofs.AcceptedCupTextLemmas.{cup_texts_accepted}
use Rattle.report_laws.proofs.CupReportLemmas.{written_cup_reports}
use Rattle.report_laws.proofs.laws.cup_answers_are_accepted.Goals as goal

pub returns-clause-bytes : goal.returns-clause-bytes
returns-clause-bytes c = written_cup_reports

pub returns-clause-texts : goal.returns-clause-texts
returns-clause-texts c = cup_texts_accepted
