use Rattle.reason_laws.proofs.ChoiceLemmas.{finishes_divided}
use Rattle.reason_laws.proofs.MarkLemmas.{marks_kept}
use Rattle.reason_laws.proofs.splits.score_tests_divide_finishes.Goals as goal

pub returns-clause-finishes : goal.returns-clause-finishes
returns-clause-finishes c = finishes_divided

pub returns-clause-marks : goal.returns-clause-marks
returns-clause-marks c = marks_kept
