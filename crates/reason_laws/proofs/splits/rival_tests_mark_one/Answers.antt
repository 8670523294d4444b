use Rattle.league_core.proofs.HalfLemmas.{options_kept}
use Rattle.reason_laws.proofs.MarkLemmas.{one_rival_marked}
use Rattle.reason_laws.proofs.splits.rival_tests_mark_one.Goals as goal

pub returns-clause-options : goal.returns-clause-options
returns-clause-options c = options_kept

pub returns-clause-marks : goal.returns-clause-marks
returns-clause-marks c = one_rival_marked
