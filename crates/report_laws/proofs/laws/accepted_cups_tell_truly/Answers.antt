use Rattle.cup_grammar.proofs.CupRowLemmas.{accepted_is_true}
use Rattle.report_laws.proofs.AcceptedCupLemmas.{accepted_cups}
use Rattle.report_laws.proofs.laws.accepted_cups_tell_truly.Goals as goal

pub returns : goal.returns
returns c = accepted_cups accepted_is_true
