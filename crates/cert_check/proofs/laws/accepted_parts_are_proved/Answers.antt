use Rattle.cert_check.proofs.ReportLemmas.{accepted_is_proved}
use Rattle.cert_check.proofs.laws.accepted_parts_are_proved.Goals as goal

pub returns : goal.returns
returns c = accepted_is_proved
