use Rattle.cert_check.proofs.ReportLemmas.{proved_is_accepted}
use Rattle.cert_check.proofs.laws.proved_parts_are_accepted.Goals as goal

pub returns : goal.returns
returns c = proved_is_accepted
