use Rattle.cert_check.proofs.TruthLemmas.{part_true}
use Rattle.cert_check.proofs.laws.proved_rows_are_true.Goals as goal

pub returns : goal.returns
returns c = part_true
