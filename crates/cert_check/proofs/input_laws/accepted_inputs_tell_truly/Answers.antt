use Rattle.cert_check.proofs.OutcomeLemmas.{accepted_tells_truly}
use Rattle.cert_check.proofs.input_laws.accepted_inputs_tell_truly.Goals as goal

pub returns : goal.returns
returns c = accepted_tells_truly
