use Rattle.turning_keys.proofs.TurningKeyLemmas.{turning_key_exists}
use Rattle.turning_keys.proofs.laws.turning_keys_exist.Goals as goal

pub returns : goal.returns
returns c = λ sheet season claim club below. turning_key_exists sheet season club below claim
