use Rattle.reason_laws.proofs.KeyLemmas.{key_parts_in_range, key_between}
use Rattle.reason_laws.proofs.key_laws.keys_lie_between.Goals as goal

pub returns-clause-parts : goal.returns-clause-parts
returns-clause-parts c = key_parts_in_range

pub returns-clause-keys : goal.returns-clause-keys
returns-clause-keys c = key_between
