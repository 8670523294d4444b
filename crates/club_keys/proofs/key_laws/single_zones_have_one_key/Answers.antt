use Rattle.club_keys.proofs.SingleKeyLemmas.{ends_meet, key_meets}
use Rattle.club_keys.proofs.key_laws.single_zones_have_one_key.Goals as goal

pub returns-clause-ends : goal.returns-clause-ends
returns-clause-ends c = ends_meet

pub returns-clause-finish : goal.returns-clause-finish
returns-clause-finish c = key_meets
