use Rattle.club_keys.proofs.KeyOrderLemmas.{above_or_below, from_itself, from_lesser, one_if_both}
use Rattle.club_keys.proofs.key_laws.keys_are_in_order.Goals as goal

pub returns-clause-apart : goal.returns-clause-apart
returns-clause-apart c = above_or_below

pub returns-clause-itself : goal.returns-clause-itself
returns-clause-itself c = from_itself

pub returns-clause-along : goal.returns-clause-along
returns-clause-along c = from_lesser

pub returns-clause-one : goal.returns-clause-one
returns-clause-one c = one_if_both
