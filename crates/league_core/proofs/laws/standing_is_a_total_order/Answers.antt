use Rattle.league_core.proofs.StandingLemmas.{standing_in_total, standing_in-one, standing_in-alike}
use Rattle.league_core.proofs.StandingLemmas.{standing_in-alike_right}
use Rattle.league_core.proofs.laws.standing_is_a_total_order.Goals as goal

pub returns-clause-total : goal.returns-clause-total
returns-clause-total c = standing_in_total

pub returns-clause-one : goal.returns-clause-one
returns-clause-one c = standing_in-one

pub returns-clause-blocks : goal.returns-clause-blocks
returns-clause-blocks c = standing_in-alike

pub returns-clause-thirds : goal.returns-clause-thirds
returns-clause-thirds c = standing_in-alike_right
