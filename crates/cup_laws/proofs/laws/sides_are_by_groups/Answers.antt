use Rattle.cup_laws.proofs.WayLemmas.{sides_by_groups}
use Rattle.cup_laws.proofs.WayBackLemmas.{groups_make_sides}
use Rattle.cup_laws.proofs.laws.sides_are_by_groups.Goals as goal

pub returns-clause-parts : goal.returns-clause-parts
returns-clause-parts c = sides_by_groups

pub returns-clause-back : goal.returns-clause-back
returns-clause-back c = groups_make_sides
