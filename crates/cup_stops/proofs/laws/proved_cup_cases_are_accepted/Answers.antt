use Rattle.cup_stops.proofs.CupStopLemmas.{proved_cases}
use Rattle.cup_stops.proofs.laws.proved_cup_cases_are_accepted.Goals as goal

pub returns : goal.returns
returns c = proved_cases
