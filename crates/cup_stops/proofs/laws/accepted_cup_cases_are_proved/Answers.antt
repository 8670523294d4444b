use Rattle.cup_stops.proofs.CupStopLemmas.{accepted_cases}
use Rattle.cup_stops.proofs.laws.accepted_cup_cases_are_proved.Goals as goal

pub returns : goal.returns
returns c = accepted_cases
