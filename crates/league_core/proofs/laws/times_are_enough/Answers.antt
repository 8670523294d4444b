use Rattle.league_core.proofs.TimesLemmas.{lead_within-enough}
use Rattle.league_core.proofs.laws.times_are_enough.Goals as goal

pub returns : goal.returns
returns c sheet season group club other times more =
    lead_within-enough times more sheet season group club other
