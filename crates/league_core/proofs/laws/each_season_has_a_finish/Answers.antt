use Rattle.league_core.proofs.OneVerdictLemmas.{some_finish}
use Rattle.league_core.proofs.laws.each_season_has_a_finish.Goals as goal

pub returns : goal.returns
returns c = some_finish
