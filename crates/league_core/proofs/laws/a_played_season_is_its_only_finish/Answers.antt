use Rattle.league_core.proofs.FinishLemmas.{played_finishes_itself, played_only_finish}
use Rattle.league_core.proofs.laws.a_played_season_is_its_only_finish.Goals as goal

pub returns-clause-itself : goal.returns-clause-itself
returns-clause-itself c = played_finishes_itself

pub returns-clause-only : goal.returns-clause-only
returns-clause-only c = played_only_finish
