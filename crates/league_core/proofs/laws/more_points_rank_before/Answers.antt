use Rattle.league_core.proofs.TableLemmas.{ranks_before-more, ranks_before-points}
use Rattle.league_core.proofs.laws.more_points_rank_before.Goals as goal

pub returns-clause-more : goal.returns-clause-more
returns-clause-more c = ranks_before-more

pub returns-clause-fewer : goal.returns-clause-fewer
returns-clause-fewer c = ranks_before-points
